-- The code of `match`: the subject stands on the stack, and the nodes are laid out one after another. A test of a part of
-- the subject reads it anew, from a copy of the subject on; what is read stays until the test is made, and goes together.
use Rattle.std.specs.Prelude.{ℕ, suc, ◌+◌, ◌-◌, nat_lt, nat_eq, Bool, true, false, ◌&&◌, List, [], ◌∷◌, ◌++◌, length, filter, position, Option, None, Some, unwrap_or, slice_get, if◌then◌else◌}
use Rattle.std.specs.List.{flat_map}
use Rattle.gd_bytecode.specs.declared.opcode.Opcode.{Opcode}
use Rattle.gd_bytecode.specs.declared.opcode.Opcode.TheVariants as op
use Rattle.gd_model.specs.Datum.{Datum}
use Rattle.gd_model.specs.declared.ty.Ty.TheVariants as ty
use Rattle.gd_syntax.specs.declared.pos.Pos.{Pos}
use Rattle.syntax_trees.specs.Expressions.{Expr, Text, first_token, place}
use Rattle.syntax_trees.specs.Patterns.{Pattern}
use Rattle.syntax_trees.specs.Statements.{Branches, branch_and, no_branches}
use Rattle.source_semantics.specs.Words.{same_place}
use Rattle.emitted_code.specs.Expressions.{code}
use Rattle.emitted_code.specs.Locals.{bound, key_locals}
use Rattle.emitted_code.specs.Scenes.{Scene, declare}
use Rattle.emitted_code.specs.Steps.{Code, Does, Step, clear, ended, give_up, over, plain, push, step, to, typed}
use Rattle.emitted_code.specs.Tests.{Alternative, Node, Part, Test, all_keys, alternatives, begins, binds, element, equals, failures, has_key, has_size, is_kind, last_node, literal, nodes, value_at}

-- A `match`: its place, the first slot of its locals, and the keys that have locals, which come first.
pub record Match : Type 0 where
  pub pos : Pos
  pub first : ℕ
  pub keys : List Expr

abbrev pub match_of : Scene → Pos → Branches → Match
match_of c pos xs = record { pos = pos; first = c.next; keys = key_locals xs }

-- ---- scenes: behind the locals of the keys; with the names of a branch's patterns

abbrev pub behind_keys : Scene → Branches → Scene
behind_keys c xs = record c { next = c.next + length (key_locals xs) }

abbrev pub declare_names : List Text → Scene → Scene
declare_names [] c = c
declare_names (name ∷ names) c = declare_names names (declare name c)

abbrev pub in_branch : List Pattern → Scene → Scene
in_branch patterns c = declare_names (flat_map bound patterns) c

-- ---- keys and parts

abbrev pub key_slot : Match → Expr → ℕ
key_slot m k = m.first + unwrap_or (position (λ x. same_place (place x) (place k)) m.keys) 0

abbrev pub push_key : Match → Expr → Code
push_key m k = by_literal m k (literal k)
  where
    by_literal : Match → Expr → Option Datum → Code
    by_literal m k (Some x) = step (place k) (push x)
    by_literal m k None = step (place k) (plain op.Get (key_slot m k) 0)

-- a key that is no literal is evaluated before it is looked up
abbrev pub set_key : Scene → Match → Expr → Code
set_key c m k = by_literal c m k (literal k)
  where
    by_literal : Scene → Match → Expr → Option Datum → Code
    by_literal c m k (Some x) = []
    by_literal c m k None = code c k ++ step (place k) (plain op.Set (key_slot m k) 0)

abbrev pub look_up : Match → Expr → Code
look_up m k = push_key m k ++ step m.pos (plain op.KeyOf 0 0)

abbrev pub part_of : Match → Part → Code
part_of m (element i) = step m.pos (plain op.Elem i 0)
part_of m (value_at k) = look_up m k ++ give_up m.pos 1

-- a part of the subject, over which so many entries stand; it leaves one entry for the subject and for each step
abbrev pub read : Match → List Part → ℕ → Code
read m way above = step m.pos (plain op.Dup above 0) ++ flat_map (part_of m) way

-- ---- the ways on from a bool: what is left on the stack is given up, and on the way to `no` the branch's names go too

abbrev pub go_to : Match → ℕ → ℕ → Code
go_to m next node = if nat_eq node next then [] else step m.pos (to op.Jump node)

abbrev pub lose : Scene → Match → ℕ → ℕ → ℕ → Code
lose c m branch entries other = give_up m.pos entries ++ (clear m.pos branch c.next ++ step m.pos (to op.Jump other))

abbrev pub ways_on : Scene → Match → ℕ → ℕ → Node → Code
ways_on c m branch entries q =
    if nat_eq entries 0 && nat_eq branch c.next
    then step m.pos (to op.JumpIfNot q.if_not) ++ go_to m (suc q.number) q.if_so
    else (let lost : Code = lose c m branch entries q.if_not in
    step m.pos (over op.JumpIf 0 (length lost)) ++ (lost ++ (give_up m.pos entries ++ go_to m (suc q.number) q.if_so)))

-- ---- the nodes that test, by the slot of the branch's first local

abbrev pub compare : Scene → Match → ℕ → Node → List Part → Expr → Code
compare c m branch q [] x =
    step m.pos (plain op.Dup 0 0) ++ (code c x ++ (step (first_token x) (plain op.Same 0 0) ++ ways_on c m branch 0 q))
compare c m branch q way x =
    code c x ++ (read m way 1 ++ (step m.pos (plain op.Dup (suc (length way)) 0)
    ++ (step (first_token x) (plain op.Same 0 0) ++ ways_on c m branch (suc (length way)) q)))

abbrev pub kind_code : Match → Bool → Code
kind_code m array = step m.pos (typed op.Is (if array then ty.Array else ty.Dict))

abbrev pub size_code : Match → Bool → ℕ → Bool → Code
size_code m array n more = step m.pos (plain (if array then op.SizeArr else op.SizeDict) n (if more then 1 else 0))

abbrev pub test_code : Scene → Match → ℕ → Node → Test → Code
test_code c m branch q (is_kind way array) =
    read m way 0 ++ (kind_code m array ++ ways_on c m branch (length way) q)
test_code c m branch q (has_size way array n more) =
    read m way 0 ++ (size_code m array n more ++ ways_on c m branch (suc (length way)) q)
test_code c m branch q (has_key way k) =
    set_key c m k ++ (read m way 0 ++ (look_up m k ++ ways_on c m branch (suc (suc (length way))) q))
test_code c m branch q (equals way x) = compare c m branch q way x
test_code c m branch q (binds way name at) =
    read m way 0 ++ (step at (plain op.Set c.next 0) ++ give_up m.pos (length way))

-- a name is in force behind its test
abbrev pub behind_test : Scene → Test → Scene
behind_test c (binds way name at) = declare name c
behind_test c test = c

abbrev pub test_codes : Scene → Match → ℕ → List Node → List Code
test_codes c m branch [] = []
test_codes c m branch (q ∷ qs) =
    test_code c m branch q q.test ∷ test_codes (behind_test c q.test) m branch qs

-- ---- the other nodes

-- a guard leads to the end of its branch, which stands next, or to the next branch
abbrev pub guard_code : Scene → Match → ℕ → ℕ → Option Expr → List Code
guard_code c m branch other None = []
guard_code c m branch other (Some x) = (code c x ++ ways c m branch other) ∷ []
  where
    ways : Scene → Match → ℕ → ℕ → Code
    ways c m branch other =
        if nat_eq branch c.next then step m.pos (to op.JumpIfNot other)
        else (let lost : Code = lose c m branch 0 other in step m.pos (over op.JumpIf 0 (length lost)) ++ lost)

-- the end of a branch that is taken: the subject goes, and then all locals of the `match`
abbrev pub end_branch : Match → ℕ → Code
end_branch m next = give_up m.pos 1 ++ (clear m.pos m.first next ++ step m.pos ended)

abbrev pub end_match : Match → Code
end_match m = give_up m.pos 1 ++ clear m.pos m.first (m.first + length m.keys)

-- ---- all nodes, by the blocks of the branches, each with the slot behind its locals

abbrev pub of_branch : ℕ → List Node → List Node
of_branch branch qs = filter (λ (q : Node). nat_eq q.branch branch) qs

abbrev pub branch_codes : Scene → Match → List Alternative → List Node → ℕ → ℕ → Branches → List (Code × ℕ) → List Code
branch_codes c m xs qs last branch no_branches blocks = end_match m ∷ []
branch_codes c m xs qs last branch (branch_and patterns guard body more) [] = []
branch_codes c m xs qs last branch (branch_and patterns guard body more) (block ∷ blocks) =
    test_codes c m c.next (of_branch branch qs)
    ++ (guard_code (in_branch patterns c) m c.next (begins last (suc branch) xs) guard
    ++ ((block.0 ++ end_branch m block.1)
    ∷ branch_codes (record c { next = block.1 }) m xs qs last (suc branch) more blocks))

-- ---- jumps to nodes and to the end, once it is known where these stand

abbrev pub starts : ℕ → List Code → List ℕ
starts k [] = []
starts k (x ∷ xs) = k ∷ starts (k + length x) xs

abbrev pub joined : List Code → Code
joined codes = flat_map (λ x. x) codes

abbrev pub lead_to : List ℕ → ℕ → ℕ → Does → Does
lead_to places end k (to o node) = over o 0 (unwrap_or (slice_get places node) 0 - suc k)
lead_to places end k ended = over op.Jump 0 (end - suc k)
lead_to places end k does = does

abbrev pub landed : List ℕ → ℕ → ℕ → Code → Code
landed places end k [] = []
landed places end k (s ∷ ss) = record s { does = lead_to places end k s.does } ∷ landed places end (suc k) ss

abbrev pub laid_out : List Code → Code
laid_out codes = let all : Code = joined codes in landed (starts 0 codes) (length all) 0 all

-- the branches of a `match`
abbrev pub match_branches : Scene → Pos → Branches → List (Code × ℕ) → Code
match_branches c pos xs blocks =
    let all : List Expr = all_keys xs in
    let last : ℕ = last_node all 0 xs in
    let tried : List Alternative = alternatives all 0 0 xs in
    laid_out (branch_codes (behind_keys c xs) (match_of c pos xs) tried (nodes tried (failures last tried)) last 0 xs blocks)
