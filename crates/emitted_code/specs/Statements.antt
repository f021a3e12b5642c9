-- The code of statements: it leaves the stack as it was. Outside of expressions there are the iterations of the loops and
-- the subjects of the `match` statements around.
use Rattle.std.specs.Prelude.{ℕ, suc, ◌+◌, Bool, true, false, List, [], ◌∷◌, ◌++◌, length, Option, None, Some, if◌then◌else◌}
use Rattle.gd_bytecode.specs.declared.opcode.Opcode.TheVariants as op
use Rattle.gd_model.specs.Datum.{null}
use Rattle.gd_model.specs.declared.ty.Ty.TheVariants as ty
use Rattle.gd_syntax.specs.declared.pos.Pos.{Pos}
use Rattle.syntax_trees.specs.Expressions.{Expr, Exprs, Text, expr}
use Rattle.syntax_trees.specs.Expressions as e
use Rattle.syntax_trees.specs.Statements.{Branches, Cases, Stmt, StmtKind, Stmts, Variable, branch_and, else_do, if_do, no_branches, no_else, no_stmts, stmt, stmt_and}
use Rattle.syntax_trees.specs.Statements as s
use Rattle.source_semantics.specs.Statements.{is_range}
use Rattle.emitted_code.specs.Assignments.{assign}
use Rattle.emitted_code.specs.Expressions.{all, code, count, way}
use Rattle.emitted_code.specs.Foreseen.{guarded, test_each}
use Rattle.emitted_code.specs.Literals.{start_value}
use Rattle.emitted_code.specs.Locals.{locals, locals_in}
use Rattle.emitted_code.specs.Matches.{behind_keys, in_branch, match_branches}
use Rattle.emitted_code.specs.Scenes.{Scene, declare, declare_constant, is_class}
use Rattle.emitted_code.specs.Steps.{Code, again, back, clear, closed, give_up, out, over, plain, push, step}

-- The loop around: the first slot of its locals, its variable among them, and of its body's; how many iterations of its
-- own stand on the stack, and how many subjects of `match` statements above it.
pub record Around : Type 0 where
  pub own : ℕ
  pub body : ℕ
  pub iterations : ℕ
  pub subjects : ℕ

-- ---- `break` and `continue`

-- what stands on the stack since the loop began is given up, then the locals together, those of the loop too
abbrev pub break : Scene → Around → Pos → Code
break c a pos = give_up pos (a.subjects + a.iterations) ++ (clear pos a.own c.next ++ step pos out)

-- what stands there since its body began, and the locals of the body
abbrev pub continue : Scene → Around → Pos → Code
continue c a pos = give_up pos a.subjects ++ (clear pos a.body c.next ++ step pos again)

-- ---- statements without blocks

abbrev pub returned : Scene → Pos → Option Expr → Code
returned c pos None = step pos (push null)
returned c pos (Some x) = code c x

-- an expression whose value is given up; a class is only gone to
abbrev pub plainly : Scene → Pos → Expr → Code
plainly c pos x = if is_class c x then way c x else code c x ++ step pos (plain op.Drop 1 0)

-- a local begins with its value, which Set tests at the `=`, or with the start value of its type
abbrev pub set_local : Scene → Variable → Option Expr → Option Pos → Code
set_local c v (Some x) (Some equals) = code c x ++ step equals (plain op.Set c.next 0)
set_local c v value equals = start_value v.pos (c.project.place_type v.pos) ++ step v.pos (plain op.Set c.next 0)

-- the end of an assertion that fails, with its message or without
abbrev pub fails : Scene → Pos → Option Expr → Code
fails c pos None = step pos (plain op.Fail 0 0)
fails c pos (Some x) = code c x ++ step pos (plain op.Fail 1 0)

-- a condition that holds leads over that
abbrev pub asserted : Scene → Pos → Expr → Option Expr → Code
asserted c pos x message =
    let failing : Code = fails c pos message in code c x ++ (step pos (over op.JumpIf 0 (length failing)) ++ failing)

-- ---- the scene behind a statement: its local is in force, and the locals of its blocks have had their slots

abbrev pub behind_kind : Scene → ℕ → StmtKind → Scene
behind_kind c n (s.local v) = declare v.name c
behind_kind c n (s.local_const v) = declare_constant v.name (c.project.constant v.pos) c
behind_kind c n kind = record c { next = c.next + n }

abbrev pub behind : Scene → Stmt → Scene
behind c (stmt pos last notes kind) =
    behind_kind c (length (locals_in c.project (stmt pos last notes kind))) kind

abbrev pub behind_block : Scene → Stmts → Scene
behind_block c body = record c { next = c.next + length (locals c.project body) }

-- a block's code, and behind it its locals become unset together
abbrev pub block : Pos → Scene → Stmts → Code → Code
block pos c body code = code ++ clear pos c.next (behind_block c body).next

-- ---- `if`: a condition that does not hold leads over its block to what comes else, and behind a block a jump leads over
-- ---- that; where nothing comes else, none is needed

abbrev pub if_alone : Pos → Code → Code → Code
if_alone pos condition body = condition ++ (step pos (over op.JumpIfNot 0 (length body)) ++ body)

abbrev pub if_else : Pos → Code → Code → Code → Code
if_else pos condition body other =
    condition ++ (step pos (over op.JumpIfNot 0 (suc (length body))) ++ (body
    ++ (step pos (over op.Jump 0 (length other)) ++ other)))

abbrev pub if_by : Pos → Code → Code → Cases → Code → Code
if_by pos condition body no_else other = if_alone pos condition body
if_by pos condition body more other = if_else pos condition body other

-- ---- `while`: a jump leads to the condition, which leads back to the turn and the body where it holds

abbrev pub while_loop : Pos → Code → Code → Code
while_loop pos condition body =
    step pos (over op.Jump 0 (suc (length body))) ++ (step pos (plain op.Turn 0 0)
    ++ (closed 0 (suc (length condition)) body ++ (condition
    ++ step pos (back op.JumpIf (suc (length condition + length body))))))

abbrev pub around_while : Scene → Around
around_while c = record { own = c.next; body = c.next; iterations = 0; subjects = 0 }

-- ---- `for`: the iteration stands on the stack. Next puts its next value above it, which Set takes into the variable; where
-- ---- there is none the iteration goes, and Next leads to the end, where the variable becomes unset

abbrev pub for_loop : Pos → Pos → ℕ → Code → Code → Code
for_loop at_name at slot iteration body =
    iteration ++ (step at (over op.Next 0 (4 + length body)) ++ (step at (plain op.Turn 0 0)
    ++ (step at_name (plain op.Set slot 0) ++ (closed 0 3 body ++ (step at (over op.Next 0 1)
    ++ (step at (back op.Jump (3 + length body)) ++ step at (plain op.Clear slot (suc slot))))))))

abbrev pub around_for : Scene → Around
around_for c = record { own = c.next; body = suc c.next; iterations = 1; subjects = 0 }

-- the numbers of a `range` that is written there become an iteration at once
abbrev pub range_of : Scene → Pos → Exprs → Code
range_of c pos xs =
    all c ty.Variant xs ++ (guarded pos (count xs) false (test_each (c.project.tests pos))
    ++ step pos (plain op.Range (count xs) 0))

abbrev pub subject_of : Scene → Pos → Expr → Code
subject_of c at x = code c x ++ step at (plain op.Iter 0 0)

abbrev pub iteration : Scene → Pos → Expr → Code
iteration c at (expr pos (e.call (expr q (e.name name)) xs)) =
    if is_range (c.project.found pos) then range_of c pos xs
    else subject_of c at (expr pos (e.call (expr q (e.name name)) xs))
iteration c at x = subject_of c at x

-- the subject of a `match` stands on the stack in its branches
abbrev pub in_match : Around → Around
in_match a = record a { subjects = suc a.subjects }

-- ---- statements

unfoldable mutual
  pub statements : Scene → Around → Stmts → Code
  statements c a no_stmts = []
  statements c a (stmt_and x xs) = statement c a x ++ statements (behind c x) a xs

  pub statement : Scene → Around → Stmt → Code
  statement c a (stmt pos last notes kind) = statement_of c a pos kind

  -- one case for each form
  pub statement_of : Scene → Around → Pos → StmtKind → Code
  statement_of c a pos s.pass = []
  statement_of c a pos s.break = break c a pos
  statement_of c a pos s.continue = continue c a pos
  statement_of c a pos (s.return x) = returned c pos x ++ step pos (plain op.Return 0 0)
  statement_of c a pos (s.plain x) = plainly c pos x
  statement_of c a pos (s.assign operator at target value) =
      assign c target (record { at = at; operator = operator; value = value })
  statement_of c a pos (s.local v) = set_local c v v.value v.equals
  -- the value of a local constant is there before the run
  statement_of c a pos (s.local_const v) = []
  statement_of c a pos (s.choice xs) = choices c a pos xs
  statement_of c a pos (s.while x body) =
      while_loop pos (code c x) (block pos c body (statements c (around_while c) body))
  statement_of c a pos (s.for name at_name typed at x body) =
      let inside = declare name c in
      for_loop at_name at c.next (iteration c at x) (block at inside body (statements inside (around_for c) body))
  statement_of c a pos (s.match x xs) =
      code c x ++ match_branches c pos xs (blocks (behind_keys c xs) (in_match a) xs)
  statement_of c a pos (s.assert x message) = asserted c pos x message

  -- the conditions of an `if` with their blocks, one after another
  pub choices : Scene → Around → Pos → Cases → Code
  choices c a pos no_else = []
  choices c a pos (else_do body) = block pos c body (statements c a body)
  choices c a pos (if_do x body more) =
      if_by pos (code c x) (block pos c body (statements c a body)) more (choices (behind_block c body) a pos more)

  -- the blocks of the branches of a `match`, each with the slot behind its locals
  pub blocks : Scene → Around → Branches → List (Code × ℕ)
  blocks c a no_branches = []
  blocks c a (branch_and patterns guard body more) =
      let inside : Scene = in_branch patterns c in
      let next : ℕ = (behind_block inside body).next in
      (statements inside a body, next) ∷ blocks (record c { next = next }) a more
