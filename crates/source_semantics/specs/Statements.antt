-- What statements do.
use Rattle.std.specs.Prelude.{ℕ, zero, suc, ◌-◌, ◌+◌, ◌==◌, ℤ, Bool, true, false, List, [], ◌∷◌, ◌++◌, length, map, slice_get, unwrap_or, Option, None, Some, bytes_eq, codes, if◌then◌else◌, Result, Ok, Err}
use Rattle.std.specs.Prelude as int
use Rattle.gd_members.specs.declared.Found.{Found}
use Rattle.gd_members.specs.declared.Found.TheVariants as found
use Rattle.gd_model.specs.Datum as d
use Rattle.gd_model.specs.Datum.{Datum, null}
use Rattle.gd_model.specs.Store.{array_at, dict_at}
use Rattle.gd_model.specs.declared.fault.RunFault.{RunFault}
use Rattle.gd_model.specs.declared.fault.RunFault.TheVariants.{AssertionFailed, NotIterable, TooLong, ValueOfAnotherType}
use Rattle.gd_model.specs.declared.ty.Ty.{Ty}
use Rattle.gd_syntax.specs.declared.pos.Pos.{Pos}
use Rattle.syntax_trees.specs.Expressions.{Expr, Exprs, Text, expr, place}
use Rattle.syntax_trees.specs.Expressions as e
use Rattle.syntax_trees.specs.Statements.{Branches, Cases, Stmt, StmtKind, Stmts, Variable, branch_and, else_do, if_do, no_branches, no_else, no_stmts, stmt, stmt_and}
use Rattle.syntax_trees.specs.Statements as s
use Rattle.value_semantics.specs.Answer.{and_then}
use Rattle.value_semantics.specs.Builtins.{range_args}
use Rattle.value_semantics.specs.Printed.{printed}
use Rattle.value_semantics.specs.Ranges.{ints_from, range_gives, range_size}
use Rattle.source_semantics.specs.Assignments.{assign}
use Rattle.source_semantics.specs.Control.{Control, by_break, by_continue, close_block, closed, leave, left, next, opened, return, with_subject}
use Rattle.source_semantics.specs.Expressions.{Context, condition, evaluate, evaluate_all, nothing_asked}
use Rattle.source_semantics.specs.Functions.{foreseen}
use Rattle.source_semantics.specs.Matching.{match_branch}
use Rattle.source_semantics.specs.Project.{bases, names}
use Rattle.source_semantics.specs.State.{Run, Went, at_place, declare, failed, if_so, ran_out, set_local, settled, store, tested, then_do, went}
use Rattle.source_semantics.specs.Types.{fits_type, start_value}

-- what a block does, under values that are held
abbrev pub Execute : Type 0
Execute = List Datum → Run → Went Control

-- a statement that goes on with the next one
abbrev pub goes_on : {A : Type 0} → Went A → Went Control
goes_on x = then_do x (λ _ r. went next r)

-- ---- locals

-- a value for a place with a written type is tested at its `=`
abbrev pub initial : Context → Ty → Pos → List Datum → Run → Option Expr → Option Pos → Went (Option Datum)
initial c t pos hand r (Some x) (Some equals) =
    then_do (evaluate c hand r x) (λ v r. then_do (tested equals (fits_type (bases c.project) (store r) t v) r)
    (λ _ r. went (Some v) r))
initial c t pos hand r _ _ = then_do (at_place pos r (start_value r.world t)) (λ v r. went (Some v) r)

-- a local begins with its value, or with the start value of its type
abbrev pub declare_local : Context → List Datum → Run → Variable → Went Control
declare_local c hand r x =
    then_do (initial c (c.project.place_type x.pos) x.pos hand r x.value x.equals) (λ value r.
    went next (settled hand (declare (record { name = x.name; at = x.pos; value = value }) r)))

-- the value of a local constant was made before the run
abbrev pub declare_constant : Context → Run → Variable → Went Control
declare_constant c r x = went next
    (declare (record { name = x.name; at = x.pos; value = Some (c.project.constant x.pos) }) r)

-- ---- blocks

-- a block in which further locals stand
abbrev pub in_block : Execute → Execute
in_block body hand r = then_do (body hand (opened r)) (λ control r. close_block hand control r)

-- ---- `return`, `assert`

-- the result is tested against the function's type, at the word
abbrev pub return_with : Context → Pos → List Datum → Run → Option Expr → Went Control
return_with c pos hand r None = went (return null) r
return_with c pos hand r (Some x) =
    then_do (evaluate c hand r x) (λ v r. then_do
    (tested pos (fits_type (bases c.project) (store r) c.frame.returns v) r) (λ _ r. went (return v) r))

abbrev pub message_of : Context → Pos → Run → Text → Went Control
message_of c pos r text =
    if int.nat_lt 16777216 (length text) then failed TooLong pos None r.world else failed AssertionFailed pos
    (Some text) r.world

abbrev pub assert_fails : Context → Pos → List Datum → Run → Option Expr → Went Control
assert_fails c pos hand r None = failed AssertionFailed pos None r.world
assert_fails c pos hand r (Some m) =
    then_do (evaluate c hand r m) (λ v r. message_of c pos r (printed (store r) (names c.project) v))

-- the message is evaluated only where the condition is false
abbrev pub assert_that : Context → Pos → List Datum → Run → Expr → Option Expr → Went Control
assert_that c pos hand r x message =
    then_do (condition c hand r x) (λ yes r. if_so yes (λ r. went next r) (λ r. assert_fails c pos hand r message) r)

-- ---- branches

-- The end of the branch that is taken leaves the `match` and the branch's block in one step: the subject first, and
-- then the locals.
abbrev pub end_branch : List Datum → Datum → Control → Run → Went Control
end_branch hand subject next r = went next (settled hand (closed (settled hand r)))
end_branch hand subject (return v) r = went (return v) r
end_branch hand subject control r = then_do (close_block hand control r)
    (λ control r. went (with_subject (subject ∷ []) control) r)

-- a branch that is taken, and what comes where it is not: its bindings are given up together at once
abbrev pub in_branch : Execute → List Datum → Datum → (Run → Went Control) → Bool → Run → Went Control
in_branch body hand subject others taken r =
    if_so taken (λ r. then_do (body (subject ∷ hand) r) (λ control r. end_branch hand subject control r))
    (λ r. others (settled (subject ∷ hand) (closed r))) r

-- ---- loops

-- a turn is used as it begins
abbrev pub use_turn : {A : Type 0} → Run → (Run → Went A) → ℕ → Went A
use_turn r more zero = ran_out r.world
use_turn r more (suc left) = more (record r { turns = left })

abbrev pub take_turn : Run → (Run → Went Control) → Went Control
take_turn r more = use_turn r more r.turns

-- the end of a loop's body: the next turn, the end of the loop, or a way out of the function
abbrev pub after_body : List Datum → Control → Run → (Run → Went Control) → (Run → Went Control) → Went Control
after_body hand next r again ends = again r
after_body hand (leave by_continue subjects locals) r again ends = again (left hand subjects locals r)
after_body hand (leave by_break subjects locals) r again ends = ends (left hand subjects locals r)
after_body hand (return v) r again ends = went (return v) r

-- no loop has more turns than are left
unfoldable pub while_loop : ℕ → (Run → Went Bool) → Execute → Execute
while_loop zero test body hand r = ran_out r.world
while_loop (suc turns) test body hand r =
    then_do (test r) (λ yes r.
    if_so yes (λ r. take_turn r (λ r. then_do (in_block body hand r) (λ control r.
    after_body hand control r (λ r. while_loop turns test body hand r) (λ r. went next r))))
    (λ r. went next r) r)

-- what a loop goes over: values that are settled when it begins, or an array by its places, against its size at each
-- turn
pub data Subject : Type 0 where
  values : List Datum → Subject
  elements : ℕ → Subject

-- the next value, by its place
abbrev pub next_value : Run → Subject → ℕ → Option Datum
next_value r (values vs) i = slice_get vs i
next_value r (elements s) i = slice_get (array_at (store r) s).items i

-- the variable takes the value, after the turn, and is tested at its name
abbrev pub set_variable : Context → Text → Pos → List Datum → Run → Datum → Went (Unit {0})
set_variable c name pos hand r v =
    then_do (tested pos (fits_type (bases c.project) (store r) (c.project.place_type pos) v) r) (λ _ r.
    went tt (settled hand (record r { blocks = set_local name v r.blocks })))

-- the end of a turn. Where the loop is left by `break`, subjects go first, its own among them, and then the locals, its
-- variable among them; `held` has its subject, and `hand` has it no longer
abbrev pub after_turn : List Datum → List Datum → (Run → Went Control) → Control → Run → Went Control
after_turn hand held again next r = again r
after_turn hand held again (leave by_continue subjects locals) r = again (left held subjects locals r)
after_turn hand held again (leave by_break subjects locals) r = went next
    (settled hand (closed (settled (locals ++ hand) r)))
after_turn hand held again (return v) r = went (return v) r

-- a turn with the next value; where there is none, the loop ends: the subject goes, and then the variable
abbrev pub for_turn : Context → Execute → List Datum → List Datum → Text → Pos → (Run → Went Control) → Option Datum
    → Run → Went Control
for_turn c body hand held name pos again None r = went next (settled hand (closed (settled hand r)))
for_turn c body hand held name pos again (Some v) r =
    take_turn r (λ r. then_do (set_variable c name pos held r v) (λ _ r.
    then_do (in_block body held r) (λ control r. after_turn hand held again control r)))

-- the loop over a subject from a place on
unfoldable pub for_loop : ℕ → Context → Execute → List Datum → List Datum → Subject → ℕ → Text → Pos → Run
    → Went Control
for_loop zero c body hand subject over i name pos r = ran_out r.world
for_loop (suc turns) c body hand subject over i name pos r =
    for_turn c body hand (subject ++ hand) name pos (λ r. for_loop turns c body hand subject over (i + 1) name pos r)
    (next_value r over i) r

abbrev pub characters : List ℕ → List Datum
characters [] = []
characters (x ∷ xs) = d.text (x ∷ []) ∷ characters xs

-- what a value is gone over by: an int from 0 up, an array by its places, a dictionary by its keys as they were, a
-- String by its characters
abbrev pub subject_of : Run → Datum → Option Subject
subject_of r (d.int (int.pos n)) = Some (values (ints_from (int.pos 0) (int.pos 1) n))
subject_of r (d.int (int.negsuc n)) = Some (values [])
subject_of r (d.array s) = Some (elements s)
subject_of r (d.dictionary s) = Some (values (map (λ q. q.0) (dict_at (store r) s).pairs))
subject_of r (d.text t) = Some (values (characters t))
subject_of r _ = None

abbrev pub held_by : Datum → Subject → List Datum
held_by v (values vs) = v ∷ vs
held_by v (elements s) = v ∷ []

abbrev pub begin_loop : Context → Execute → List Datum → List Datum → Subject → Run → Text → Pos → Went Control
begin_loop c body hand subject over r name pos =
    for_loop (suc r.turns) c body hand subject over 0 name pos (declare (record { name = name; at = pos; value = None })
    (opened r))

abbrev pub loop_over : Context → Execute → Pos → List Datum → Run → Text → Pos → Datum → Option Subject → Went Control
loop_over c body at hand r name pos v None = failed NotIterable at None r.world
loop_over c body at hand r name pos v (Some over) = begin_loop c body hand (held_by v over) over r name pos

-- ---- `range(..)` as a subject makes no array; its arguments are tested as those of a call

abbrev pub range_values : Result (ℤ × ℤ × ℤ) RunFault → Result (List Datum) RunFault
range_values (Err f) = Err ValueOfAnotherType
range_values (Ok q) = and_then (range_gives q.0 q.1 q.2) (λ _. Ok (ints_from q.0 q.2 (range_size q.0 q.1 q.2)))

abbrev pub loop_range : Context → Execute → Pos → List Datum → Run → Text → Pos → Result (List Datum) RunFault
    → Went Control
loop_range c body at hand r name pos (Err f) = failed f at None r.world
loop_range c body at hand r name pos (Ok vs) = begin_loop c body hand [] (values vs) r name pos

abbrev pub is_range : Found → Bool
is_range (found.Builtin number) = number == 5
is_range _ = false

-- the place and the arguments of a call of `range` that is written as the subject
abbrev pub range_call : Context → Expr → Option (Pos × Exprs)
range_call c (expr pos (e.call (expr at (e.name name)) xs)) = if is_range (c.project.found at) then Some
    (pos, xs) else None
range_call c _ = None

abbrev pub for_each : Context → Execute → List Datum → Run → Text → Pos → Pos → Expr → Option (Pos × Exprs)
    → Went Control
for_each c body hand r name pos at x (Some q) =
    then_do (evaluate_all c nothing_asked hand r q.1) (λ vs r. then_do (foreseen c.project (c.project.tests q.0) vs r)
    (λ _ r.
    loop_range c body q.0 hand r name pos (range_values (range_args vs))))
for_each c body hand r name pos at x None =
    then_do (evaluate c hand r x) (λ v r. loop_over c body at hand r name pos v (subject_of r v))

-- ---- statements

abbrev pub next_by : (Run → Went Control) → Control → Run → Went Control
next_by more next r = more r
next_by more control r = went control r

abbrev pub go_on : Went Control → (Run → Went Control) → Went Control
go_on done more = then_do done (λ control r. next_by more control r)

-- statements one after another
unfoldable mutual
  pub execute : Context → List Datum → Run → Stmts → Went Control
  execute c hand r no_stmts = went next r
  execute c hand r (stmt_and x xs) = go_on (one_statement c hand r x) (λ r. execute c hand r xs)

  pub one_statement : Context → List Datum → Run → Stmt → Went Control
  one_statement c hand r (stmt pos last notes kind) = statement c pos hand r kind

  -- one case for each form
  pub statement : Context → Pos → List Datum → Run → StmtKind → Went Control
  statement c pos hand r s.pass = went next r
  statement c pos hand r s.break = went (leave by_break [] []) r
  statement c pos hand r s.continue = went (leave by_continue [] []) r
  statement c pos hand r (s.return x) = return_with c pos hand r x
  statement c pos hand r (s.plain x) = then_do (evaluate c hand r x) (λ v r. went next (settled hand r))
  statement c pos hand r (s.assign op at target value) = goes_on (assign c at hand r op target value)
  statement c pos hand r (s.local v) = declare_local c hand r v
  statement c pos hand r (s.local_const v) = declare_constant c r v
  statement c pos hand r (s.choice cases) = execute_case c hand r cases
  statement c pos hand r (s.while x body) =
      while_loop (suc r.turns) (λ r. condition c hand r x) (λ hand r. execute c hand r body) hand r
  statement c pos hand r (s.for name at_name typed at x body) =
      for_each c (λ hand r. execute c hand r body) hand r name at_name at x (range_call c x)
  statement c pos hand r (s.match x branches) = then_do (evaluate c hand r x)
      (λ v r. execute_branch c hand v r branches)
  statement c pos hand r (s.assert x message) = assert_that c pos hand r x message

  -- the block of the first condition that is true, or that of `else`
  pub execute_case : Context → List Datum → Run → Cases → Went Control
  execute_case c hand r no_else = went next r
  execute_case c hand r (else_do body) = in_block (λ hand r. execute c hand r body) hand r
  execute_case c hand r (if_do x body more) =
      then_do (condition c hand r x) (λ yes r.
      if_so yes (λ r. in_block (λ hand r. execute c hand r body) hand r) (λ r. execute_case c hand r more) r)

  -- the first branch of a `match` that is taken
  pub execute_branch : Context → List Datum → Datum → Run → Branches → Went Control
  execute_branch c hand subject r no_branches = went next (settled hand r)
  execute_branch c hand subject r (branch_and patterns guard body more) =
      then_do (match_branch c (subject ∷ hand) subject (opened r) patterns guard) (λ taken r.
      in_branch (λ hand r. execute c hand r body) hand subject (λ r. execute_branch c hand subject r more) taken r)
