-- Statements with more turns.
use Rattle.std.proofs.Common.{ℕ, zero, suc, ◌<◌, ◌+◌, List, [], ◌∷◌, ◌++◌, length, refl}
use Rattle.std.specs.Prelude as int
use Rattle.std.specs.Prelude.{Bool, true, false, Option, None, Some, Result, Ok, Err, if◌then◌else◌}
use Rattle.gd_model.specs.Datum.{Datum}
use Rattle.gd_model.specs.declared.fault.RunFault.{RunFault}
use Rattle.gd_model.specs.declared.fault.RunFault.TheVariants.{AssertionFailed, NotIterable, TooLong}
use Rattle.gd_model.specs.declared.ty.Ty.{Ty}
use Rattle.gd_syntax.specs.declared.pos.Pos.{Pos}
use Rattle.syntax_trees.specs.Expressions.{Expr, Exprs, Text}
use Rattle.syntax_trees.specs.Statements.{Branches, Cases, Stmt, StmtKind, Stmts, Variable, branch_and, else_do, if_do, no_branches, no_else, no_stmts, stmt, stmt_and}
use Rattle.syntax_trees.specs.Statements as s
use Rattle.value_semantics.specs.Builtins.{range_args}
use Rattle.value_semantics.specs.Printed.{printed}
use Rattle.source_semantics.specs.Control.{Control, by_break, by_continue, close_block, closed, inner_block, leave, left, next, opened, outer_blocks, return, with_subject}
use Rattle.source_semantics.specs.Meaning.{Frame}
use Rattle.source_semantics.specs.Project.{bases, names}
use Rattle.source_semantics.specs.State.{Block, Run, Went, declare, declare_in, held_in, if_so, set_local, settled, store, tested, then_do, went}
use Rattle.source_semantics.specs.State as state
use Rattle.source_semantics.specs.Statements.{Execute, Subject, after_body, after_turn, assert_fails, assert_that, begin_loop, declare_constant, declare_local, end_branch, execute, execute_branch, execute_case, for_each, for_loop, for_turn, go_on, held_by, in_block, in_branch, initial, loop_over, loop_range, message_of, next_by, next_value, one_statement, range_call, range_values, return_with, set_variable, statement, subject_of, values, while_loop}
use Rattle.source_semantics.specs.Types.{fits_type}
use Rattle.source_semantics.proofs.Grown.{Bound, Goes, Step, extends_self, goes_after, goes_below, goes_by, goes_failed, goes_if, goes_if_so, goes_tested, goes_then, goes_value, goes_went, step_of, step_self, step_settled, step_then}
use Rattle.source_semantics.proofs.GrownAssignments.{goes_assign}
use Rattle.source_semantics.proofs.GrownCalls.{goes_foreseen}
use Rattle.source_semantics.proofs.GrownExpressions.{goes_condition, goes_evaluate, goes_evaluate_all, goes_nothing_asked}
use Rattle.source_semantics.proofs.GrownMatching.{goes_match_branch}
use Rattle.source_semantics.proofs.GrownPair.{Pair, goes_start, left_of, right_of}
use Rattle.source_semantics.proofs.GrownTurns.{Keeps, goes_by_fuel, goes_use_turn, keeps_after, keeps_both, keeps_by, keeps_if_so, keeps_use_turn, kept, less, less_below, nothing_below, pred_less}

-- ---- blocks

step_opened : Step opened
step_opened = step_of (λ w bs. w) (λ w bs. [] ∷ bs) (λ w bs. refl)

step_closed : Step closed
step_closed = step_of (λ w bs. w) (λ w bs. outer_blocks bs) (λ w bs. refl)

pub step_declare : (l : state.Local) → Step (declare l)
step_declare l = step_of (λ w bs. w) (λ w bs. declare_in l bs) (λ w bs. refl)

step_left : (hand subjects locals : List Datum) → Step (left hand subjects locals)
step_left hand subjects locals = step_then (step_settled (locals ++ hand)) (step_settled hand)

goes_close_block : {n : Bound} (hand : List Datum) (control : Control) → Goes n (close_block hand control)
    (close_block hand control)
goes_close_block hand next = goes_value next (step_then step_closed (step_settled hand))
goes_close_block hand (leave how subjects locals) =
    goes_went (λ r. leave how subjects (locals ++ held_in (inner_block r.blocks))) (λ r t. refl) step_closed
goes_close_block hand (return v) = goes_value (return v) step_self

-- the bound is any here: what closes a block asks no turns
none : Bound
none = record { left = 0; right = 0 }

keeps_close_block : (hand : List Datum) (control : Control) → Keeps (close_block hand control)
keeps_close_block hand control = kept (goes_close_block {n = none} hand control)

goes_in_block : {n : Bound} (body other : Execute) (hand : List Datum) → Goes n (body hand) (other hand)
    → Goes n (λ r. in_block body hand r) (λ r. in_block other hand r)
goes_in_block body other hand g = goes_then (goes_after step_opened g) (λ control. goes_close_block hand control)

keeps_in_block : (body : Execute) (hand : List Datum) → Keeps (body hand) → Keeps (λ r. in_block body hand r)
keeps_in_block body hand k = keeps_both (keeps_after step_opened k) (λ control. keeps_close_block hand control)

-- ---- `while`

goes_after_body : {n : Bound} (hand : List Datum) (control : Control) {again other ends last : Run → Went Control}
    → Goes n again other → Goes n ends last
    → Goes n (λ r. after_body hand control r again ends) (λ r. after_body hand control r other last)
goes_after_body hand next a e = a
goes_after_body hand (leave by_continue subjects locals) a e = goes_after (step_left hand subjects locals) a
goes_after_body hand (leave by_break subjects locals) a e = goes_after (step_left hand subjects locals) e
goes_after_body hand (return v) a e = goes_value (return v) step_self

keeps_after_body : (hand : List Datum) (control : Control) {again ends : Run → Went Control} → Keeps again → Keeps ends
    → Keeps (λ r. after_body hand control r again ends)
keeps_after_body hand next a e = a
keeps_after_body hand (leave by_continue subjects locals) a e = keeps_after (step_left hand subjects locals) a
keeps_after_body hand (leave by_break subjects locals) a e = keeps_after (step_left hand subjects locals) e
keeps_after_body hand (return v) a e = record { adds = λ r. extends_self r.world }

keeps_next : Keeps (λ r. went next r)
keeps_next = record { adds = λ r. extends_self r.world }

keeps_while : (b : ℕ) (test : Run → Went Bool) (body : Execute) (hand : List Datum) → Keeps test → Keeps (body hand)
    → Keeps (λ r. while_loop b test body hand r)
unfolding while_loop
keeps_while zero test body hand t k = record { adds = λ r. extends_self r.world }
keeps_while (suc b) test body hand t k =
    keeps_both t (λ yes. keeps_if_so yes
    (keeps_use_turn (keeps_both (keeps_in_block body hand k) (λ control.
    keeps_after_body hand control (keeps_while b test body hand t k) keeps_next)))
    keeps_next)

goes_while : (a b : ℕ) (n : Bound) (test test' : Run → Went Bool) (body other : Execute) (hand : List Datum)
    → n.left < a → n.right < b
    → Goes n test test' → Goes n (body hand) (other hand)
    → Goes n (λ r. while_loop a test body hand r) (λ r. while_loop b test' other hand r)
unfolding while_loop
goes_while zero b n test test' body other hand ha hb t g = absurd (nothing_below n.left ha)
goes_while (suc a) zero n test test' body other hand ha hb t g = absurd (nothing_below n.right hb)
goes_while (suc a) (suc b) n test test' body other hand ha hb t g =
    goes_then t (λ yes. goes_if_so yes
    (goes_use_turn
    (keeps_both (keeps_in_block other hand (kept g))
    (λ control. keeps_after_body hand control (keeps_while b test' other hand (kept t) (kept g)) keeps_next))
    (λ hl hr. goes_then (goes_in_block body other hand (goes_below (less_below n) g)) (λ control.
    goes_after_body hand control
    (goes_while a b (less n) test test' body other hand (pred_less n.left a hl ha) (pred_less n.right b hr hb)
    (goes_below (less_below n) t) (goes_below (less_below n) g))
    (goes_value next step_self))))
    (goes_value next step_self))

keeps_while_by : (test : Run → Went Bool) (body : Execute) (hand : List Datum) → Keeps test → Keeps (body hand)
    → (b : ℕ) → Keeps (λ r. while_loop b test body hand r)
keeps_while_by test body hand t k b = keeps_while b test body hand t k

goes_whole_while : {n : Bound} (test test' : Run → Went Bool) (body other : Execute) (hand : List Datum)
    → Goes n test test' → Goes n (body hand) (other hand)
    → Goes n (λ r. while_loop (suc r.turns) test body hand r) (λ r. while_loop (suc r.turns) test' other hand r)
goes_whole_while test test' body other hand t g =
    goes_by_fuel {F = λ a r. while_loop a test body hand r} {G = λ b r. while_loop b test' other hand r}
    (λ b. keeps_while b test' other hand (kept t) (kept g))
    (λ a b m below ha hb. goes_while a b m test test' body other hand ha hb (goes_below below t) (goes_below below g))

module _ (q : Pair) where
  -- ---- `for`

  goes_set_variable : {n : Bound} (frame : Frame) (name : Text) (pos : Pos) (hand : List Datum) (v : Datum)
      → Goes n (λ r. set_variable (left_of q frame) name pos hand r v)
      (λ r. set_variable (right_of q frame) name pos hand r v)
  goes_set_variable frame name pos hand v =
      goes_then (goes_tested pos (λ r. fits_type (bases q.project) (store r) (q.project.place_type pos) v)
      (λ r t. refl))
      (λ _. goes_value tt (step_then (step_of (λ w bs. w) (λ w bs. set_local name v bs) (λ w bs. refl))
      (step_settled hand)))

  step_ends : (hand locals : List Datum) → Step (λ r. settled hand (closed (settled (locals ++ hand) r)))
  step_ends hand locals = step_then (step_settled (locals ++ hand)) (step_then step_closed (step_settled hand))

  goes_after_turn : {n : Bound} (hand held : List Datum) (control : Control) (again other : Run → Went Control)
      → Goes n again other
      → Goes n (after_turn hand held again control) (after_turn hand held other control)
  goes_after_turn hand held next again other g = g
  goes_after_turn hand held (leave by_continue subjects locals) again other g = goes_after
      (step_left held subjects locals) g
  goes_after_turn hand held (leave by_break subjects locals) again other g = goes_value next (step_ends hand locals)
  goes_after_turn hand held (return v) again other g = goes_value (return v) step_self

  keeps_after_turn : (hand held : List Datum) (control : Control) (again : Run → Went Control) → Keeps again
      → Keeps (after_turn hand held again control)
  keeps_after_turn hand held next again k = k
  keeps_after_turn hand held (leave by_continue subjects locals) again k = keeps_after (step_left held subjects locals)
      k
  keeps_after_turn hand held (leave by_break subjects locals) again k = kept {n = none}
      (goes_value next (step_ends hand locals))
  keeps_after_turn hand held (return v) again k = record { adds = λ r. extends_self r.world }

  goes_last : {n : Bound} (hand : List Datum) → Goes n (λ r. went next (settled hand (closed (settled hand r))))
      (λ r. went next (settled hand (closed (settled hand r))))
  goes_last hand = goes_value next (step_ends hand [])

  keeps_for_turn : (frame : Frame) (body : Execute) (hand held : List Datum) (name : Text) (pos : Pos)
      (again : Run → Went Control) (x : Option Datum)
      → Keeps (body held) → Keeps again → Keeps (λ r. for_turn (right_of q frame) body hand held name pos again x r)
  keeps_for_turn frame body hand held name pos again None b k = kept {n = none} (goes_last hand)
  keeps_for_turn frame body hand held name pos again (Some v) b k =
      keeps_use_turn (keeps_both (kept {n = none} (goes_set_variable frame name pos held v)) (λ _.
      keeps_both (keeps_in_block body held b) (λ control. keeps_after_turn hand held control again k)))

  goes_for_turn : {n : Bound} (frame : Frame) (body other : Execute) (hand held : List Datum) (name : Text) (pos : Pos)
      (again more : Run → Went Control) (x : Option Datum)
      → Goes n (body held) (other held) → Keeps more → (0 < n.left → 0 < n.right → Goes (less n) again more)
      → Goes n (λ r. for_turn (left_of q frame) body hand held name pos again x r)
      (λ r. for_turn (right_of q frame) other hand held name pos more x r)
  goes_for_turn frame body other hand held name pos again more None g k h = goes_last hand
  goes_for_turn {n = n} frame body other hand held name pos again more (Some v) g k h =
      goes_use_turn
      (keeps_both (kept {n = none} (goes_set_variable frame name pos held v)) (λ _.
      keeps_both (keeps_in_block other held (kept g)) (λ control. keeps_after_turn hand held control more k)))
      (λ hl hr. goes_then (goes_set_variable frame name pos held v) (λ _.
      goes_then (goes_in_block body other held (goes_below (less_below n) g))
      (λ control. goes_after_turn hand held control again more (h hl hr))))

  keeps_for : (b : ℕ) (frame : Frame) (body : Execute) (hand subject : List Datum) (over : Subject) (i : ℕ)
      (name : Text) (pos : Pos)
      → Keeps (body (subject ++ hand)) → Keeps (λ r. for_loop b (right_of q frame) body hand subject over i name pos r)
  unfolding for_loop
  keeps_for zero frame body hand subject over i name pos k = record { adds = λ r. extends_self r.world }
  keeps_for (suc b) frame body hand subject over i name pos k =
      keeps_by (λ r. next_value r over i) (λ x. keeps_for_turn frame body hand (subject ++ hand) name pos _ x k
      (keeps_for b frame body hand subject over (i + 1) name pos k))

  goes_for : (a b : ℕ) (n : Bound) (frame : Frame) (body other : Execute) (hand subject : List Datum) (over : Subject)
      (i : ℕ) (name : Text) (pos : Pos)
      → n.left < a → n.right < b → Goes n (body (subject ++ hand)) (other (subject ++ hand))
      → Goes n (λ r. for_loop a (left_of q frame) body hand subject over i name pos r)
      (λ r. for_loop b (right_of q frame) other hand subject over i name pos r)
  unfolding for_loop
  goes_for zero b n frame body other hand subject over i name pos ha hb g = absurd (nothing_below n.left ha)
  goes_for (suc a) zero n frame body other hand subject over i name pos ha hb g = absurd (nothing_below n.right hb)
  goes_for (suc a) (suc b) n frame body other hand subject over i name pos ha hb g =
      goes_by (λ r. next_value r over i) (λ r t. refl)
      (λ x. goes_for_turn frame body other hand (subject ++ hand) name pos _ _ x g
      (keeps_for b frame other hand subject over (i + 1) name pos (kept g))
      (λ hl hr. goes_for a b (less n) frame body other hand subject over (i + 1) name pos (pred_less n.left a hl ha)
      (pred_less n.right b hr hb)
      (goes_below (less_below n) g)))

  step_begins : (name : Text) (pos : Pos)
      → Step (λ r. declare (record { name = name; at = pos; value = None }) (opened r))
  step_begins name pos = step_then step_opened (step_declare (record { name = name; at = pos; value = None }))

  goes_begin_loop : {n : Bound} (frame : Frame) (body other : Execute) (hand subject : List Datum) (over : Subject)
      (name : Text) (pos : Pos)
      → Goes n (body (subject ++ hand)) (other (subject ++ hand))
      → Goes n (λ r. begin_loop (left_of q frame) body hand subject over r name pos)
      (λ r. begin_loop (right_of q frame) other hand subject over r name pos)
  goes_begin_loop frame body other hand subject over name pos g =
      goes_by_fuel
      {F = λ a r. for_loop a (left_of q frame) body hand subject over 0 name pos
      (declare (record { name = name; at = pos; value = None }) (opened r))}
      {G = λ b r. for_loop b (right_of q frame) other hand subject over 0 name pos
      (declare (record { name = name; at = pos; value = None }) (opened r))}
      (λ b. keeps_after (step_begins name pos) (keeps_for b frame other hand subject over 0 name pos (kept g)))
      (λ a b m below ha hb. goes_after (step_begins name pos)
      (goes_for a b m frame body other hand subject over 0 name pos ha hb (goes_below below g)))

  goes_loop_over : {n : Bound} (frame : Frame) (body other : Execute) (at : Pos) (hand : List Datum) (name : Text)
      (pos : Pos) (v : Datum) (x : Option Subject)
      → ((held : List Datum) → Goes n (body held) (other held))
      → Goes n (λ r. loop_over (left_of q frame) body at hand r name pos v x)
      (λ r. loop_over (right_of q frame) other at hand r name pos v x)
  goes_loop_over frame body other at hand name pos v None g = goes_failed NotIterable at None
  goes_loop_over frame body other at hand name pos v (Some over) g =
      goes_begin_loop frame body other hand (held_by v over) over name pos (g (held_by v over ++ hand))

  goes_loop_range : {n : Bound} (frame : Frame) (body other : Execute) (at : Pos) (hand : List Datum) (name : Text)
      (pos : Pos) (x : Result (List Datum) RunFault)
      → ((held : List Datum) → Goes n (body held) (other held))
      → Goes n (λ r. loop_range (left_of q frame) body at hand r name pos x)
      (λ r. loop_range (right_of q frame) other at hand r name pos x)
  goes_loop_range frame body other at hand name pos (Err f) g = goes_failed f at None
  goes_loop_range frame body other at hand name pos (Ok vs) g =
      goes_begin_loop frame body other hand [] (values vs) name pos (g ([] ++ hand))

  goes_for_each : (frame : Frame) (body other : Execute) (hand : List Datum) (name : Text) (pos at : Pos) (x : Expr)
      (y : Option (Pos × Exprs))
      → ((held : List Datum) → Goes q.bound (body held) (other held))
      → Goes q.bound (λ r. for_each (left_of q frame) body hand r name pos at x y)
      (λ r. for_each (right_of q frame) other hand r name pos at x y)
  goes_for_each frame body other hand name pos at x (Some y) g =
      goes_then (goes_evaluate_all q frame _ _ (goes_nothing_asked q) hand y.1) (λ vs.
      goes_then (goes_foreseen q (q.project.tests y.0) vs) (λ _.
      goes_loop_range frame body other y.0 hand name pos (range_values (range_args vs)) g))
  goes_for_each frame body other hand name pos at x None g =
      goes_then (goes_evaluate q frame hand x) (λ v.
      goes_by (λ r. subject_of r v) (λ r t. refl) (λ y. goes_loop_over frame body other at hand name pos v y g))

  -- ---- locals, `return`, `assert`

  goes_initial : (frame : Frame) (t : Ty) (pos : Pos) (hand : List Datum) (x : Option Expr) (y : Option Pos)
      → Goes q.bound (λ r. initial (left_of q frame) t pos hand r x y)
      (λ r. initial (right_of q frame) t pos hand r x y)
  goes_initial frame t pos hand (Some x) (Some equals) =
      goes_then (goes_evaluate q frame hand x) (λ v.
      goes_then (goes_tested equals (λ r. fits_type (bases q.project) (store r) t v) (λ r t. refl))
      (λ _. goes_value (Some v) step_self))
  goes_initial frame t pos hand x y = goes_then (goes_start pos t) (λ v. goes_value (Some v) step_self)

  goes_declare_local : (frame : Frame) (hand : List Datum) (x : Variable)
      → Goes q.bound (λ r. declare_local (left_of q frame) hand r x) (λ r. declare_local (right_of q frame) hand r x)
  goes_declare_local frame hand x =
      goes_then (goes_initial frame (q.project.place_type x.pos) x.pos hand x.value x.equals) (λ value.
      goes_value next (step_then (step_declare (record { name = x.name; at = x.pos; value = value }))
      (step_settled hand)))

  goes_declare_constant : (frame : Frame) (x : Variable)
      → Goes q.bound (λ r. declare_constant (left_of q frame) r x) (λ r. declare_constant (right_of q frame) r x)
  goes_declare_constant frame x =
      goes_value next (step_declare (record { name = x.name; at = x.pos; value = Some (q.project.constant x.pos) }))

  goes_return_with : (frame : Frame) (pos : Pos) (hand : List Datum) (x : Option Expr)
      → Goes q.bound (λ r. return_with (left_of q frame) pos hand r x)
      (λ r. return_with (right_of q frame) pos hand r x)
  goes_return_with frame pos hand None = goes_value _ step_self
  goes_return_with frame pos hand (Some x) =
      goes_then (goes_evaluate q frame hand x) (λ v.
      goes_then (goes_tested pos (λ r. fits_type (bases q.project) (store r) frame.returns v) (λ r t. refl))
      (λ _. goes_value (return v) step_self))

  goes_message_of : (frame : Frame) (pos : Pos) (text : Text)
      → Goes q.bound (λ r. message_of (left_of q frame) pos r text) (λ r. message_of (right_of q frame) pos r text)
  goes_message_of frame pos text =
      goes_if (int.nat_lt 16777216 (length text)) (goes_failed TooLong pos None)
      (goes_failed AssertionFailed pos (Some text))

  goes_assert_fails : (frame : Frame) (pos : Pos) (hand : List Datum) (x : Option Expr)
      → Goes q.bound (λ r. assert_fails (left_of q frame) pos hand r x)
      (λ r. assert_fails (right_of q frame) pos hand r x)
  goes_assert_fails frame pos hand None = goes_failed AssertionFailed pos None
  goes_assert_fails frame pos hand (Some m) =
      goes_then (goes_evaluate q frame hand m) (λ v.
      goes_by (λ r. printed (store r) (names q.project) v) (λ r t. refl) (λ text. goes_message_of frame pos text))

  goes_assert_that : (frame : Frame) (pos : Pos) (hand : List Datum) (x : Expr) (message : Option Expr)
      → Goes q.bound (λ r. assert_that (left_of q frame) pos hand r x message)
      (λ r. assert_that (right_of q frame) pos hand r x message)
  goes_assert_that frame pos hand x message =
      goes_then (goes_condition q frame hand x) (λ yes.
      goes_if_so yes (goes_value next step_self) (goes_assert_fails frame pos hand message))

  -- ---- branches

  goes_end_branch : {n : Bound} (hand : List Datum) (subject : Datum) (control : Control)
      → Goes n (end_branch hand subject control) (end_branch hand subject control)
  goes_end_branch hand subject next = goes_value next (step_ends hand [])
  goes_end_branch hand subject (leave how subjects locals) =
      goes_then (goes_close_block hand (leave how subjects locals))
      (λ control. goes_value (with_subject (subject ∷ []) control) step_self)
  goes_end_branch hand subject (return v) = goes_value (return v) step_self

  goes_in_branch : {n : Bound} (body other : Execute) (hand : List Datum) (subject : Datum)
      (more others : Run → Went Control) (taken : Bool)
      → Goes n (body (subject ∷ hand)) (other (subject ∷ hand)) → Goes n more others
      → Goes n (λ r. in_branch body hand subject more taken r) (λ r. in_branch other hand subject others taken r)
  goes_in_branch body other hand subject more others taken g m =
      goes_if_so taken (goes_then g (λ control. goes_end_branch hand subject control))
      (goes_after (step_then step_closed (step_settled (subject ∷ hand))) m)

  -- ---- statements

  goes_next_by : {n : Bound} (more other : Run → Went Control) (control : Control) → Goes n more other
      → Goes n (next_by more control) (next_by other control)
  goes_next_by more other next g = g
  goes_next_by more other (leave how subjects locals) g = goes_value _ step_self
  goes_next_by more other (return v) g = goes_value _ step_self

  goes_go_on : {n : Bound} {F G more other : Run → Went Control} → Goes n F G → Goes n more other
      → Goes n (λ r. go_on (F r) more) (λ r. go_on (G r) other)
  goes_go_on {more = more} {other = other} f m = goes_then f (λ control. goes_next_by more other control m)

  mutual
    unfolding execute

    pub goes_execute : (frame : Frame) (hand : List Datum) (x : Stmts)
        → Goes q.bound (λ r. execute (left_of q frame) hand r x) (λ r. execute (right_of q frame) hand r x)
    goes_execute frame hand no_stmts = goes_value next step_self
    goes_execute frame hand (stmt_and x xs) = goes_go_on (goes_one_statement frame hand x) (goes_execute frame hand xs)

    goes_one_statement : (frame : Frame) (hand : List Datum) (x : Stmt)
        → Goes q.bound (λ r. one_statement (left_of q frame) hand r x) (λ r. one_statement (right_of q frame) hand r x)
    goes_one_statement frame hand (stmt pos last notes kind) = goes_statement frame pos hand kind

    goes_statement : (frame : Frame) (pos : Pos) (hand : List Datum) (x : StmtKind)
        → Goes q.bound (λ r. statement (left_of q frame) pos hand r x) (λ r. statement (right_of q frame) pos hand r x)
    goes_statement frame pos hand s.pass = goes_value _ step_self
    goes_statement frame pos hand s.break = goes_value _ step_self
    goes_statement frame pos hand s.continue = goes_value _ step_self
    goes_statement frame pos hand (s.return x) = goes_return_with frame pos hand x
    goes_statement frame pos hand (s.plain x) = goes_then (goes_evaluate q frame hand x)
        (λ v. goes_value next (step_settled hand))
    goes_statement frame pos hand (s.assign op at target value) =
        goes_then (goes_assign q frame at hand op target value) (λ _. goes_value next step_self)
    goes_statement frame pos hand (s.local v) = goes_declare_local frame hand v
    goes_statement frame pos hand (s.local_const v) = goes_declare_constant frame v
    goes_statement frame pos hand (s.choice cases) = goes_execute_case frame hand cases
    goes_statement frame pos hand (s.while x body) =
        goes_whole_while _ _ (λ hand r. execute (left_of q frame) hand r body)
        (λ hand r. execute (right_of q frame) hand r body) hand
        (goes_condition q frame hand x) (goes_execute frame hand body)
    goes_statement frame pos hand (s.for name at_name typed at x body) =
        goes_for_each frame (λ hand r. execute (left_of q frame) hand r body)
        (λ hand r. execute (right_of q frame) hand r body)
        hand name at_name at x (range_call (left_of q frame) x) (λ held. goes_execute frame held body)
    goes_statement frame pos hand (s.match x branches) =
        goes_then (goes_evaluate q frame hand x) (λ v. goes_execute_branch frame hand v branches)
    goes_statement frame pos hand (s.assert x message) = goes_assert_that frame pos hand x message

    goes_execute_case : (frame : Frame) (hand : List Datum) (x : Cases)
        → Goes q.bound (λ r. execute_case (left_of q frame) hand r x) (λ r. execute_case (right_of q frame) hand r x)
    goes_execute_case frame hand no_else = goes_value next step_self
    goes_execute_case frame hand (else_do body) =
        goes_in_block (λ hand r. execute (left_of q frame) hand r body)
        (λ hand r. execute (right_of q frame) hand r body) hand (goes_execute frame hand body)
    goes_execute_case frame hand (if_do x body more) =
        goes_then (goes_condition q frame hand x) (λ yes. goes_if_so yes
        (goes_in_block (λ hand r. execute (left_of q frame) hand r body)
        (λ hand r. execute (right_of q frame) hand r body) hand (goes_execute frame hand body))
        (goes_execute_case frame hand more))

    goes_execute_branch : (frame : Frame) (hand : List Datum) (subject : Datum) (x : Branches)
        → Goes q.bound (λ r. execute_branch (left_of q frame) hand subject r x)
        (λ r. execute_branch (right_of q frame) hand subject r x)
    goes_execute_branch frame hand subject no_branches = goes_value next (step_settled hand)
    goes_execute_branch frame hand subject (branch_and patterns guard body more) =
        goes_then (goes_after step_opened (goes_match_branch q frame (subject ∷ hand) subject patterns guard)) (λ taken.
        goes_in_branch (λ hand r. execute (left_of q frame) hand r body)
        (λ hand r. execute (right_of q frame) hand r body) hand subject _ _ taken
        (goes_execute frame (subject ∷ hand) body) (goes_execute_branch frame hand subject more))
