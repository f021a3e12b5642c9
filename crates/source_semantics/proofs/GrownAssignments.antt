-- Assignments with more turns.
use Rattle.std.proofs.Common.{ℕ, List, ◌∷◌, refl}
use Rattle.std.specs.Prelude.{bytes_eq, Option, None, Some}
use Rattle.std.specs.List.{list_any}
use Rattle.gd_members.specs.declared.Found.{Found}
use Rattle.gd_members.specs.declared.Found.TheVariants as found
use Rattle.gd_model.specs.Datum.{Datum}
use Rattle.gd_syntax.specs.declared.operator.Operator.{Operator}
use Rattle.gd_syntax.specs.declared.pos.Pos.{Pos}
use Rattle.syntax_trees.specs.Declarations.{DeclKind}
use Rattle.syntax_trees.specs.Declarations as decl
use Rattle.syntax_trees.specs.Expressions.{Expr, ExprKind, Text, expr}
use Rattle.syntax_trees.specs.Expressions as e
use Rattle.source_semantics.specs.Assignments.{assign, assign_attribute, assigned, new_value, old_value, test_known, write_bare, write_global, write_kind, write_local_or_global, write_member, write_name}
use Rattle.source_semantics.specs.Expressions.{class_meant, member_at, self, self_serial}
use Rattle.source_semantics.specs.Meaning.{Frame}
use Rattle.source_semantics.specs.Project.{Member, Variable, bases, is_static, name_of}
use Rattle.source_semantics.specs.State.{Local, Run, Went, local, set_local, store}
use Rattle.source_semantics.specs.Types.{fits_type}
use Rattle.source_semantics.proofs.Grown.{Goes, goes_by, goes_if, goes_tested, goes_then, goes_value, step_of, step_self, step_settled, step_then}
use Rattle.source_semantics.proofs.GrownAttributes.{goes_read_attribute, goes_read_index, goes_store_variable, goes_write_attribute, goes_write_index, goes_write_static, goes_write_variable}
use Rattle.source_semantics.proofs.GrownExpressions.{goes_bare_name, goes_evaluate, goes_of_class, goes_operate}
use Rattle.source_semantics.proofs.GrownPair.{Pair, left_of, right_of}

module _ (q : Pair) where
  goes_test_known : (frame : Frame) (at target : Pos) (v : Datum)
      → Goes q.bound (λ r. test_known (left_of q frame) at target v r)
      (λ r. test_known (right_of q frame) at target v r)
  goes_test_known frame at target v = goes_tested at
      (λ r. fits_type (bases q.project) (store r) (q.project.typed target) v) (λ r t. refl)

  -- ---- bare names

  goes_write_bare : (frame : Frame) (at : Pos) (hand : List Datum) (v : Datum) (x : Variable)
      → Goes q.bound (λ r. write_bare (left_of q frame) at hand r v x)
      (λ r. write_bare (right_of q frame) at hand r v x)
  goes_write_bare frame at hand v x =
      goes_if (is_static x) (goes_write_static q at hand x v) (goes_if (list_any (bytes_eq (name_of x)) frame.direct)
      (goes_store_variable q at hand (self_serial (self frame)) x v)
      (goes_write_variable q frame at hand (self_serial (self frame)) x v))

  goes_write_kind : (frame : Frame) (at : Pos) (hand : List Datum) (v : Datum) (class : ℕ) (x : DeclKind)
      → Goes q.bound (λ r. write_kind (left_of q frame) at hand r v class x)
      (λ r. write_kind (right_of q frame) at hand r v class x)
  goes_write_kind frame at hand v class (decl.variable x) = goes_write_bare frame at hand v
      (record { class = class; decl = x })
  goes_write_kind frame at hand v class x = goes_value tt step_self

  goes_write_member : (frame : Frame) (at : Pos) (hand : List Datum) (v : Datum) (x : Option Member)
      → Goes q.bound (λ r. write_member (left_of q frame) at hand r v x)
      (λ r. write_member (right_of q frame) at hand r v x)
  goes_write_member frame at hand v None = goes_value tt step_self
  goes_write_member frame at hand v (Some m) = goes_write_kind frame at hand v m.class m.kind

  goes_write_global : (frame : Frame) (at : Pos) (hand : List Datum) (v : Datum) (x : Found)
      → Goes q.bound (λ r. write_global (left_of q frame) at hand r v x)
      (λ r. write_global (right_of q frame) at hand r v x)
  goes_write_global frame at hand v (found.Member id) = goes_write_member frame at hand v (member_at q.project id)
  goes_write_global frame at hand v x = goes_value tt step_self

  goes_write_local_or_global : (frame : Frame) (at pos : Pos) (hand : List Datum) (name : Text) (v : Datum)
      (x : Option Local)
      → Goes q.bound (λ r. write_local_or_global (left_of q frame) at pos hand r name v x)
      (λ r. write_local_or_global (right_of q frame) at pos hand r name v x)
  goes_write_local_or_global frame at pos hand name v (Some l) =
      goes_value tt (step_then (step_of (λ w bs. w) (λ w bs. set_local name v bs) (λ w bs. refl)) (step_settled hand))
  goes_write_local_or_global frame at pos hand name v None = goes_write_global frame at hand v (q.project.found pos)

  goes_write_name : (frame : Frame) (at pos : Pos) (hand : List Datum) (name : Text) (v : Datum)
      → Goes q.bound (λ r. write_name (left_of q frame) at pos hand r name v)
      (λ r. write_name (right_of q frame) at pos hand r name v)
  goes_write_name frame at pos hand name v =
      goes_by (λ r. local r.blocks name) (λ r t. refl) (λ x. goes_write_local_or_global frame at pos hand name v x)

  -- ---- the value that is written

  goes_new_value : (frame : Frame) (at : Pos) (hand : List Datum) (op : Option Operator) (old : Option Datum)
      (value : Expr)
      → Goes q.bound (λ r. new_value (left_of q frame) at hand op old value r)
      (λ r. new_value (right_of q frame) at hand op old value r)
  goes_new_value frame at hand (Some op) (Some old) value =
      goes_then (goes_evaluate q frame (old ∷ hand) value) (λ v. goes_operate q frame at hand op old v)
  goes_new_value frame at hand op old value = goes_evaluate q frame hand value

  goes_old_value : {F G : Run → Went Datum} (op : Option Operator) → Goes q.bound F G
      → Goes q.bound (λ r. old_value op (F r) r) (λ r. old_value op (G r) r)
  goes_old_value (Some op) g = goes_then g (λ v. goes_value (Some v) step_self)
  goes_old_value None g = goes_value None step_self

  goes_assigned : {F G : Run → Went Datum} (frame : Frame) (at target : Pos) (hand : List Datum) (op : Option Operator)
      (value : Expr)
      (write other : Datum → Run → Went (Unit {0})) → Goes q.bound F G
      → ((v : Datum) → Goes q.bound (write v) (other v))
      → Goes q.bound (λ r. assigned (left_of q frame) at target hand op value r (F r) write)
      (λ r. assigned (right_of q frame) at target hand op value r (G r) other)
  goes_assigned frame at target hand op value write other read w =
      goes_then (goes_old_value op read) (λ old. goes_then (goes_new_value frame at hand op old value) (λ v.
      goes_then (goes_test_known frame at target v) (λ _. w v)))

  -- ---- targets

  goes_assign_attribute : {F G : Run → Went Datum} (frame : Frame) (at pos : Pos) (hand : List Datum)
      (op : Option Operator) (value : Expr) (name : Text) (x : Option ℕ)
      → Goes q.bound F G
      → Goes q.bound (λ r. assign_attribute (left_of q frame) at pos hand op value name x (F r))
      (λ r. assign_attribute (right_of q frame) at pos hand op value name x (G r))
  goes_assign_attribute frame at pos hand op value name (Some class) base =
      goes_then base (λ _. goes_assigned frame at pos hand op value _ _ (goes_of_class q frame pos hand)
      (λ v. goes_write_global frame pos hand v (q.project.found pos)))
  goes_assign_attribute frame at pos hand op value name None base =
      goes_then base (λ base. goes_assigned frame at pos (base ∷ hand) op value _ _
      (goes_read_attribute q frame pos (base ∷ hand) base name)
      (λ v. goes_write_attribute q frame pos hand base name v))

  pub goes_assign : (frame : Frame) (at : Pos) (hand : List Datum) (op : Option Operator) (target value : Expr)
      → Goes q.bound (λ r. assign (left_of q frame) at hand r op target value)
      (λ r. assign (right_of q frame) at hand r op target value)
  goes_assign frame at hand op (expr pos (e.name name)) value =
      goes_assigned frame at pos hand op value _ _ (goes_bare_name q frame pos hand name)
      (λ v. goes_write_name frame at pos hand name v)
  goes_assign frame at hand op (expr pos (e.attr x name)) value =
      goes_assign_attribute frame at pos hand op value name (class_meant q.project x) (goes_evaluate q frame hand x)
  goes_assign frame at hand op (expr pos (e.index x i)) value =
      goes_then (goes_evaluate q frame hand x) (λ base. goes_then (goes_evaluate q frame (base ∷ hand) i) (λ index.
      goes_assigned frame at pos (index ∷ base ∷ hand) op value _ _
      (goes_read_index q pos (index ∷ base ∷ hand) base index)
      (λ v. goes_write_index q pos hand base index v)))
  goes_assign frame at hand op target value = goes_value tt step_self
