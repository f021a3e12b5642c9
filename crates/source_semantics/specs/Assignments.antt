-- Assignments: the parts of the target from left to right, in a compound one the old value, then the right side, and
-- the write.
use Rattle.std.specs.Prelude.{ℕ, List, ◌∷◌, Option, None, Some, bytes_eq, if◌then◌else◌}
use Rattle.std.specs.List.{list_any}
use Rattle.gd_members.specs.declared.Found.{Found}
use Rattle.gd_members.specs.declared.Found.TheVariants as found
use Rattle.gd_model.specs.Datum.{Datum}
use Rattle.gd_syntax.specs.declared.operator.Operator.{Operator}
use Rattle.gd_syntax.specs.declared.pos.Pos.{Pos}
use Rattle.syntax_trees.specs.Declarations.{DeclKind}
use Rattle.syntax_trees.specs.Declarations as decl
use Rattle.syntax_trees.specs.Expressions.{Expr, Text, expr}
use Rattle.syntax_trees.specs.Expressions as e
use Rattle.source_semantics.specs.Attributes.{read_attribute, read_index, store_variable, write_attribute, write_index, write_static, write_variable}
use Rattle.source_semantics.specs.Expressions.{Context, bare_name, class_meant, evaluate, member_at, of_class, operate, self, self_serial}
use Rattle.source_semantics.specs.Project.{Member, Variable, bases, is_static, name_of}
use Rattle.source_semantics.specs.State.{Local, Run, Went, local, set_local, settled, store, tested, then_do, went}
use Rattle.source_semantics.specs.Types.{fits_type}

-- a value is tested against the type of the place that the analysis knows, at the assignment's operator
abbrev pub test_known : Context → Pos → Pos → Datum → Run → Went (Unit {0})
test_known c at target v r = tested at (fits_type (bases c.project) (store r) (c.project.typed target) v) r

-- ---- bare names: the whole write stands at the operator

-- a variable by its bare name: in its own accessor it is the variable itself
abbrev pub write_bare : Context → Pos → List Datum → Run → Datum → Variable → Went (Unit {0})
write_bare c at hand r v x =
    let s = self_serial (self c.frame) in
    if is_static x then write_static c.project at hand r x v
    else if list_any (bytes_eq (name_of x)) c.frame.direct then store_variable c.project at hand r s x v
    else write_variable c.project c.meaning c.frame at hand r s x v

abbrev pub write_kind : Context → Pos → List Datum → Run → Datum → ℕ → DeclKind → Went (Unit {0})
write_kind c at hand r v class (decl.variable x) = write_bare c at hand r v (record { class = class; decl = x })
write_kind c at hand r v class _ = went tt r

abbrev pub write_member : Context → Pos → List Datum → Run → Datum → Option Member → Went (Unit {0})
write_member c at hand r v None = went tt r
write_member c at hand r v (Some m) = write_kind c at hand r v m.class m.kind

abbrev pub write_global : Context → Pos → List Datum → Run → Datum → Found → Went (Unit {0})
write_global c at hand r v (found.Member id) = write_member c at hand r v (member_at c.project id)
write_global c at hand r v _ = went tt r

abbrev pub write_local_or_global : Context → Pos → Pos → List Datum → Run → Text → Datum → Option Local
    → Went (Unit {0})
write_local_or_global c at pos hand r name v (Some l) = went tt
    (settled hand (record r { blocks = set_local name v r.blocks }))
write_local_or_global c at pos hand r name v None = write_global c at hand r v (c.project.found pos)

-- a local takes the value, and its old one is given up
abbrev pub write_name : Context → Pos → Pos → List Datum → Run → Text → Datum → Went (Unit {0})
write_name c at pos hand r name v = write_local_or_global c at pos hand r name v (local r.blocks name)

-- ---- the value that is written

-- in a compound assignment the operator is applied to the old value and the right side, at the assignment's operator
abbrev pub new_value : Context → Pos → List Datum → Option Operator → Option Datum → Expr → Run → Went Datum
new_value c at hand (Some op) (Some old) value r =
    then_do (evaluate c (old ∷ hand) r value) (λ v r. operate c at hand r op old v)
new_value c at hand _ _ value r = evaluate c hand r value

abbrev pub old_value : Option Operator → Went Datum → Run → Went (Option Datum)
old_value (Some op) read r = then_do read (λ v r. went (Some v) r)
old_value None read r = went None r

-- `read` gives the old value, and `write` writes the new one, after the test that the analysis foresaw; with the places
-- of the operator and of the target
abbrev pub assigned : Context → Pos → Pos → List Datum → Option Operator → Expr → Run → Went Datum
    → (Datum → Run → Went (Unit {0})) → Went (Unit {0})
assigned c at target hand op value r read write =
    then_do (old_value op read r) (λ old r.
    then_do (new_value c at hand op old value r) (λ v r.
    then_do (test_known c at target v r) (λ _ r. write v r)))

-- ---- targets

abbrev pub assign_attribute : Context → Pos → Pos → List Datum → Option Operator → Expr → Text → Option ℕ → Went Datum
    → Went (Unit {0})
assign_attribute c at pos hand op value name (Some class) base =
    then_do base (λ _ r. assigned c at pos hand op value r (of_class c pos hand r)
    (λ v r. write_global c pos hand r v (c.project.found pos)))
assign_attribute c at pos hand op value name None base =
    then_do base (λ base r.
    assigned c at pos (base ∷ hand) op value r
    (read_attribute c.project c.meaning c.frame pos (base ∷ hand) r base name)
    (λ v r. write_attribute c.project c.meaning c.frame pos hand r base name v))

-- an assignment, with the place of its operator
abbrev pub assign : Context → Pos → List Datum → Run → Option Operator → Expr → Expr → Went (Unit {0})
assign c at hand r op (expr pos (e.name name)) value =
    assigned c at pos hand op value r (bare_name c pos hand r name) (λ v r. write_name c at pos hand r name v)
assign c at hand r op (expr pos (e.attr x name)) value =
    assign_attribute c at pos hand op value name (class_meant c.project x) (evaluate c hand r x)
assign c at hand r op (expr pos (e.index x i)) value =
    then_do (evaluate c hand r x) (λ base r. then_do (evaluate c (base ∷ hand) r i) (λ index r.
    assigned c at pos (index ∷ base ∷ hand) op value r
    (read_index pos (index ∷ base ∷ hand) r base index)
    (λ v r. write_index c.project pos hand r base index v)))
assign c at hand r op target value = went tt r
