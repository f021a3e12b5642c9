-- Values that go to places.
use Rattle.std.specs.Prelude.{ℕ, Bool, true, false, List, Option, None, Some, if◌then◌else◌}
use Rattle.gd_model.specs.declared.ty.Ty.{Ty}
use Rattle.gd_model.specs.declared.ty.Ty.TheVariants as ty
use Rattle.gd_rules.specs.declared.rule.Rule.{Rule}
use Rattle.gd_rules.specs.declared.rule.Rule.TheVariants as rule
use Rattle.assignability.specs.declared.assignment.Assignment.{Assignment}
use Rattle.assignability.specs.declared.assignment.Assignment.TheVariants.{Sure, Checked, Never}
use Rattle.assignability.specs.Assign as assigning
use Rattle.gd_typing.specs.declared.verdict.Finding.{Finding}
use Rattle.gd_typing.specs.declared.places.Returning.{Returning}
use Rattle.gd_typing.specs.declared.places.Returning.TheVariants as returning
use Rattle.gd_typing.specs.Operators.{is_bad}
use Rattle.gd_typing.specs.Verdicts.{breach, mark_if, nothing}

-- a void call and a class are no values (A29)
abbrev pub as_value : Ty → Finding
as_value ty.Void = breach rule.NotAValue
as_value (ty.Meta c) = breach rule.NotAValue
as_value t = nothing

-- what never fits breaks the rule, and what is tested is marked
abbrev pub by_assignment : Option Assignment → Rule → Finding
by_assignment (Some Never) r = breach r
by_assignment (Some Checked) r = mark_if true
by_assignment answer r = nothing

-- a value for a place (A13)
abbrev pub assigned : (ℕ → List ℕ) → Ty → Ty → Finding
assigned bases value place = by_assignment (assigning.assign bases value place) rule.NotAssignable

-- `:=` from Variant or null (A12)
abbrev pub inferred : Ty → Finding
inferred ty.Variant = breach rule.CannotInfer
inferred ty.Nil = breach rule.CannotInfer
inferred t = nothing

-- a `return` (A16): any value or none where no type is written; none in a void function and a setter; else a value that goes
-- to the type
abbrev pub returned : (ℕ → List ℕ) → Returning → Option Ty → Finding
returned bases returning.Free value = nothing
returned bases returning.Nothing None = nothing
returned bases returning.Nothing (Some v) = if is_bad v then nothing else breach rule.BadReturn
returned bases (returning.Value t) None = breach rule.BadReturn
returned bases (returning.Value t) (Some v) = by_assignment (assigning.assign bases v t.now) rule.BadReturn
