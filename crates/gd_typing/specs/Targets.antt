-- Assignments, by what stands left of them and by the types.
use Rattle.std.specs.Prelude.{ℕ, Bool, true, false, ◌||◌, not, List, Option, None, Some, if◌then◌else◌}
use Rattle.gd_members.specs.declared.Found.{Found}
use Rattle.gd_members.specs.declared.Found.TheVariants as found
use Rattle.gd_model.specs.declared.ty.Ty.{Ty}
use Rattle.gd_model.specs.declared.ty.Ty.TheVariants as ty
use Rattle.gd_rules.specs.declared.rule.Rule.{Rule}
use Rattle.gd_rules.specs.declared.rule.Rule.TheVariants as rule
use Rattle.gd_syntax.specs.declared.operator.Operator.{Operator}
use Rattle.gd_typing.specs.declared.declared.Declared.{Declared}
use Rattle.gd_typing.specs.declared.targets.Target.{Target}
use Rattle.gd_typing.specs.declared.targets.Target.TheVariants as target
use Rattle.gd_typing.specs.declared.verdict.Finding.{Finding}
use Rattle.gd_typing.specs.declared.verdict.Verdict.{Verdict}
use Rattle.gd_typing.specs.Members.{is_variable}
use Rattle.gd_typing.specs.Operators.{binary, is_bad}
use Rattle.gd_typing.specs.Places.{assigned}
use Rattle.gd_typing.specs.Verdicts.{breach, nothing}

abbrev pub is_text : Ty → Bool
is_text ty.Str = true
is_text t = false

-- what was found is no place: anything but a variable
abbrev pub is_no_place_found : Declared → Found → Bool → Bool
is_no_place_found d (found.Builtin number) is_bad = true
is_no_place_found d x is_bad = if is_bad then false else not (is_variable d x)

-- whether a target of this type is no place: a local constant, what was found and is no variable, an element of a String, and
-- what is no name, attribute or subscript. Of a Bad one nothing is said, unless it is a builtin's name
abbrev pub is_no_place : Declared → Target → Bool → Bool
is_no_place d target.Local is_bad = false
is_no_place d target.LocalConstant is_bad = not is_bad
is_no_place d (target.Found None) is_bad = false
is_no_place d (target.Found (Some x)) is_bad = is_no_place_found d x is_bad
is_no_place d (target.Subscript base) is_bad = if is_bad then false else is_text base.now
is_no_place d target.Other is_bad = not is_bad

-- what holds of the operator of a compound assignment, and then of the assignment
abbrev pub first_rule : Option Rule → Option Rule → Option Rule
first_rule (Some r) other = Some r
first_rule None other = other

abbrev pub both : Finding → Finding → Finding
both x y = record { rule = first_rule x.rule y.rule; warning = x.warning; is_marked = x.is_marked || y.is_marked }

abbrev pub compound : (ℕ → List ℕ) → Ty → Verdict → Finding
compound bases place made = both made.finding (assigned bases made.ty place)

abbrev pub put : (ℕ → List ℕ) → Ty → Option Operator → Ty → Finding
put bases place None value = assigned bases value place
put bases place (Some op) value = compound bases place (binary op place value)

-- A22 takes away what else holds of the assignment, and a Bad value takes A22 away
abbrev pub assignment : (ℕ → List ℕ) → Declared → Target → Ty → Option Operator → Ty → Finding
assignment bases d x place op value =
    if is_bad value then nothing
    else (if is_no_place d x (is_bad place) then breach rule.NotAssignableTarget else put bases place op value)
