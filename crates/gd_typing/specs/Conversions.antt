-- `x as T` and `x is T`, by the type of x and by T.
use Rattle.std.specs.Prelude.{ℕ, Bool, true, false, ◌||◌, ◌&&◌, List, Option, None, Some, if◌then◌else◌, not}
use Rattle.gd_model.specs.declared.ty.Ty.{Ty, ArrayOf', DictOf'}
use Rattle.gd_model.specs.declared.ty.Ty.TheVariants as ty
use Rattle.gd_rules.specs.declared.rule.Rule.TheVariants as rule
use Rattle.assignability.specs.declared.assignment.Assignment.{Assignment}
use Rattle.assignability.specs.declared.assignment.Assignment.TheVariants.{Sure, Checked, Never}
use Rattle.assignability.specs.Assign as assigning
use Rattle.gd_typing.specs.declared.verdict.Finding.{Finding}
use Rattle.gd_typing.specs.declared.verdict.Verdict.{Verdict}
use Rattle.gd_typing.specs.Verdicts.{bad, broken, fine, mark_if, unsafe}
use Rattle.gd_typing.specs.Operators.{is_bad, is_nil, is_variant}

-- no value of the one type goes to a place of the other
abbrev pub answers_never : Option Assignment → Bool
answers_never (Some Never) = true
answers_never answer = false

abbrev pub is_never : (ℕ → List ℕ) → Ty → Ty → Bool
is_never bases s t = answers_never (assigning.assign bases s t)

abbrev pub are_bool_and_int : Ty → Ty → Bool
are_bool_and_int ty.Bool ty.Int = true
are_bool_and_int ty.Int ty.Bool = true
are_bool_and_int s t = false

-- from an array or a dictionary to a typed one
abbrev pub gains_types : Ty → Ty → Bool
gains_types ty.Array (ArrayOf' p e) = true
gains_types ty.Dict (DictOf' p k q v) = true
gains_types s t = false

-- from Variant W3 holds; a cast to a typed array or dictionary is marked, since it may fail
abbrev pub cast_finding : Ty → Ty → Finding
cast_finding s t = if is_variant s then unsafe rule.UnsafeCast else mark_if (gains_types s t)

-- A27 where no value fits, but for bool and int
abbrev pub cast : (ℕ → List ℕ) → Ty → Ty → Verdict
cast bases s t =
    if is_bad s || is_bad t then bad
    else (if is_never bases s t && not (are_bool_and_int s t) then broken rule.BadCast
    else record { ty = t; finding = cast_finding s t })

-- A28 where no value fits, but for null
abbrev pub test : (ℕ → List ℕ) → Ty → Ty → Verdict
test bases s t =
    if is_bad s || is_bad t then bad
    else (if is_never bases s t && not (is_nil s) then broken rule.TestCannotHold else fine ty.Bool)
