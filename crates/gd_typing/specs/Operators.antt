-- Operators and the conditional expression, by the types of their parts.
use Rattle.std.specs.Prelude.{ℕ, Bool, true, false, ◌||◌, ◌&&◌, List, Option, None, Some, if◌then◌else◌, not}
use Rattle.gd_model.specs.declared.ty.Ty.{Ty}
use Rattle.gd_model.specs.declared.ty.Ty.TheVariants as ty
use Rattle.gd_model.specs.SameType.{same_type}
use Rattle.gd_rules.specs.declared.rule.Rule.TheVariants as rule
use Rattle.gd_syntax.specs.declared.operator.Operator.{Operator}
use Rattle.gd_syntax.specs.declared.operator.Operator.TheVariants.{Divide, Equal, NotEqual, Not}
use Rattle.value_semantics.specs.declared.rows.Given.{Given}
use Rattle.value_semantics.specs.declared.rows.Given.TheVariants as g
use Rattle.value_semantics.specs.Kinds.{result_type}
use Rattle.assignability.specs.declared.assignment.Assignment.{Assignment}
use Rattle.assignability.specs.declared.assignment.Assignment.TheVariants.{Sure, Checked, Never}
use Rattle.assignability.specs.Assign as assigning
use Rattle.gd_typing.specs.declared.verdict.Finding.{Finding}
use Rattle.gd_typing.specs.declared.verdict.Verdict.{Verdict}
use Rattle.gd_typing.specs.Verdicts.{bad, broken, fine, mark_if}

abbrev pub is_bad : Ty → Bool
is_bad ty.Bad = true
is_bad t = false

abbrev pub is_variant : Ty → Bool
is_variant ty.Variant = true
is_variant t = false

abbrev pub is_nil : Ty → Bool
is_nil ty.Nil = true
is_nil t = false

-- a value of the one type surely goes to a place of the other
abbrev pub answers_sure : Option Assignment → Bool
answers_sure (Some Sure) = true
answers_sure answer = false

abbrev pub is_sure : (ℕ → List ℕ) → Ty → Ty → Bool
is_sure bases s t = answers_sure (assigning.assign bases s t)

-- ---- operators

-- the type that an operator gives, beside a left operand
abbrev pub given_type : Given → Ty → Ty
given_type g.Variant left = ty.Variant
given_type g.Bool left = ty.Bool
given_type g.Int left = ty.Int
given_type g.Str left = ty.Str
given_type g.Array left = ty.Array
given_type g.Left left = left

-- an operator that does not take its operands is broken (A18)
abbrev pub given : Option Given → Ty → Finding → Verdict
given None left finding = broken rule.BadOperands
given (Some gives) left finding = record { ty = given_type gives left; finding = finding }

-- `/` of int and int (W5)
abbrev pub is_int_division : Operator → Ty → Ty → Bool
is_int_division Divide ty.Int ty.Int = true
is_int_division op a b = false

abbrev pub is_equality : Operator → Bool
is_equality Equal = true
is_equality NotEqual = true
is_equality op = false

-- `==` and `!=` with null
abbrev pub is_null_test : Operator → Ty → Ty → Bool
is_null_test op a b = is_equality op && (is_nil a || is_nil b)

-- each operator with a Variant operand is marked, but for `==` and `!=` with null
abbrev pub found_between : Operator → Ty → Ty → Finding
found_between op a b = record {
  rule = None;
  warning = if is_int_division op a b then Some rule.IntegerDivision else None;
  is_marked = (is_variant a || is_variant b) && not (is_null_test op a b);
}

abbrev pub is_not : Operator → Bool
is_not Not = true
is_not op = false

-- and before one operand, but for `not`
abbrev pub found_before : Operator → Ty → Finding
found_before op a = mark_if (is_variant a && not (is_not op))

abbrev pub binary : Operator → Ty → Ty → Verdict
binary op a b =
    if is_bad a || is_bad b then bad
    else given (result_type op a b (same_type a b)) a (found_between op a b)

abbrev pub unary : Operator → Ty → Verdict
unary op a = if is_bad a then bad else given (result_type op a a (same_type a a)) a (found_before op a)

-- `and` and `or` give a bool of any two values
abbrev pub logic : Ty → Ty → Verdict
logic a b = if is_bad a || is_bad b then bad else fine ty.Bool

-- ---- `x if c else y`

-- the type of y where a value of x's type surely goes there, else that of x where the reverse is so, else Variant
abbrev pub chosen : (ℕ → List ℕ) → Ty → Ty → Ty
chosen bases x y = if is_sure bases x y then y else (if is_sure bases y x then x else ty.Variant)

abbrev pub choose : (ℕ → List ℕ) → Ty → Ty → Ty → Verdict
choose bases x c y = if is_bad x || is_bad c || is_bad y then bad else fine (chosen bases x y)
