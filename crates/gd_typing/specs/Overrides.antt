-- Whether a function conforms to the one that it overrides.
use Rattle.std.specs.Prelude.{ℕ, Bool, true, false, ◌&&◌, not, nat_lt, List, length, Option, None, Some, if◌then◌else◌}
use Rattle.gd_model.specs.declared.ty.Ty.{Ty}
use Rattle.gd_model.specs.declared.ty.Ty.TheVariants as ty
use Rattle.gd_typing.specs.declared.member.Signature.{Signature}
use Rattle.gd_typing.specs.Operators.{is_sure}

-- it needs no more arguments, and takes no fewer
abbrev pub takes_as_many : Signature → Signature → Bool
takes_as_many base own = not (nat_lt base.required own.required) && not (nat_lt (length own.parameters.items) (length base.parameters.items))

-- a value of the one type surely goes to a place of the other, where no type stands for Variant
abbrev pub goes_surely : (ℕ → List ℕ) → Option Ty → Option Ty → Bool
goes_surely bases value None = true
goes_surely bases None (Some place) = is_sure bases ty.Variant place
goes_surely bases (Some value) (Some place) = is_sure bases value place

-- a void function may be overridden by one that writes no result
abbrev pub void_agrees : (ℕ → List ℕ) → Option Ty → Bool
void_agrees bases None = true
void_agrees bases (Some ty.Void) = true
void_agrees bases (Some own) = is_sure bases own ty.Void

-- the results of the two agree
abbrev pub results_agree : (ℕ → List ℕ) → Option Ty → Option Ty → Bool
results_agree bases None own = true
results_agree bases (Some ty.Variant) own = true
results_agree bases (Some ty.Void) own = void_agrees bases own
results_agree bases (Some base) own = goes_surely bases own (Some base)
