-- Which class a run can begin with.
use Rattle.std.specs.Prelude.{ℕ, ◌==◌, Bool, true, false, Option, None, Some}
use Rattle.gd_members.specs.declared.Found.{Found}
use Rattle.gd_members.specs.declared.Found.TheVariants as found
use Rattle.gd_members.specs.declared.MemberId.{MemberId}
use Rattle.gd_typing.specs.declared.declared.Declared.{Declared}
use Rattle.gd_typing.specs.declared.member.Signature.{Signature}
use Rattle.gd_typing.specs.Members.{constructor_of, function_at}

-- a function that needs no argument
abbrev pub needs_none : Option Signature → Bool
needs_none (Some f) = f.required == 0
needs_none None = false

-- what was found is such a function
abbrev pub is_callable : Declared → Option Found → Bool
is_callable d (Some (found.Member id)) = needs_none (function_at d id)
is_callable d x = false

-- the `_init` that `new` of a class calls, where there is one, is such a function
abbrev pub makes_by : Declared → Option MemberId → Bool
makes_by d (Some init) = needs_none (function_at d init)
makes_by d None = true

abbrev pub makes_instance : Declared → ℕ → Bool
makes_instance d class = makes_by d (constructor_of d class)
