-- What the digits of a number are.
use Rattle.std.specs.Prelude.{◌≡◌, ◌≢◌, ℕ, ◌<◌, List, [], ◌∷◌, slice_index}
use Rattle.std.specs.Str.Parse.{IsNumeral, digits_value}
use Rattle.gd_text.specs.declared.pattern.Letter.{Letter}
use Rattle.gd_text.specs.declared.pattern.Letter.TheVariants.{Any, Character, Decimal, Octal, LowerHex, UpperHex}

-- the base of a letter's numbers
abbrev pub base_of : Letter → ℕ
base_of Octal = 8
base_of LowerHex = 16
base_of UpperHex = 16
base_of Any = 10
base_of Character = 10
base_of Decimal = 10

-- digits in the base, which make n together, and of which the first is `0` only where n is 0 and it stands alone
pub record IsNumeralOf (base n : ℕ) (ds : List ℕ) : Type 0 where
  pub digits : IsNumeral base ds
  pub value : digits_value base ds ≡ n
  pub first : 0 < n → slice_index ds 0 ≢ 48
  pub alone : n ≡ 0 → ds ≡ 48 ∷ []
