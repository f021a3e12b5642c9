-- The grammar of patterns. A pattern is the list of its code points.
use Rattle.std.specs.Prelude.{◌≡◌, ℕ, ◌≤◌, Bool, true, ◌||◌, ◌==◌, List, [], ◌∷◌, ◌++◌, length, count_by, Some, if◌then◌else◌}
use Rattle.std.specs.Char.{is_ascii_digit}
use Rattle.std.specs.List.{list_all, slice_get}
use Rattle.gd_text.specs.Number.{digits_value}
use Rattle.gd_text.specs.declared.pattern.Letter.{Letter}
use Rattle.gd_text.specs.declared.pattern.Letter.TheVariants.{Any, Character, Decimal, Octal, LowerHex, UpperHex}
use Rattle.gd_text.specs.declared.pattern.Conversion.{Conversion}
use Rattle.gd_text.specs.declared.pattern.Piece.{Piece}
use Rattle.gd_text.specs.declared.pattern.Piece.TheVariants.{Plain, Shown}

-- how a letter is written: `s`, `c`, `d`, `o`, `x`, `X`
abbrev pub letter_sign : Letter → ℕ
letter_sign Any = 115
letter_sign Character = 99
letter_sign Decimal = 100
letter_sign Octal = 111
letter_sign LowerHex = 120
letter_sign UpperHex = 88

-- `-`, `+` or `0`
abbrev pub is_flag : ℕ → Bool
is_flag c = (c == 45) || (c == 43) || (c == 48)

-- how often a sign stands in a text
abbrev pub count_of : ℕ → List ℕ → ℕ
count_of sign a = count_by (λ c. c == sign) a

-- the flags of a conversion: each that is set stands once, in any order, and no other sign
pub record AreFlags (flags : List ℕ) (c : Conversion) : Type 0 where
  pub only : list_all is_flag flags ≡ true
  pub minus : count_of 45 flags ≡ (if c.minus then 1 else 0)
  pub plus : count_of 43 flags ≡ (if c.plus then 1 else 0)
  pub zeros : count_of 48 flags ≡ (if c.zero then 1 else 0)

-- up to three digits that do not begin with 0 make the width; where none stands it is 0
pub record IsWidth (digits : List ℕ) (width : ℕ) : Type 0 where
  pub only : list_all is_ascii_digit digits ≡ true
  pub few : length digits ≤ 3
  pub first : slice_get digits 0 ≡ Some 48 → ⊥
  pub value : width ≡ digits_value digits

-- `%`, and then flags, a width and a letter
pub record IsConversion (c : Conversion) (written : List ℕ) : Type 0 where
  pub flags : List ℕ
  pub digits : List ℕ
  pub are_flags : AreFlags flags c
  pub is_width : IsWidth digits c.width
  pub parts : written ≡ 37 ∷ (flags ++ (digits ++ letter_sign c.letter ∷ []))

-- how a piece is written: a character as itself, but `%` as `%%`
abbrev pub IsWritten : Piece → List ℕ → Type 0
IsWritten (Plain c) written = written ≡ (if c == 37 then 37 ∷ 37 ∷ [] else c ∷ [])
IsWritten (Shown c) written = IsConversion c written

-- the pieces make the pattern, one written behind the other
abbrev pub IsPattern : List Piece → List ℕ → Type 0
IsPattern [] a = a ≡ []
IsPattern (p ∷ ps) a = (written : List ℕ) × (rest : List ℕ) × (a ≡ written ++ rest) × IsWritten p written × IsPattern ps rest
