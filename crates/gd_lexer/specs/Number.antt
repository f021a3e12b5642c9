-- Whole numbers.
use Rattle.std.specs.Prelude.{ℕ, ◌+◌, ◌*◌, ◌^◌, ◌&&◌, ◌||◌, nat_lt, Bool, true, false, if◌then◌else◌, List, [], ◌∷◌, slice_get, drop, Option, Some, None, Result, Ok, Err, ℤ, pos}
use Rattle.std.specs.Char.{digit_value}
use Rattle.gd_rules.specs.declared.rule.Rule.{Rule}
use Rattle.gd_rules.specs.declared.rule.Rule.TheVariants.{Float, IntegerTooLarge, BadNumber}
use Rattle.gd_lexis.specs.declared.glyph.Glyph.{Glyph}
use Rattle.gd_lexis.specs.declared.glyph.Glyph.TheVariants.{Char, Bad}
use Rattle.gd_lexer.specs.declared.number.Base.{Base}
use Rattle.gd_lexer.specs.declared.number.Base.TheVariants.{Binary, Decimal, Hexadecimal}
use Rattle.gd_lexer.specs.declared.number.Part.{Part}
use Rattle.gd_lexer.specs.declared.number.Part.TheVariants.{Digit, Bar}
use Rattle.gd_lexer.specs.Cursor.{sees}
use Rattle.gd_lexer.specs.Name.{next_in_name}

-- the number of a base's digits
abbrev pub radix : Base → ℕ
radix Binary = 2
radix Decimal = 10
radix Hexadecimal = 16

-- the value of a digit
abbrev pub digit_at : ℕ → Option Glyph → Option ℕ
digit_at r None = None
digit_at r (Some (Bad b)) = None
digit_at r (Some (Char c)) = if nat_lt (digit_value c) r then Some (digit_value c) else None

abbrev pub is_there : {A : Type 0} → Option A → Bool
is_there None = false
is_there (Some x) = true

-- a value with one more digit, or none where it is above the greatest integer
abbrev pub appended : Option ℕ → ℕ → ℕ → Option ℕ
appended None r d = None
appended (Some v) r d = if nat_lt (v * r + d) (2 ^ 63) then Some (v * r + d) else None

-- what goes on a number here: a digit, or a `_` before one
abbrev pub part_by : Option ℕ → Bool → Option Part
part_by (Some d) bar = Some (Digit d)
part_by None bar = if bar then Some Bar else None

abbrev pub part_at : ℕ → List Glyph → Option Part
part_at r gs = part_by (digit_at r (slice_get gs 0)) (sees 95 gs 0 && is_there (digit_at r (slice_get gs 1)))

abbrev pub extended : Option ℕ → ℕ → Part → Option ℕ
extended v r (Digit d) = appended v r d
extended v r Bar = v

-- the value of the digits from here on, behind those of a value
unfoldable pub value_behind : Option ℕ → ℕ → List Glyph → Option ℕ
value_behind v r [] = v
value_behind v r (g ∷ gs) = elim (part_at r (g ∷ gs)) [ None ↦ v | Some p ↦ value_behind (extended v r p) r gs ]

-- what stands behind the digits
unfoldable pub after_digits : ℕ → List Glyph → List Glyph
after_digits r [] = []
after_digits r (g ∷ gs) = elim (part_at r (g ∷ gs)) [ None ↦ g ∷ gs | Some p ↦ after_digits r gs ]

-- The base of a number. A prefix is one only before a digit of its base.
abbrev pub base_at : List Glyph → Base
base_at gs =
    if sees 48 gs 0 && sees 120 gs 1 && is_there (digit_at 16 (slice_get gs 2)) then Hexadecimal
    else (if sees 48 gs 0 && sees 98 gs 1 && is_there (digit_at 2 (slice_get gs 2)) then Binary else Decimal)

abbrev pub after_prefix : Base → List Glyph → List Glyph
after_prefix Decimal gs = gs
after_prefix Hexadecimal gs = drop 2 gs
after_prefix Binary gs = drop 2 gs

-- an optional sign and a digit stand behind the first glyph
abbrev pub has_exponent : List Glyph → Bool
has_exponent gs = if sees 43 gs 1 || sees 45 gs 1 then is_there (digit_at 10 (slice_get gs 2)) else is_there (digit_at 10 (slice_get gs 1))

-- a decimal number before these glyphs is the front of a float
abbrev pub goes_on_as_float : List Glyph → Bool
goes_on_as_float gs = sees 46 gs 0 || ((sees 101 gs 0 || sees 69 gs 0) && has_exponent gs)

abbrev pub is_decimal : Base → Bool
is_decimal Decimal = true
is_decimal _ = false

-- a number of this base and value before these glyphs
abbrev pub checked : Bool → Option ℕ → List Glyph → Result ℤ Rule
checked true v rest = Err Float
checked false None rest = Err IntegerTooLarge
checked false (Some v) rest = if is_there (next_in_name (slice_get rest 0)) then Err BadNumber else Ok (pos v)

abbrev pub number_in : Base → List Glyph → Result ℤ Rule
number_in b gs = checked (is_decimal b && goes_on_as_float (after_digits (radix b) gs)) (value_behind (Some 0) (radix b) gs) (after_digits (radix b) gs)

-- the number that begins here
unfoldable pub number_at : List Glyph → Result ℤ Rule
number_at gs = number_in (base_at gs) (after_prefix (base_at gs) gs)

unfoldable pub after_number : List Glyph → List Glyph
after_number gs = after_digits (radix (base_at gs)) (after_prefix (base_at gs) gs)
