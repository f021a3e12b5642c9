-- Texts as integers.
use Rattle.std.specs.Prelude.{ℕ, ◌+◌, ◌-◌, ◌*◌, ◌%◌, ◌^◌, ℤ, Bool, false, not, ◌&&◌, ◌||◌, ◌==◌, nat_lt, nat_le, List, [], ◌∷◌, length, fold, take_while, if◌then◌else◌}
use Rattle.std.specs.Char.{is_ascii_digit}
use Rattle.std.specs.Int.{w64, cast_signed, int_wrapping_neg}
use Rattle.std.specs.List.{list_all}

-- without one sign at the start
abbrev pub without_sign : List ℕ → List ℕ
without_sign [] = []
without_sign (c ∷ cs) = if (c == 43) || (c == 45) then cs else c ∷ cs

-- an optional sign, and then one or more digits
abbrev pub is_valid_int : List ℕ → Bool
is_valid_int a = nat_lt 0 (length (without_sign a)) && list_all is_ascii_digit (without_sign a)

-- what stands before the first point, or all where there is none
abbrev pub before_point : List ℕ → List ℕ
before_point a = take_while (λ c. not (c == 46)) a

-- a digit goes behind the number, and any other character is passed over
abbrev pub with_digit : ℕ → ℕ → ℕ
with_digit n c = if is_ascii_digit c then n * 10 + (c - 48) else n

-- the number that the digits of the text make together
abbrev pub digits_value : List ℕ → ℕ
digits_value a = fold with_digit 0 a

-- an odd number of `-` stands before the first digit other than 0
abbrev pub is_negated : List ℕ → Bool
is_negated [] = false
is_negated (c ∷ cs) = if nat_le 49 c && nat_le c 57 then false else (if c == 45 then not (is_negated cs) else is_negated cs)

-- the number of the digits before the first point modulo 2^64, negated where an odd number of `-` says so
abbrev pub to_int : List ℕ → ℤ
to_int a =
    let whole = before_point a in
    let magnitude = cast_signed w64 (digits_value whole % 2 ^ 64) in
    if is_negated whole then int_wrapping_neg w64 magnitude else magnitude
