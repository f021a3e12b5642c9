-- How a pattern is read from left to right: each piece takes the longest run of flags, then that of digits, then a letter.
use Rattle.std.specs.Prelude.{ℕ, zero, suc, ◌+◌, ◌-◌, Bool, ◌||◌, ◌==◌, nat_lt, List, [], ◌∷◌, length, take, drop, slice_index, Option, None, Some, option_map, option_and_then, if◌then◌else◌}
use Rattle.std.specs.Char.{is_ascii_digit}
use Rattle.std.specs.List.{prefix_len, slice_get}
use Rattle.gd_text.specs.Number.{digits_value}
use Rattle.gd_text.specs.Pattern.{is_flag, count_of}
use Rattle.gd_text.specs.declared.pattern.Letter.{Letter}
use Rattle.gd_text.specs.declared.pattern.Letter.TheVariants.{Any, Character, Decimal, Octal, LowerHex, UpperHex}
use Rattle.gd_text.specs.declared.pattern.Conversion.{Conversion}
use Rattle.gd_text.specs.declared.pattern.Piece.{Piece}
use Rattle.gd_text.specs.declared.pattern.Piece.TheVariants.{Plain, Shown}

-- the letter that a character is
abbrev pub letter_of : ℕ → Option Letter
letter_of c =
    if c == 115 then Some Any else (if c == 99 then Some Character else (if c == 100 then Some Decimal else
    (if c == 111 then Some Octal else (if c == 120 then Some LowerHex else (if c == 88 then Some UpperHex else None)))))

-- a flag stands twice
abbrev pub are_doubled : List ℕ → Bool
are_doubled flags = nat_lt 1 (count_of 45 flags) || nat_lt 1 (count_of 43 flags) || nat_lt 1 (count_of 48 flags)

abbrev pub with_letter : List ℕ → List ℕ → Letter → Conversion
with_letter flags digits letter = record {
  minus = count_of 45 flags == 1;
  plus = count_of 43 flags == 1;
  zero = count_of 48 flags == 1;
  width = digits_value digits;
  letter = letter;
}

-- the conversion of these flags and digits, with what follows them
unfoldable pub conversion_of : List ℕ → List ℕ → List ℕ → Option Conversion
conversion_of flags digits behind = option_and_then
    (λ (l : Letter). if are_doubled flags || nat_lt 3 (length digits) then None else Some (with_letter flags digits l))
    (option_and_then letter_of (slice_get behind 0))

-- the conversion that stands behind a `%`, and how many characters it has
unfoldable pub read_conversion : List ℕ → Option (Conversion × ℕ)
read_conversion cs =
    let flags = prefix_len is_flag cs in
    let digits = prefix_len is_ascii_digit (drop flags cs) in
    option_map (λ (c : Conversion). (c, flags + digits + 1))
    (conversion_of (take flags cs) (take digits (drop flags cs)) (drop digits (drop flags cs)))

-- the piece of which a `%` has been read, and how many characters it has behind that
unfoldable pub read_behind : List ℕ → Option (Piece × ℕ)
read_behind cs = if slice_index cs 0 == 37 then Some (Plain 37, 1) else option_map (λ (p : Conversion × ℕ). (Shown p.0, p.1)) (read_conversion cs)

-- the piece that the characters begin with, and how many it has
unfoldable pub read_piece : List ℕ → Option (Piece × ℕ)
read_piece [] = None
read_piece (c ∷ cs) = if c == 37 then option_map (λ (p : Piece × ℕ). (p.0, p.1 + 1)) (read_behind cs) else Some (Plain c, 1)

-- the pieces of a pattern, if it is one; `skip` characters are still to be passed over
abbrev pub pieces_after : ℕ → List ℕ → Option (List Piece)
pieces_after skip [] = Some []
pieces_after (suc skip) (c ∷ cs) = pieces_after skip cs
pieces_after zero (c ∷ cs) = option_and_then (λ (p : Piece × ℕ). option_map (λ (ps : List Piece). p.0 ∷ ps) (pieces_after (p.1 - 1) cs)) (read_piece (c ∷ cs))

abbrev pub pieces_of : List ℕ → Option (List Piece)
pieces_of a = pieces_after 0 a
