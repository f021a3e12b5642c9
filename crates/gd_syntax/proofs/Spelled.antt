-- The characters that bytes spell.
use Rattle.std.proofs.Common.{◌≡◌, ℕ, ◌≤◌, List, length, chars, IsUtf8, subst}
use Rattle.std.specs.Str.{IsAscii}
use Rattle.std.proofs.lemmas.Str.{chars-IsAscii, encodes-chars, length-le-encodes}

pub chars_of_ascii : (bs : List ℕ) → IsAscii bs → chars bs ≡ bs
chars_of_ascii = chars-IsAscii

-- there are no more of them than bytes
pub chars_are_few : (bs : List ℕ) → IsUtf8 bs → length (chars bs) ≤ length bs
chars_are_few bs is = subst (λ xs. length (chars bs) ≤ length xs) (encodes-chars bs is) (length-le-encodes (chars bs))
