-- The number that few digits make is small.
use Rattle.std.proofs.Common.{◌≡◌, ℕ, ◌*◌, ◌%◌, ◌^◌, ◌<◌, ◌≤◌, List, [], ◌∷◌, length, arith}
use Rattle.std.proofs.lemmas.Bool.Decides.{nat_tests}
use Rattle.gd_text.specs.Number.{digits_value, with_digit}

with_digit-lt : (n k c : ℕ) → n < k → with_digit n c < k * 10
with_digit-lt n k c lt = grind (arith, nat_tests)

digits_value-lt : (ds : List ℕ) → length ds ≤ 3 → digits_value ds < 1000
digits_value-lt [] few = omega arith
digits_value-lt (a ∷ []) few = let x = with_digit-lt 0 1 a (omega arith) in omega arith
digits_value-lt (a ∷ b ∷ []) few =
    let x = with_digit-lt 0 1 a (omega arith) in
    let y = with_digit-lt (with_digit 0 a) 10 b (omega arith) in
    omega arith
digits_value-lt (a ∷ b ∷ c ∷ []) few =
    let x = with_digit-lt 0 1 a (omega arith) in
    let y = with_digit-lt (with_digit 0 a) 10 b (omega arith) in
    with_digit-lt (with_digit (with_digit 0 a) b) 100 c (omega arith)
digits_value-lt (a ∷ b ∷ c ∷ d ∷ ds) few = absurd (omega arith)

pub three_digits : (ds : List ℕ) → length ds ≤ 3 → digits_value ds % 2 ^ 64 ≡ digits_value ds
three_digits ds few = let lt = digits_value-lt ds few in omega arith
