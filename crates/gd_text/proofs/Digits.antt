-- The digits of a number are its numeral.
use Rattle.std.proofs.Common.{◌≡◌, ◌≢◌, ℕ, zero, suc, ◌*◌, ◌/◌, ◌%◌, ◌^◌, ◌<◌, ◌≤◌, Bool, true, false, cond, ◌==◌, List, [], ◌∷◌, get_or, refl, sym, ap, ◌∙◌, arith}
use Rattle.std.specs.Fmt.{digits, digits_onto, digit_glyph}
use Rattle.std.proofs.Math.Nat.{pow-zero, pow-succ'}
use Rattle.std.proofs.lemmas.Bool.Decides.{nat_tests}
use Rattle.std.proofs.lemmas.Fmt.{digits_is_IsNumeral}
use Rattle.gd_text.specs.Numerals.{IsNumeralOf, base_of}
use Rattle.gd_text.specs.Format.{digits_under}
use Rattle.gd_text.specs.declared.pattern.Letter.{Letter}
use Rattle.gd_text.specs.declared.pattern.Letter.TheVariants.{Any, Character, Decimal, Octal, LowerHex, UpperHex}

no_zero : (upper : Bool) (d : ℕ) → 0 < d → digit_glyph upper d ≢ 48
no_zero upper d some = λ e. grind (arith, nat_tests)

front : (b n m : ℕ) → 2 ≤ b → n < b * m → n / b < m
front b n m two lt = grind arith

some_front : (b n : ℕ) → (n / b == 0) ≡ false → 0 < n / b
some_front b n e = grind (arith, nat_tests)

no_front : (b n : ℕ) → 2 ≤ b → (n / b == 0) ≡ true → n % b ≡ n
no_front b n two e = grind (arith, nat_tests)

first_one : (k b n : ℕ) (upper : Bool) (acc : List ℕ) (t : Bool) → 2 ≤ b → 0 < n → n < b ^ suc k → (n / b == 0) ≡ t → ((m : ℕ) (more : List ℕ) → 0 < m → m < b ^ k → get_or (digits_onto k b upper m more) 0 0 ≢ 48) → get_or (cond t (digit_glyph upper (n % b) ∷ acc) (digits_onto k b upper (n / b) (digit_glyph upper (n % b) ∷ acc))) 0 0 ≢ 48
first_one k b n upper acc true two some lt e rest = λ h. no_zero upper n some (ap (digit_glyph upper) (sym (no_front b n two e)) ∙ h)
first_one k b n upper acc false two some lt e rest = rest (n / b) _ (some_front b n e) (front b n (b ^ k) two (let e : b ^ suc k ≡ b * b ^ k = pow-succ' b k in omega arith))

-- a number that is not 0 does not begin with `0`
first_digit : (k b n : ℕ) (upper : Bool) (acc : List ℕ) → 2 ≤ b → 0 < n → n < b ^ k → get_or (digits_onto k b upper n acc) 0 0 ≢ 48
first_digit zero b n upper acc two some lt = absurd (omega (arith, pow-zero b))
first_digit (suc k) b n upper acc two some lt = first_one k b n upper acc _ two some lt refl (λ m more. first_digit k b m upper more two)

first_of : (b n : ℕ) (upper : Bool) → 2 ≤ b → 0 < n → n < b ^ 64 → get_or (digits b upper n) 0 0 ≢ 48
unfolding digits
first_of b n upper two some lt = first_digit 64 b n upper [] two some lt

zero_alone : (digits 8 false 0 ≡ 48 ∷ []) × (digits 16 false 0 ≡ 48 ∷ []) × (digits 16 true 0 ≡ 48 ∷ []) × (digits 10 false 0 ≡ 48 ∷ [])
unfolding digits
zero_alone = (refl, refl, refl, refl)

numeral : (b n : ℕ) (upper : Bool) → 2 ≤ b → b ≤ 16 → n < b ^ 64 → digits b upper 0 ≡ 48 ∷ [] → IsNumeralOf b n (digits b upper n)
numeral b n upper two high lt alone =
    let is = digits_is_IsNumeral b upper two high n lt in
    record { digits = is.0; value = is.1; first = λ some. first_of b n upper two some lt; alone = λ e. ap (digits b upper) e ∙ alone }

pub numerals : (l : Letter) (n : ℕ) → n < 2 ^ 64 → IsNumeralOf (base_of l) n (digits_under l n)
numerals Octal n lt = numeral 8 n false (omega arith) (omega arith) (omega arith) zero_alone.0
numerals LowerHex n lt = numeral 16 n false (omega arith) (omega arith) (omega arith) zero_alone.1
numerals UpperHex n lt = numeral 16 n true (omega arith) (omega arith) (omega arith) zero_alone.2
numerals Any n lt = numeral 10 n false (omega arith) (omega arith) (omega arith) zero_alone.3
numerals Character n lt = numeral 10 n false (omega arith) (omega arith) (omega arith) zero_alone.3
numerals Decimal n lt = numeral 10 n false (omega arith) (omega arith) (omega arith) zero_alone.3
