-- A text writes at most one number.
use Rattle.std.proofs.Common.{◌≡◌, ℕ, ◌≤◌, ◌<◌, List, [], ◌∷◌, ◌++◌, ap, sym, ◌∙◌, subst, inl, inr, arith, lit≤}
use Rattle.std.specs.Prelude.{◌⊎◌, codes}
use Rattle.std.specs.Char.{digit_value}
use Rattle.std.specs.Int.{IsInRange}
use Rattle.std.proofs.lemmas.List.{append_cancel_left}
use Rattle.std.proofs.lemmas.Str.Parse.{digit_from_value}
use Rattle.gd_lexis.specs.Numbers.{AreDigits, IsDigit, WritesIn, WritesDecimal, WritesNumber, number_of}

-- one of each of two choices
abbrev pub chosen : {A B C D P : Type 0} → (A → C → P) → (A → D → P) → (B → C → P) → (B → D → P) → A ⊎ B → C ⊎ D → P
chosen f g h k (inl a) (inl c) = f a c
chosen f g h k (inl a) (inr d) = g a d
chosen f g h k (inr b) (inl c) = h b c
chosen f g h k (inr b) (inr d) = k b d

first_digit : (base : ℕ) (c : ℕ) (cs ds : List ℕ) → AreDigits base (c ∷ cs) ds → IsDigit base c
first_digit base c [] ds h = h.0
first_digit base c (d ∷ []) ds h = h.0
first_digit base c (d ∷ e ∷ cs) ds h = h.0

-- `_` is no digit
no_digit : (base : ℕ) (c : ℕ) → base ≤ 16 → c ≡ 95 → IsDigit base c → ⊥
no_digit base c low e h = let value : digit_value c ≡ 36 = ap digit_value e in omega arith

-- the digits that a text writes are one list
one_digits : (base : ℕ) → base ≤ 16 → (cs ds es : List ℕ) → AreDigits base cs ds → AreDigits base cs es → ds ≡ es
one_digits base low [] ds es h k = absurd h
one_digits base low (c ∷ []) ds es h k = h.1 ∙ sym k.1
one_digits base low (c ∷ d ∷ []) ds es h k = h.2 ∙ sym k.2
one_digits base low (c ∷ d ∷ e ∷ cs) ds es h k =
    let more : h.1.0 ≡ k.1.0 = chosen
    (λ a b. one_digits base low (d ∷ e ∷ cs) h.1.0 k.1.0 a b)
    (λ a b. absurd (no_digit base d low b.0 (first_digit base d (e ∷ cs) h.1.0 a)))
    (λ a b. absurd (no_digit base d low a.0 (first_digit base d (e ∷ cs) k.1.0 b)))
    (λ a b. one_digits base low (e ∷ cs) h.1.0 k.1.0 a.1 b.1)
    h.1.2 k.1.2 in
    h.1.1 ∙ ap (λ t. digit_value c ∷ t) more ∙ sym k.1.1

one_in : (base : ℕ) → base ≤ 16 → (prefix text : List ℕ) (m n : ℕ) → WritesIn base prefix text m → WritesIn base prefix text n → m ≡ n
one_in base low prefix text m n h k =
    let same : h.0 ≡ k.0 = append_cancel_left prefix h.0 k.0 (sym h.2 ∙ k.2) in
    let P : List ℕ → Type 0 = λ t. AreDigits base t k.1 in
    let digits : h.1 ≡ k.1 = one_digits base low h.0 h.1 k.1 h.3 (subst P (sym same) k.3) in
    h.4 ∙ ap (number_of base) digits ∙ sym k.4

pub second_digit : (c d : ℕ) (cs ds : List ℕ) → AreDigits 10 (c ∷ d ∷ cs) ds → IsDigit 10 d ⊎ (d ≡ 95)
second_digit c d [] ds h = inl h.1
second_digit c d (e ∷ cs) ds h = chosen (λ a b. inl (first_digit 10 d (e ∷ cs) h.1.0 a)) (λ a b. inl (first_digit 10 d (e ∷ cs) h.1.0 a)) (λ a b. inr a.0) (λ a b. inr a.0) h.1.2 h.1.2

-- digits have no letter in their second place
no_letter : (d : ℕ) → 95 < d → IsDigit 10 d ⊎ (d ≡ 95) → ⊥
no_letter d high (inl h) = let range = digit_from_value d h in omega (arith, range)
no_letter d high (inr h) = omega arith

not_prefixed : (text : List ℕ) (n : ℕ) (d : ℕ) (more : List ℕ) → 95 < d → WritesDecimal text n → text ≡ 48 ∷ d ∷ more → ⊥
not_prefixed text n d more high h e =
    let P : List ℕ → Type 0 = λ t. AreDigits 10 t h.1 in
    no_letter d high (second_digit 48 d more h.1 (subst P (sym h.2 ∙ e) h.3))

second_same : (c d : ℕ) (cs ds : List ℕ) → 48 ∷ c ∷ cs ≡ 48 ∷ d ∷ ds → c ≡ d
second_same c d cs ds e = cc

one_prefix : (text cs ds : List ℕ) → text ≡ codes "0x" ++ cs → text ≡ codes "0b" ++ ds → ⊥
one_prefix text cs ds e f =
    let same : 48 ∷ 120 ∷ cs ≡ 48 ∷ 98 ∷ ds = sym e ∙ f in
    omega (arith, second_same 120 98 cs ds same)

-- a text writes at most one number
pub one_number : (text : List ℕ) (m n : ℕ) → WritesNumber text m → WritesNumber text n → m ≡ n
one_number text m n (inl h) (inl k) = one_in 10 (lit≤ tt) [] text m n h k
one_number text m n (inl h) (inr (inl k)) = absurd (not_prefixed text m 120 k.0 (lit≤ tt) h k.2)
one_number text m n (inl h) (inr (inr k)) = absurd (not_prefixed text m 98 k.0 (lit≤ tt) h k.2)
one_number text m n (inr (inl h)) (inl k) = absurd (not_prefixed text n 120 h.0 (lit≤ tt) k h.2)
one_number text m n (inr (inl h)) (inr (inl k)) = one_in 16 (lit≤ tt) (codes "0x") text m n h k
one_number text m n (inr (inl h)) (inr (inr k)) = absurd (one_prefix text h.0 k.0 h.2 k.2)
one_number text m n (inr (inr h)) (inl k) = absurd (not_prefixed text n 98 h.0 (lit≤ tt) k h.2)
one_number text m n (inr (inr h)) (inr (inl k)) = absurd (one_prefix text k.0 h.0 k.2 h.2)
one_number text m n (inr (inr h)) (inr (inr k)) = one_in 2 (lit≤ tt) (codes "0b") text m n h k

leading : (text cs ds : List ℕ) (base : ℕ) → base ≤ 10 → text ≡ [] ++ cs → AreDigits base cs ds → (c : ℕ) × (more : List ℕ) × (text ≡ c ∷ more) × IsInRange 48 57 c
leading text [] ds base low e h = absurd h
leading text (c ∷ cs) ds base low e h = let digit = first_digit base c cs ds h in (c, cs, e, digit_from_value c (omega arith))

-- a number begins with a decimal digit
pub number_first : (text : List ℕ) (n : ℕ) → WritesNumber text n → (c : ℕ) × (more : List ℕ) × (text ≡ c ∷ more) × IsInRange 48 57 c
number_first text n (inl h) = leading text h.0 h.1 10 (lit≤ tt) h.2 h.3
number_first text n (inr (inl h)) = (48, 120 ∷ h.0, h.2, (lit≤ tt, lit≤ tt))
number_first text n (inr (inr h)) = (48, 98 ∷ h.0, h.2, (lit≤ tt, lit≤ tt))
