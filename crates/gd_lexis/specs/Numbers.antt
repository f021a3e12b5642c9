-- Whole numbers (docs/language.md, "Numbers").
use Rattle.std.specs.Prelude.{◌≡◌, ℕ, ◌+◌, ◌*◌, ◌<◌, ◌⊎◌, List, [], ◌∷◌, ◌++◌, fold, codes}
use Rattle.std.specs.Char.{digit_value}

abbrev pub IsDigit : ℕ → ℕ → Type 0
IsDigit base c = digit_value c < base

-- One or more digits of the base, between two of which one `_` may stand; the values of the digits, in order.
abbrev pub AreDigits : ℕ → List ℕ → List ℕ → Type 0
AreDigits base [] ds = ⊥
AreDigits base (c ∷ []) ds = IsDigit base c × (ds ≡ digit_value c ∷ [])
AreDigits base (c ∷ d ∷ []) ds = IsDigit base c × IsDigit base d × (ds ≡ digit_value c ∷ digit_value d ∷ [])
AreDigits base (c ∷ d ∷ e ∷ cs) ds =
    IsDigit base c × ((more : List ℕ) × (ds ≡ digit_value c ∷ more) × (AreDigits base (d ∷ e ∷ cs) more ⊎ ((d ≡ 95) × AreDigits base (e ∷ cs) more)))

-- the number that digits write
abbrev pub number_of : ℕ → List ℕ → ℕ
number_of base = fold (λ n d. n * base + d) 0

-- the text is digits of the base behind this prefix, and writes the number
abbrev pub WritesIn : ℕ → List ℕ → List ℕ → ℕ → Type 0
WritesIn base prefix text n = (cs : List ℕ) × (ds : List ℕ) × (text ≡ prefix ++ cs) × AreDigits base cs ds × (n ≡ number_of base ds)

abbrev pub WritesDecimal : List ℕ → ℕ → Type 0
WritesDecimal = WritesIn 10 []

abbrev pub WritesNumber : List ℕ → ℕ → Type 0
WritesNumber text n = WritesDecimal text n ⊎ (WritesIn 16 (codes "0x") text n ⊎ WritesIn 2 (codes "0b") text n)
