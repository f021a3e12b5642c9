-- The line of a class and its bases, where each base has a lower number.
use Rattle.std.proofs.Common.{◌≡◌, ℕ, zero, suc, ◌<◌, ◌≤◌, ◌==◌, ◌||◌, ◌⊎◌, false, List, [], ◌∷◌, ◌++◌, length, length-append, unwrap_or, if◌then◌else◌, refl, sym, ap, subst, ◌∙◌, inl, inr, arith}
use Rattle.std.proofs.Math.ListN.{get_or-append}
use Rattle.std.proofs.lemmas.List.{get_or_push}
use Rattle.std.proofs.lemmas.Option.{slice_get_past, unwrap_or-slice_get}
use Rattle.std.proofs.lemmas.Bool.{cases_lt, ne_eqb}
use Rattle.std.proofs.lemmas.Bool.Decides.{eqb_tells}
use Rattle.std.proofs.Math.Bool.{or-false}
use Rattle.assignability.specs.Assign.{is_among}
use Rattle.script_table.specs.Seen.{IsFalling, line, line_of, next}

-- one place has no class but RefCounted
pub begins : (bases : List ℕ) → length bases ≤ 1 → IsFalling bases
begins bases few class some = let P : ℕ → Type 0 = λ n. n < class in subst P (sym (ap (λ o. unwrap_or o 0) (slice_get_past bases class (omega (arith, few, some))))) some

-- a base with a lower number goes last
pub grows : (bases : List ℕ) (base : ℕ) → IsFalling bases → base < length bases → IsFalling (bases ++ base ∷ [])
grows bases base falls low class some = by (cases_lt class (length bases))
  where
    P : ℕ → Type 0
    P n = n < class

    by : (class < length bases) ⊎ (length bases ≤ class) → next (bases ++ base ∷ []) class < class
    by (inl h) = subst P (unwrap_or-slice_get bases class 0 ∙ sym (get_or-append bases (base ∷ []) 0 class h) ∙ sym (unwrap_or-slice_get (bases ++ base ∷ []) class 0)) (falls class some)
    by (inr h) = elim (eqb_tells (length bases) class) [
      | inl e ↦ subst P (sym (unwrap_or-slice_get (bases ++ base ∷ []) class 0 ∙ get_or_push bases base 0 class e.1)) (omega (arith, low, e.1))
      | inr e ↦ subst P (sym (ap (λ o. unwrap_or o 0) (slice_get_past (bases ++ base ∷ []) class (omega (arith, length-append bases (base ∷ []), h, e.1))))) some
    ]

module _ (bases : List ℕ) (falls : IsFalling bases) where
  -- steps beyond the class do not matter
  pub enough : (f g at : ℕ) → at < f → at < g → line f bases at ≡ line g bases at
  enough zero g at below _ = absurd (omega (arith, below))
  enough (suc f) zero at _ below = absurd (omega (arith, below))
  enough (suc f) (suc g) at under over = elim (eqb_tells at 0) [
    | inl h ↦ ap (λ b. at ∷ (if b then [] else line f bases (next bases at))) h.0 ∙ sym (ap (λ b. at ∷ (if b then [] else line g bases (next bases at))) h.0)
    | inr h ↦
        let lower = falls at (omega (arith, h.1)) in
        ap (λ b. at ∷ (if b then [] else line f bases (next bases at))) h.0
        ∙ ap (λ r. at ∷ r) (enough f g (next bases at) (omega (arith, lower, under)) (omega (arith, lower, over)))
        ∙ sym (ap (λ b. at ∷ (if b then [] else line g bases (next bases at))) h.0)
  ]

  -- a class above is not on the line
  pub below : (f at base : ℕ) → at < base → is_among (line f bases at) base ≡ false
  below zero at base under = refl
  below (suc f) at base under =
      let apart : (at == base) ≡ false = ne_eqb at base (λ e. omega (arith, e, under)) in
      elim (eqb_tells at 0) [
        | inl h ↦ ap (λ b. (at == base) || is_among (if b then [] else line f bases (next bases at)) base) h.0 ∙ ap (λ b. b || false) apart
        | inr h ↦
            let lower = falls at (omega (arith, h.1)) in
            ap (λ b. (at == base) || is_among (if b then [] else line f bases (next bases at)) base) h.0
            ∙ ap (λ b. b || is_among (line f bases (next bases at)) base) apart
            ∙ below f (next bases at) base (omega (arith, lower, under))
      ]

  -- a class with a higher number is not the one that is looked for
  pub passes : (at base : ℕ) → base < at → is_among (line_of bases at) base ≡ is_among (line_of bases (next bases at)) base
  passes at base over =
      let apart : (at == base) ≡ false = ne_eqb at base (λ e. omega (arith, e, over)) in
      let some : (at == 0) ≡ false = ne_eqb at 0 (λ e. omega (arith, e, over)) in
      let lower = falls at (omega (arith, over)) in
      ap (λ b. b || is_among (if at == 0 then [] else line at bases (next bases at)) base) apart
      ∙ ap (λ b. is_among (if b then [] else line at bases (next bases at)) base) some
      ∙ ap (λ xs. is_among xs base) (enough at (suc (next bases at)) (next bases at) lower (omega arith))

  -- where no higher numbers are left, only the class itself may be it
  pub stops : (at base : ℕ) → at ≤ base → is_among (line_of bases at) base ≡ (at == base)
  stops at base under = elim (eqb_tells at 0) [
    | inl h ↦ ap (λ b. (at == base) || is_among (if b then [] else line at bases (next bases at)) base) h.0 ∙ or-false (at == base)
    | inr h ↦
        let lower = falls at (omega (arith, h.1)) in
        ap (λ b. (at == base) || is_among (if b then [] else line at bases (next bases at)) base) h.0
        ∙ ap (λ b. (at == base) || b) (below at (next bases at) base (omega (arith, lower, under)))
        ∙ or-false (at == base)
  ]
