-- The running round in order is the list of what nothing holds.
use Rattle.std.proofs.Common.{◌≡◌, ℕ, suc, ◌+◌, ◌<◌, ◌≤◌, Bool, true, false, cond, eqb, ◌&&◌, List, [], ◌∷◌, map, refl, sym, ap, ◌∙◌, inl, inr, arith}
use Rattle.std.specs.Prelude.{filter, count_by}
use Rattle.std.specs.List.Sorted.{IsPermutation, IsNonDecreasingBy}
use Rattle.std.proofs.lemmas.Bool.{cond_both, ne_eqb, eq-eqb, cases_Bool, cases_lt, and_right, and_from}
use Rattle.std.proofs.lemmas.List.Sums.{sum_by-cons}
use Rattle.std.proofs.lemmas.List.Sorted.{sum_by-IsPermutation}
use Rattle.slot_arena.specs.declared.handle.Handle.{Handle}
use Rattle.slot_arena.specs.Slots.{Entry, is_at, is_unheld_at, handle_of}
use Rattle.counted_heap.specs.Heap.{RisesFrom, serials, same_handle, times, has_none}
use Rattle.counted_heap.proofs.Split.{NoneAt, later_none, serial_at, is_at-same}
use Rattle.counted_heap.proofs.Changes.{one}

-- each serial number is at least n and those before it
abbrev pub RisesSlowly : ℕ → List Handle → Type 0
RisesSlowly n [] = Unit {0}
RisesSlowly n (x ∷ xs) = (n ≤ x.serial) × RisesSlowly x.serial xs

slowly_after : (x : Handle) (xs : List Handle) → IsNonDecreasingBy (λ (h : Handle). h.serial) (x ∷ xs) → RisesSlowly x.serial xs
slowly_after x [] rises = tt
slowly_after x (y ∷ ys) rises = (
  rises 0 1 x (omega arith) (omega arith),
  slowly_after y ys (λ i j d le lt. rises (suc i) (suc j) d (omega (arith, le)) (omega (arith, lt))),
)

pub slowly : (xs : List Handle) → IsNonDecreasingBy (λ (h : Handle). h.serial) xs → RisesSlowly 0 xs
slowly [] rises = tt
slowly (x ∷ xs) rises = (omega arith, slowly_after x xs rises)

times-cons : (h x : Handle) (xs : List Handle) → times h (x ∷ xs) ≡ one (same_handle h x) + times h xs
times-cons h x xs = sum_by-cons (λ y. cond (same_handle h y) 1 0) x xs

pub same_handle-self : (h : Handle) → same_handle h h ≡ true
same_handle-self h = and_from _ _ (eq-eqb h.index h.index refl) (eq-eqb h.serial h.serial refl)

-- what is below does not stand there
times-below : (h : Handle) (n : ℕ) (xs : List Handle) → h.serial < n → RisesSlowly n xs → times h xs ≡ 0
times-below h n [] lt rises = refl
times-below h n (x ∷ xs) lt rises =
    let differs = and_right (eqb x.index h.index) _ (ne_eqb x.serial h.serial (λ same. omega (arith, same, lt, rises.0))) in
    let here = ap one differs in
    omega (arith, times-cons h x xs, here, times-below h x.serial xs (omega (arith, lt, rises.0)) rises.1)

pub times-IsPermutation : (h : Handle) (xs ys : List Handle) → IsPermutation xs ys → times h ys ≡ times h xs
times-IsPermutation h xs ys moved = sum_by-IsPermutation (λ y. cond (same_handle h y) 1 0) xs ys moved

module _ {T : Type 0} where
  count-cons : (p : Entry T → Bool) (e : Entry T) (es : List (Entry T)) → count_by p (e ∷ es) ≡ one (p e) + count_by p es
  count-cons p e es = sum_by-cons (λ x. cond (p x) 1 0) e es

  count-none : (h : Handle) (es : List (Entry T)) → NoneAt h es → count_by (is_at h) es ≡ 0
  count-none h [] none = refl
  count-none h (e ∷ es) none =
      let here = ap one none.0 in
      omega (arith, count-cons (is_at h) e es, here, count-none h es none.1)

  is_at-self : (e : Entry T) → is_at (handle_of e) e ≡ true
  is_at-self e = and_from _ _ (eq-eqb e.index e.index refl) (eq-eqb e.serial e.serial refl)

  -- the first of both lists is one
  first_is : (x : Handle) (xs : List Handle) (z : Entry T) (zs : List (Entry T)) → RisesSlowly x.serial xs → RisesFrom z.serial (serials zs) → ((h : Handle) → times h (x ∷ xs) ≡ count_by (is_at h) (z ∷ zs)) → is_at x z ≡ true
  first_is x xs z zs slow rises same =
      elim (cases_Bool (is_at x z)) [
        | inl here ↦ here
        | inr other ↦
            let not_here = ap one other in
            let own = ap one (same_handle-self x) in
            let at_x = same x in
            elim (cases_lt z.serial x.serial) [
              | inl lt ↦
                  let hz = handle_of z in
                  let differs = and_right (eqb x.index hz.index) _ (ne_eqb x.serial z.serial (λ equal. omega (arith, equal, lt))) in
                  let gone = ap one differs in
                  let mine = ap one (is_at-self z) in
                  absurd (omega (arith, same hz, times-cons hz x xs, gone, times-below hz x.serial xs lt slow, count-cons (is_at hz) z zs, mine))
              | inr le ↦
                  absurd (omega (arith, at_x, times-cons x x xs, own, count-cons (is_at x) z zs, not_here, count-none x zs (later_none x z.serial zs le rises)))
            ]
      ]

  -- handles in order that stand as often as things do are those of the things
  pub same_order : (n m : ℕ) (xs : List Handle) (zs : List (Entry T)) → RisesSlowly n xs → RisesFrom m (serials zs) → ((h : Handle) → times h xs ≡ count_by (is_at h) zs) → map (λ (h : Handle). h.serial) xs ≡ serials zs
  same_order n m [] [] slow rises same = refl
  same_order n m [] (z ∷ zs) slow rises same =
      let mine = ap one (is_at-self z) in
      absurd (omega (arith, same (handle_of z), count-cons (is_at (handle_of z)) z zs, mine))
  same_order n m (x ∷ xs) [] slow rises same =
      let own = ap one (same_handle-self x) in
      absurd (omega (arith, same x, times-cons x x xs, own))
  same_order n m (x ∷ xs) (z ∷ zs) slow rises same =
      let here = first_is x xs z zs slow.1 rises.1 same in
      let rest = same_order x.serial z.serial xs zs slow.1 rises.1 (λ h.
      let equal = ap one (is_at-same h x z here) in
      omega (arith, same h, times-cons h x xs, count-cons (is_at h) z zs, equal)) in
      ap (λ (s : ℕ). s ∷ map (λ (h : Handle). h.serial) xs) (sym (serial_at x z here)) ∙ ap (λ (l : List ℕ). z.serial ∷ l) rest

  pub count-unheld : (h : Handle) (es : List (Entry T)) → count_by (is_unheld_at h) es ≡ count_by (is_at h) (filter has_none es)
  count-unheld h [] = refl
  count-unheld h (e ∷ es) =
      cond_both (has_none e) (e ∷ filter has_none es) (filter has_none es)
      (λ l. count_by (is_unheld_at h) (e ∷ es) ≡ count_by (is_at h) l)
      (λ none.
      let is = ap one (ap (λ b. is_at h e && b) none ∙ and-true (is_at h e)) in
      omega (arith, count-cons (is_unheld_at h) e es, is, count-cons (is_at h) e (filter has_none es), count-unheld h es))
      (λ held.
      let is = ap one (and_right (is_at h e) _ held) in
      omega (arith, count-cons (is_unheld_at h) e es, is, count-unheld h es))
    where
      and-true : (b : Bool) → (b && true) ≡ b
      and-true true = refl
      and-true false = refl
