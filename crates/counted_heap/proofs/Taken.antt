-- The first of the round is taken out; a value is written.
use Rattle.std.proofs.Common.{◌≡◌, ℕ, suc, ◌+◌, ◌<◌, ◌≤◌, Bool, true, not, cond, eqb, List, [], ◌∷◌, ◌++◌, length, map, Some, None, refl, sym, ap, ◌∙◌, inl, inr, subst, arith, length-append}
use Rattle.std.specs.Prelude.{find, count_by, reverse}
use Rattle.std.specs.Option.{option_map}
use Rattle.std.specs.List.Sorted.{IsNonDecreasingBy}
use Rattle.std.proofs.lemmas.Bool.{cond_both, cond-true, cond-false, cases_Bool, and_left, and_right, and_from, and_parts, eqb-true}
use Rattle.std.proofs.lemmas.List.{reverse-append}
use Rattle.std.proofs.lemmas.List.Sums.{sum_by-cons}
use Rattle.slot_arena.specs.declared.handle.Handle.{Handle}
use Rattle.slot_arena.specs.Slots.{Entry, is_at, is_unheld_at, find_at, unheld_at, without, written_at}
use Rattle.counted_heap.specs.Heap.{RisesFrom, UpTo, serials, times, has_none, IsSound}
use Rattle.counted_heap.proofs.Split.{NoneAt, later_none, split, serial_at, times-push}
use Rattle.counted_heap.proofs.Changes.{one, RisesFrom-filter, UpTo-filter, length-filter_le, unheld-less, unheld_at-more}
use Rattle.counted_heap.proofs.Order.{same_handle-self}

-- the round begins with it
pub first_serial : (round rest : List Handle) (h : Handle) → round ≡ rest ++ h ∷ [] → map (λ (x : Handle). x.serial) (reverse round) ≡ h.serial ∷ map (λ (x : Handle). x.serial) (reverse rest)
first_serial round rest h is = ap (λ l. map (λ (x : Handle). x.serial) (reverse l)) is ∙ ap (map (λ (x : Handle). x.serial)) (reverse-append rest (h ∷ []))

module _ {T : Type 0} where
  -- where a count is positive, one is found
  count_finds : (p : Entry T → Bool) (es : List (Entry T)) → 0 < count_by p es → (e : Entry T) × (find p es ≡ Some e) × (p e ≡ true)
  count_finds p [] lt = absurd (omega (arith, lt))
  count_finds p (x ∷ xs) lt =
      elim (cases_Bool (p x)) [
        | inl passes ↦ (x, cond-true _ _ _ passes, passes)
        | inr fails ↦
            let here = ap one fails in
            let rest = count_finds p xs (omega (arith, lt, here, sum_by-cons (λ y. cond (p y) 1 0) x xs)) in
            (rest.0, cond-false _ _ _ fails ∙ rest.1, rest.2)
      ]

  none_unheld : (h : Handle) (xs : List (Entry T)) → NoneAt h xs → find (is_unheld_at h) xs ≡ None
  none_unheld h [] none = refl
  none_unheld h (x ∷ xs) none = cond-false _ _ _ (and_left _ (eqb x.count 0) none.0) ∙ none_unheld h xs none.1

  -- an unheld thing that is found is the one that the handle names
  found_unheld : (h : Handle) (n : ℕ) (es : List (Entry T)) (e : Entry T) → RisesFrom n (serials es) → find (is_unheld_at h) es ≡ Some e → find_at es h ≡ Some e
  found_unheld h n [] e rises found = absurd (cc)
  found_unheld h n (x ∷ xs) e rises found =
      elim (cases_Bool (is_at h x)) [
        | inl here ↦
            elim (cases_Bool (eqb x.count 0)) [
              | inl none ↦
                  let is : Some x ≡ Some e = sym (cond-true (is_unheld_at h x) (Some x) (find (is_unheld_at h) xs) (and_from _ _ here none)) ∙ found in
                  cond-true _ _ _ here ∙ is
              | inr held ↦
                  let later : find (is_unheld_at h) xs ≡ Some e = sym (cond-false (is_unheld_at h x) (Some x) (find (is_unheld_at h) xs) (and_right (is_at h x) _ held)) ∙ found in
                  let gone = none_unheld h xs (later_none h x.serial xs (omega (arith, serial_at h x here)) rises.1) in
                  absurd (cc)
            ]
        | inr other ↦
            let later : find (is_unheld_at h) xs ≡ Some e = sym (cond-false (is_unheld_at h x) (Some x) (find (is_unheld_at h) xs) (and_left _ (eqb x.count 0) other)) ∙ found in
            cond-false _ _ _ other ∙ found_unheld h x.serial xs e rises.1 later
      ]

  -- the first of the round is a thing that nothing holds
  pub first_unheld : {things : List (Entry T)} {last made : ℕ} {round waiting : List Handle} {a b : ℕ} → IsSound things last made round waiting a b → (rest : List Handle) (h : Handle) → round ≡ rest ++ h ∷ [] → (e : Entry T) × (find_at things h ≡ Some e) × (e.count ≡ 0) × (unheld_at things h ≡ Some e.value)
  first_unheld {things} {last} {made} {round} {waiting} sound rest h is =
      let own = ap one (same_handle-self h) in
      let stands = ap (times h) is in
      let some = count_finds (is_unheld_at h) things (omega (arith, sound.unheld h, stands, times-push h rest h, own)) in
      (some.0, found_unheld h 0 things some.0 sound.rising some.1, eqb-true some.0.count 0 (and_parts (is_at h some.0) _ some.2).1, ap (option_map (λ (x : Entry T). x.value)) some.1)

  pub sound_taken : {things : List (Entry T)} {last made : ℕ} {round waiting : List Handle} {a b : ℕ} → IsSound things last made round waiting a b → (rest : List Handle) (h : Handle) (e : Entry T) → round ≡ rest ++ h ∷ [] → find_at things h ≡ Some e → e.count ≡ 0 → (c : ℕ) → a ≤ c → IsSound (without things h) last made rest waiting c b
  sound_taken {things} {last} {made} {round} {waiting} {a} {b} sound rest h e is found none c le =
      let s = split h 0 things e sound.rising found in
      let test = λ (x : Entry T). not (is_unheld_at h x) in
      let back : reverse round ≡ h ∷ reverse rest = ap reverse is ∙ reverse-append rest (h ∷ []) in
      let falling : IsNonDecreasingBy (λ (x : Handle). x.serial) (h ∷ reverse rest) = subst (IsNonDecreasingBy (λ (x : Handle). x.serial)) back sound.falling in
      record {
        made_is = sound.made_is;
        few = sound.few;
        rising = RisesFrom-filter test 0 things sound.rising;
        up_to = UpTo-filter test made things sound.up_to;
        falling = λ i j d i_le j_lt. falling (suc i) (suc j) d (omega (arith, i_le)) (omega (arith, j_lt));
        unheld = λ other.
            let stands = ap (times other) is in
            let same = ap one (unheld_at-more other h e e.count s.here none) in
            omega (arith, sound.unheld other, stands, times-push other rest h, unheld-less (is_unheld_at other) h things e s none, same);
        counted =
            let long = ap length is in
            let own = ap (λ n. one (eqb n 0)) none in
            omega (arith, sound.counted, long, length-append rest (h ∷ []), unheld-less has_none h things e s none, own);
        room = omega (arith, sound.room, le, length-filter_le test things);
        more_room = omega (arith, sound.more_room, length-filter_le test things);
      }

  -- a write of a value changes no serial number and no count
  serials-written : (es : List (Entry T)) (h : Handle) (w : T) → serials (written_at es h w) ≡ serials es
  serials-written [] h w = refl
  serials-written (e ∷ es) h w =
      ap (λ n. n ∷ serials (written_at es h w)) (cond_both (is_at h e) (record e { value = w }) e (λ x. x.serial ≡ e.serial) (λ _. refl) (λ _. refl))
      ∙ ap (λ l. e.serial ∷ l) (serials-written es h w)

  length-written : (es : List (Entry T)) (h : Handle) (w : T) → length (written_at es h w) ≡ length es
  length-written [] h w = refl
  length-written (e ∷ es) h w = omega (arith, length-written es h w)

  count-written : (p : Entry T → Bool) → ((e : Entry T) (w : T) → p (record e { value = w }) ≡ p e) → (es : List (Entry T)) (h : Handle) (w : T) → count_by p (written_at es h w) ≡ count_by p es
  count-written p reads [] h w = refl
  count-written p reads (e ∷ es) h w =
      let e' = cond (is_at h e) (record e { value = w }) e in
      let same : p e' ≡ p e = cond_both (is_at h e) (record e { value = w }) e (λ x. p x ≡ p e) (λ _. reads e w) (λ _. refl) in
      sum_by-cons (λ x. cond (p x) 1 0) e' (written_at es h w)
      ∙ ap (λ b. one b + count_by p (written_at es h w)) same
      ∙ ap (λ n. one (p e) + n) (count-written p reads es h w)
      ∙ sym (sum_by-cons (λ x. cond (p x) 1 0) e es)

  pub sound_written : {things : List (Entry T)} {last made : ℕ} {round waiting : List Handle} {a b : ℕ} → IsSound things last made round waiting a b → (h : Handle) (w : T) → IsSound (written_at things h w) last made round waiting a b
  sound_written {things} {last} {made} {round} {waiting} sound h w =
      record {
        made_is = sound.made_is;
        few = sound.few;
        rising = subst (RisesFrom 0) (sym (serials-written things h w)) sound.rising;
        up_to = subst (UpTo made) (sym (serials-written things h w)) sound.up_to;
        falling = sound.falling;
        unheld = λ other. sound.unheld other ∙ sym (count-written (is_unheld_at other) (λ e x. refl) things h w);
        counted = sound.counted ∙ sym (count-written has_none (λ e x. refl) things h w);
        room = omega (arith, sound.room, length-written things h w);
        more_room = omega (arith, sound.more_room, length-written things h w);
      }
