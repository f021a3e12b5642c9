-- The next round begins.
use Rattle.std.proofs.Common.{◌≡◌, ℕ, Bool, eqb, List, [], ◌∷◌, length, map, refl, sym, ap, ◌∙◌, arith}
use Rattle.std.specs.Prelude.{filter, reverse, count_by, IsTrue}
use Rattle.std.specs.List.Sorted.{IsPermutation, IsNonDecreasingBy}
use Rattle.std.proofs.lemmas.Bool.{eqb-true, eq-eqb}
use Rattle.std.proofs.lemmas.List.{length-map}
use Rattle.std.proofs.lemmas.List.Sums.{length-filter}
use Rattle.std.proofs.lemmas.List.Sorted.{IsPermutation-reverse, length_permutation}
use Rattle.slot_arena.specs.declared.handle.Handle.{Handle}
use Rattle.slot_arena.specs.Slots.{Entry}
use Rattle.gd_holding.specs.Rounds.{HeapView, unheld, round_after}
use Rattle.counted_heap.specs.Heap.{times, has_none, IsSound}
use Rattle.counted_heap.proofs.Changes.{RisesFrom-filter}
use Rattle.counted_heap.proofs.Order.{slowly, same_order, times-IsPermutation, count-unheld}

pub nothing : {X : Type 0} (xs : List X) → length xs ≡ 0 → xs ≡ []
nothing [] none = refl
nothing (x ∷ xs) none = absurd (omega (arith, none))

-- a test for nothing
zero_test : (n : ℕ) (b : Bool) → b ≡ eqb n 0 → (IsTrue b → n ≡ 0) × (n ≡ 0 → IsTrue b)
zero_test n b same = (λ yes. eqb-true n 0 (sym same ∙ yes), λ none. same ∙ eq-eqb n 0 none)

module _ {T : Type 0} where
  pub same_heap : (a b : HeapView T) → a.things ≡ b.things → a.round ≡ b.round → a.made ≡ b.made → a ≡ b
  same_heap a b things round made =
      ap (λ (l : List (Entry T)). record { things = l; round = a.round; made = a.made }) things
      ∙ ap (λ (l : List ℕ). record { things = b.things; round = l; made = a.made }) round
      ∙ ap (λ (n : ℕ). record { things = b.things; round = b.round; made = n }) made

  -- what waited is the round
  pub sound_turned : {things : List (Entry T)} {last made : ℕ} {round waiting : List Handle} {a b : ℕ} → IsSound things last made round waiting a b → round ≡ [] → (sorted : List Handle) → IsPermutation waiting sorted → IsNonDecreasingBy (λ (h : Handle). h.serial) (reverse sorted) → IsSound things last made sorted round b a
  sound_turned {things} {last} {made} {round} {waiting} {a} {b} sound empty sorted moved falling =
      record {
        made_is = sound.made_is;
        few = sound.few;
        rising = sound.rising;
        up_to = sound.up_to;
        falling = falling;
        unheld = λ h. omega (arith, sound.unheld h, times-IsPermutation h waiting sorted moved);
        counted = omega (arith, sound.counted, length_permutation waiting sorted moved);
        room = sound.more_room;
        more_room = sound.room;
      }

  -- it is what nothing holds, by rising serial number
  pub turned_round : {things : List (Entry T)} {last made : ℕ} {round waiting : List Handle} {a b : ℕ} → IsSound things last made round waiting a b → round ≡ [] → (sorted : List Handle) → IsPermutation waiting sorted → IsNonDecreasingBy (λ (h : Handle). h.serial) (reverse sorted) → map (λ (h : Handle). h.serial) (reverse sorted) ≡ unheld things
  turned_round {things} {last} {made} {round} {waiting} sound empty sorted moved falling =
      same_order 0 0 (reverse sorted) (filter has_none things)
      (slowly (reverse sorted) falling)
      (RisesFrom-filter has_none 0 things sound.rising)
      (λ h.
      let none = ap (times h) empty in
      omega (arith, times-IsPermutation h sorted (reverse sorted) (IsPermutation-reverse sorted), times-IsPermutation h waiting sorted moved, sound.unheld h, none, count-unheld h things))

  -- where nothing is left of a round, nothing is unheld exactly where nothing waits
  pub settled : {things : List (Entry T)} {last made : ℕ} {round waiting : List Handle} {a b : ℕ} → IsSound things last made round waiting a b → round ≡ [] → (empty : Bool) → empty ≡ eqb (length waiting) 0 → (IsTrue empty → round_after things (map (λ (h : Handle). h.serial) (reverse round)) ≡ []) × (round_after things (map (λ (h : Handle). h.serial) (reverse round)) ≡ [] → IsTrue empty)
  settled {things} {last} {made} {round} {waiting} sound none empty tested =
      let is : round_after things (map (λ (h : Handle). h.serial) (reverse round)) ≡ unheld things = ap (λ (l : List Handle). round_after things (map (λ (h : Handle). h.serial) (reverse l))) none in
      let long : length (unheld things) ≡ count_by has_none things = length-map (filter has_none things) (λ e. e.serial) ∙ length-filter has_none things in
      let few : length round ≡ 0 = ap length none in
      let test = zero_test (length waiting) empty tested in (
        λ yes. is ∙ nothing (unheld things) (omega (arith, long, few, sound.counted, test.0 yes)),
        λ nought. test.1 (let short : length (unheld things) ≡ 0 = ap length (sym is ∙ nought) in omega (arith, long, few, sound.counted, short)),
      )
