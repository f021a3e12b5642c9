-- What a handle leads to.
use Rattle.std.proofs.Common.{◌≡◌, ℕ, eqb, List, [], ◌∷◌, map, Some, None, refl, sym, ap, ◌∙◌, inl, inr, arith}
use Rattle.std.specs.Prelude.{find, option_map}
use Rattle.std.proofs.lemmas.Bool.{cond-true, cond-false, cases_Bool, and_from, and_left, and_right, eqb-true}
use Rattle.slot_arena.specs.declared.handle.Handle.{Handle}
use Rattle.slot_arena.specs.Slots.{Entry, is_at, find_at, value_at}
use Rattle.counted_heap.specs.declared.thing.Thing.{Thing}
use Rattle.counted_heap.specs.Heap.{RisesFrom, serials}
use Rattle.counted_heap.proofs.Split.{NoneAt, later_none}
use Rattle.rooted_heap.specs.Rooted.{bare, has_serial, lying_at, thing_at, thing_view, seen}

-- nothing is found of a handle that names none
none_found : (h : Handle) (es : List (Entry Thing)) → NoneAt h es → find_at es h ≡ None
none_found h [] none = refl
none_found h (e ∷ es) none = cond-false (is_at h e) (Some e) (find_at es h) none.0 ∙ none_found h es none.1

-- things by rising serial number are found by it
pub thing_is_value : (n : ℕ) (es : List (Entry Thing)) (h : Handle) → RisesFrom n (serials es) → thing_at (map bare es) h ≡ value_at es h
thing_is_value n [] h rises = refl
thing_is_value n (e ∷ es) h rises =
    elim (cases_Bool (eqb e.serial h.serial)) [
      | inl serial ↦
          let first : thing_at (map bare (e ∷ es)) h ≡ lying_at h.index (Some (bare e)) = ap (lying_at h.index) (cond-true (eqb e.serial h.serial) (Some (bare e)) (find (has_serial h.serial) (map bare es)) serial) in
          elim (cases_Bool (eqb e.index h.index)) [
            | inl index ↦
                let here = and_from (eqb e.index h.index) (eqb e.serial h.serial) index serial in
                first ∙ cond-true (eqb e.index h.index) (Some e.value) None index
                ∙ sym (ap (option_map (λ (x : Entry Thing). x.value)) (cond-true (is_at h e) (Some e) (find_at es h) here))
            | inr other ↦
                let no = and_left (eqb e.index h.index) (eqb e.serial h.serial) other in
                let none = none_found h es (later_none h e.serial es (omega (arith, eqb-true e.serial h.serial serial)) rises.1) in
                first ∙ cond-false (eqb e.index h.index) (Some e.value) None other
                ∙ sym (ap (option_map (λ (x : Entry Thing). x.value)) (cond-false (is_at h e) (Some e) (find_at es h) no ∙ none))
          ]
      | inr other ↦
          ap (lying_at h.index) (cond-false (eqb e.serial h.serial) (Some (bare e)) (find (has_serial h.serial) (map bare es)) other)
          ∙ thing_is_value e.serial es h rises.1
          ∙ sym (ap (option_map (λ (x : Entry Thing). x.value)) (cond-false (is_at h e) (Some e) (find_at es h) (and_right (eqb e.index h.index) (eqb e.serial h.serial) other)))
    ]

pub seen_is : (es : List (Entry Thing)) (h : Handle) → RisesFrom 0 (serials es) → seen (map bare es) h ≡ option_map thing_view (value_at es h)
seen_is es h rises = ap (option_map thing_view) (thing_is_value 0 es h rises)
