-- A change of an array is made in the heap.
use Rattle.std.proofs.Common.{◌≡◌, ℕ, ◌+◌, ◌^◌, ◌<◌, ◌≤◌, List, [], ◌∷◌, length, map, take, Some, IsSome, refl, sym, ap, ◌∙◌, subst}
use Rattle.std.proofs.Math.ListN.{set}
use Rattle.slot_arena.specs.declared.handle.Handle.{Handle}
use Rattle.slot_arena.specs.Slots.{Entry, find_at, value_at, written_at}
use Rattle.gd_model.specs.declared.value.Value.{Value}
use Rattle.gd_holding.specs.Rounds.{HeapView}
use Rattle.counted_heap.specs.declared.thing.Thing.{Thing}
use Rattle.counted_heap.specs.Heap.{RisesFrom, serials}
use Rattle.container_methods.specs.Arrays.{answer, gone}
use Rattle.container_methods.specs.declared.array_change.ArrayChange.{ArrayChange}
use Rattle.rooted_heap.specs.Rooted.{RootedView, bare, contents, thing_at, IsThere, IsSound}
use Rattle.rooted_heap.specs.Changing.{brought, Fits, with_change, Takes}
use Rattle.rooted_heap.specs.Keeping.{kept_all, CanKeep, given_all, CanGive}
use Rattle.rooted_heap.specs.Writing.{plain_part, written_in}
use Rattle.rooted_heap.proofs.Changed.{Changing, Turns, rises_kept_all, value_back, alive_kept_all, sound_can_keep, small_was, gone_can_give, changed_things, sound_changed, sound_answered}
use Rattle.rooted_heap.proofs.Dropping.{bare-given_all, plain_kept, plain_can_keep, plain_given, plain_can_give}
use Rattle.rooted_heap.proofs.Filled.{CanFill, can_fill, is_found}
use Rattle.rooted_heap.proofs.Kept.{bare-kept_all}
use Rattle.rooted_heap.proofs.Putting.{same_turns}
use Rattle.rooted_heap.proofs.Seen.{thing_is_value}
use Rattle.rooted_heap.proofs.Swapped.{written_same}
use Rattle.rooted_heap.proofs.Turned.{array_turns, brought_few}
use Rattle.rooted_heap.proofs.Values.{view_of}

module _ (heap : HeapView Thing) (names : List (List ℕ)) (slots : List Value) (top : ℕ) (now : RootedView) (is : view_of heap names slots top ≡ now) (sound : IsSound heap.things names slots top) (short : top < 2 ^ 64) (rises : RisesFrom 0 (serials heap.things)) (h : Handle) (change : ArrayChange) (takes : Takes now h change) (plain : List Value) (plain_is : plain ≡ map plain_part (brought change)) where
  fill : CanFill heap.things names (take top slots) (brought change)
  fill = can_fill heap names slots top now is (brought change) takes.held (brought_few change takes.was takes.fits)

  pub plain_can : CanKeep heap.things plain
  plain_can =
      subst (λ (l : List Value). CanKeep heap.things l) (sym plain_is)
      (plain_can_keep (brought change) heap.things (sound_can_keep sound short rises (brought change) fill))

  was_found : value_at heap.things h ≡ Some takes.was
  was_found = sym (thing_is_value 0 heap.things h rises) ∙ ap (λ (w : RootedView). thing_at w.things h) is ∙ takes.was_is

  changing : Changing heap.things names slots top h takes.was (brought change)
  changing = record { sound = sound; short = short; rises = rises; found = was_found; can = fill }

  module _ (k : List (Entry Thing)) (k_is : k ≡ kept_all heap.things plain) where
    all_kept : k ≡ kept_all heap.things (brought change)
    all_kept = k_is ∙ ap (kept_all heap.things) plain_is ∙ plain_kept (brought change) heap.things

    rises_k : RisesFrom 0 (serials k)
    rises_k = subst (λ (l : List (Entry Thing)). RisesFrom 0 (serials l)) (sym all_kept) (rises_kept_all (brought change) heap.things rises)

    pub alive_k : IsSome (find_at k h)
    alive_k = subst (λ (l : List (Entry Thing)). IsSome (find_at l h)) (sym all_kept) (alive_kept_all (brought change) heap.things h (is_found heap.things h takes.was was_found))

    module _ (was : Thing) (found : value_at k h ≡ Some was) where
      pub was_same : was ≡ takes.was
      was_same =
          let back : value_at heap.things h ≡ Some was = value_back (brought change) heap.things h was rises (subst (λ (l : List (Entry Thing)). value_at l h ≡ Some was) all_kept found) in
          cc (back, was_found)

      pub fits_was : Fits change was
      fits_was = subst (Fits change) (sym was_same) takes.fits

      module _ (new : Thing) (new_is : new ≡ with_change change was) (few : length (contents new) ≤ 16777216) (left : List Value) (left_is : left ≡ gone change (contents was)) where
        turns : Turns (IsThere (map bare heap.things) names) takes.was new (brought change) left (answer change (contents was) ∷ [])
        turns =
            subst (λ (t : Thing). Turns (IsThere (map bare heap.things) names) t new (brought change) left (answer change (contents was) ∷ [])) was_same
            (subst (λ (l : List Value). Turns (IsThere (map bare heap.things) names) was new (brought change) l (answer change (contents was) ∷ [])) (sym left_is)
            (array_turns (IsThere (map bare heap.things) names) change was new refl fits_was new_is few))

        pub left_can : CanGive (written_at k h new) left
        left_can =
            subst (λ (l : List (Entry Thing)). CanGive (written_at l h new) left) (sym all_kept)
            (gone_can_give changing new left (answer change (contents was) ∷ []) turns)

        module _ (after : List (Entry Thing)) (after_is : after ≡ given_all (written_at k h new) left) where
          after_same : after ≡ given_all (written_at (kept_all heap.things (brought change)) h new) left
          after_same = after_is ∙ ap (λ (l : List (Entry Thing)). given_all (written_at l h new) left) all_kept

          pub sound_made_change : (x : Value) → x ≡ answer change (contents was) → top < length slots → IsSound after names (set slots top x) (top + 1)
          sound_made_change x x_is room =
              subst (λ (l : List (Entry Thing)). IsSound l names (set slots top x) (top + 1)) (sym after_same)
              (sound_answered changing new left (answer change (contents was) ∷ []) turns x (ap (λ (y : Value). y ∷ []) (sym x_is)) room)

          pub things_made_change : map bare after ≡ written_in now.things h (with_change change takes.was)
          things_made_change =
              ap (map bare) after_same
              ∙ changed_things changing new left (answer change (contents was) ∷ []) turns
              ∙ ap (λ (w : RootedView). written_in w.things h new) is
              ∙ ap (written_in now.things h) (new_is ∙ ap (with_change change) was_same)

      module _ (new : Thing) (same : new ≡ was) where
        back_turns : Turns (IsThere (map bare heap.things) names) takes.was new (brought change) (brought change) []
        back_turns = same_turns (IsThere (map bare heap.things) names) takes.was new (brought change) (brought change) (same ∙ was_same) (λ s. refl) (λ all. all) (small_was changing)

        pub back_can : CanGive (written_at k h new) plain
        back_can =
            subst (λ (l : List (Entry Thing)). CanGive (written_at l h new) plain) (sym all_kept)
            (subst (λ (l : List Value). CanGive (written_at (kept_all heap.things (brought change)) h new) l) (sym plain_is)
            (plain_can_give (brought change) (written_at (kept_all heap.things (brought change)) h new) (gone_can_give changing new (brought change) [] back_turns)))

        module _ (after : List (Entry Thing)) (after_is : after ≡ given_all (written_at k h new) plain) where
          after_back : after ≡ given_all (written_at (kept_all heap.things (brought change)) h new) (brought change)
          after_back =
              after_is
              ∙ ap (λ (l : List (Entry Thing)). given_all (written_at l h new) plain) all_kept
              ∙ ap (given_all (written_at (kept_all heap.things (brought change)) h new)) plain_is
              ∙ plain_given (brought change) (written_at (kept_all heap.things (brought change)) h new)

          pub sound_back_again : IsSound after names slots top
          sound_back_again =
              subst (λ (l : List (Entry Thing)). IsSound l names slots top) (sym after_back)
              (sound_changed changing new (brought change) [] back_turns refl)

          pub things_back_again : map bare after ≡ map bare heap.things
          things_back_again =
              ap (map bare) after_is
              ∙ bare-given_all plain (written_at k h new)
              ∙ ap (λ (t : Thing). map bare (written_at k h t)) same
              ∙ ap (map bare) (written_same 0 k h was rises_k found)
              ∙ ap (map bare) all_kept
              ∙ bare-kept_all (brought change) heap.things
