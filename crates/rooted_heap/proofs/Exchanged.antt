-- A dictionary gets a value at a key, and what was there comes last.
use Rattle.std.proofs.Common.{◌≡◌, ℕ, ◌+◌, ◌-◌, ◌^◌, ◌<◌, ◌≤◌, List, [], ◌∷◌, ◌++◌, length, map, take, Option, Some, IsSome, unwrap_or, refl, sym, ap, ◌∙◌, subst, arith, length-append}
use Rattle.std.proofs.Math.ListN.{set}
use Rattle.std.proofs.Math.Seq.{take-append_seam}
use Rattle.std.specs.Option.{ForSome}
use Rattle.std.proofs.lemmas.List.Elements.{All-nil, All-cons}
use Rattle.slot_arena.specs.declared.handle.Handle.{Handle}
use Rattle.slot_arena.specs.Slots.{Entry, find_at, value_at, count_at, written_at}
use Rattle.gd_model.specs.declared.key.Key.{Key}
use Rattle.gd_model.specs.declared.value.Value.{Value}
use Rattle.gd_model.specs.declared.value.Value.TheVariants as v
use Rattle.gd_model.specs.Whole.{key_value}
use Rattle.gd_holding.specs.Handles.{value_handle}
use Rattle.gd_holding.specs.Holding.{IsHeld, kept, dropped}
use Rattle.gd_holding.specs.Rounds.{HeapView}
use Rattle.counted_heap.specs.declared.thing.Thing.{Thing}
use Rattle.counted_heap.specs.Thing.{thing_pairs}
use Rattle.counted_heap.specs.Heap.{RisesFrom, serials}
use Rattle.rooted_heap.specs.Rooted.{RootedView, bare, IsThere, IsSound, CanHold}
use Rattle.rooted_heap.specs.Keeping.{kept_all, CanKeep, given_all, CanGive}
use Rattle.rooted_heap.specs.Entries.{IsDict, PutsInto, PutsKept, PutsPair, with_entry, entry_of, again}
use Rattle.rooted_heap.specs.Writing.{written_in}
use Rattle.rooted_heap.proofs.Changed.{Changing, rises_kept_all, value_back, alive_kept_all, sound_can_keep, small_was, gone_can_give, changed_things, sound_changed, sound_answered}
use Rattle.rooted_heap.proofs.Dropping.{bare-given_all}
use Rattle.rooted_heap.proofs.Filled.{CanFill, can_fill}
use Rattle.rooted_heap.proofs.Putting.{put_turns, failed_turns, same_key_kept, again_given, again_can_give}
use Rattle.rooted_heap.proofs.Swapped.{written_same}
use Rattle.rooted_heap.proofs.Values.{view_of}
use Rattle.rooted_heap.proofs.Kept.{bare-kept_all}

module _ (heap : HeapView Thing) (names : List (List ℕ)) (slots : List Value) (top : ℕ) (now : RootedView) (is : view_of heap names slots top ≡ now) (sound : IsSound heap.things names slots top) (short : top < 2 ^ 64) (rises : RisesFrom 0 (serials heap.things)) (key : Key) (x : Value) (key_held : CanHold now (key_value key)) (held : CanHold now x) (named plain : Value) (same_key : value_handle named ≡ value_handle (key_value key)) (same_value : value_handle plain ≡ value_handle x) where
  fill : CanFill heap.things names (take top slots) (key_value key ∷ x ∷ [])
  fill = can_fill heap names slots top now is (key_value key ∷ x ∷ []) (All-cons (CanHold now) (key_value key) (x ∷ []) key_held (All-cons (CanHold now) x [] held (All-nil (CanHold now)))) (omega arith)

  keeps : CanKeep heap.things (key_value key ∷ x ∷ [])
  keeps = sound_can_keep sound short rises (key_value key ∷ x ∷ []) fill

  pub first_held : ForSome (value_handle named) (λ h. IsHeld heap.things h)
  first_held = subst (λ (o : Option Handle). ForSome o (λ h. IsHeld heap.things h)) (sym same_key) keeps.0

  pub first_below : ForSome (value_handle named) (λ h. ForSome (count_at heap.things h) (λ n. n < 2 ^ 127))
  first_below = subst (λ (o : Option Handle). ForSome o (λ h. ForSome (count_at heap.things h) (λ n. n < 2 ^ 127))) (sym same_key) keeps.1

  module _ (k1 : List (Entry Thing)) (k1_is : k1 ≡ kept heap.things (value_handle named)) where
    k1_same : k1 ≡ kept heap.things (value_handle (key_value key))
    k1_same = k1_is ∙ ap (kept heap.things) same_key

    pub second_held : ForSome (value_handle plain) (λ h. IsHeld k1 h)
    second_held =
        subst (λ (l : List (Entry Thing)). ForSome (value_handle plain) (λ h. IsHeld l h)) (sym k1_same)
        (subst (λ (o : Option Handle). ForSome o (λ h. IsHeld (kept heap.things (value_handle (key_value key))) h)) (sym same_value) keeps.2.0)

    pub second_below : ForSome (value_handle plain) (λ h. ForSome (count_at k1 h) (λ n. n < 2 ^ 127))
    second_below =
        subst (λ (l : List (Entry Thing)). ForSome (value_handle plain) (λ h. ForSome (count_at l h) (λ n. n < 2 ^ 127))) (sym k1_same)
        (subst (λ (o : Option Handle). ForSome o (λ h. ForSome (count_at (kept heap.things (value_handle (key_value key))) h) (λ n. n < 2 ^ 127))) (sym same_value) keeps.2.1)

    module _ (k2 : List (Entry Thing)) (k2_is : k2 ≡ kept k1 (value_handle plain)) (h : Handle) where
      all_kept : k2 ≡ kept_all heap.things (key_value key ∷ x ∷ [])
      all_kept = k2_is ∙ ap (λ (l : List (Entry Thing)). kept l (value_handle plain)) k1_is ∙ same_key_kept heap.things (key_value key) x named plain same_key same_value

      pub still_alive : IsSome (find_at heap.things h) → IsSome (find_at k2 h)
      still_alive alive = subst (λ (l : List (Entry Thing)). IsSome (find_at l h)) (sym all_kept) (alive_kept_all (key_value key ∷ x ∷ []) heap.things h alive)

      module _ (was : Thing) (found : value_at k2 h ≡ Some was) where
        pub found_before : value_at heap.things h ≡ Some was
        found_before = value_back (key_value key ∷ x ∷ []) heap.things h was rises (subst (λ (l : List (Entry Thing)). value_at l h ≡ Some was) all_kept found)

        changing : Changing heap.things names slots top h was (key_value key ∷ x ∷ [])
        changing = record { sound = sound; short = short; rises = rises; found = found_before; can = fill }

        module _ (new : Thing) (old : Option Value) (dict : IsDict was) (puts : PutsInto was key x new old) (few : length (thing_pairs new) ≤ 16777216) where
          pub again_can : CanGive (written_at k2 h new) (again named old)
          again_can =
              subst (λ (l : List (Entry Thing)). CanGive (written_at l h new) (again named old)) (sym all_kept)
              (again_can_give (written_at (kept_all heap.things (key_value key ∷ x ∷ [])) h new) (key_value key) named old same_key
              (gone_can_give changing new (again (key_value key) old) (unwrap_or old v.Nil ∷ []) (put_turns (IsThere (map bare heap.things) names) was new key x old refl dict puts few)))

          module _ (after : List (Entry Thing)) (after_is : after ≡ given_all (written_at k2 h new) (again named old)) where
            after_same : after ≡ given_all (written_at (kept_all heap.things (key_value key ∷ x ∷ [])) h new) (again (key_value key) old)
            after_same =
                after_is
                ∙ ap (λ (l : List (Entry Thing)). given_all (written_at l h new) (again named old)) all_kept
                ∙ again_given (written_at (kept_all heap.things (key_value key ∷ x ∷ [])) h new) (key_value key) named old same_key

            pub sound_put : (y : Value) → y ≡ unwrap_or old v.Nil → top < length slots → IsSound after names (set slots top y) (top + 1)
            sound_put y y_is room =
                subst (λ (l : List (Entry Thing)). IsSound l names (set slots top y) (top + 1)) (sym after_same)
                (sound_answered changing new (again (key_value key) old) (unwrap_or old v.Nil ∷ []) (put_turns (IsThere (map bare heap.things) names) was new key x old refl dict puts few) y (ap (λ (z : Value). z ∷ []) (sym y_is)) room)

            pub things_put : map bare after ≡ written_in (map bare heap.things) h new
            things_put =
                ap (map bare) after_same
                ∙ changed_things changing new (again (key_value key) old) (unwrap_or old v.Nil ∷ []) (put_turns (IsThere (map bare heap.things) names) was new key x old refl dict puts few)

        module _ (new : Thing) (same : new ≡ was) where
          back_can : CanGive (written_at k2 h new) (x ∷ key_value key ∷ [])
          back_can =
              subst (λ (l : List (Entry Thing)). CanGive (written_at l h new) (x ∷ key_value key ∷ [])) (sym all_kept)
              (gone_can_give changing new (x ∷ key_value key ∷ []) [] (failed_turns (IsThere (map bare heap.things) names) was new key x same (small_was changing)))

          pub plain_held : ForSome (value_handle plain) (λ k. IsHeld (written_at k2 h new) k)
          plain_held = subst (λ (o : Option Handle). ForSome o (λ k. IsHeld (written_at k2 h new) k)) (sym same_value) back_can.0

          module _ (g1 : List (Entry Thing)) (g1_is : g1 ≡ dropped (written_at k2 h new) (value_handle plain)) where
            g1_same : g1 ≡ dropped (written_at k2 h new) (value_handle x)
            g1_same = g1_is ∙ ap (dropped (written_at k2 h new)) same_value

            pub named_held : ForSome (value_handle named) (λ k. IsHeld g1 k)
            named_held =
                subst (λ (l : List (Entry Thing)). ForSome (value_handle named) (λ k. IsHeld l k)) (sym g1_same)
                (subst (λ (o : Option Handle). ForSome o (λ k. IsHeld (dropped (written_at k2 h new) (value_handle x)) k)) (sym same_key) back_can.1.0)

            module _ (g2 : List (Entry Thing)) (g2_is : g2 ≡ dropped g1 (value_handle named)) where
              g2_same : g2 ≡ given_all (written_at (kept_all heap.things (key_value key ∷ x ∷ [])) h new) (x ∷ key_value key ∷ [])
              g2_same =
                  g2_is ∙ ap (dropped g1) same_key ∙ ap (λ (l : List (Entry Thing)). dropped l (value_handle (key_value key))) g1_same
                  ∙ ap (λ (l : List (Entry Thing)). given_all (written_at l h new) (x ∷ key_value key ∷ [])) all_kept

              pub sound_back : IsSound g2 names slots top
              sound_back =
                  subst (λ (l : List (Entry Thing)). IsSound l names slots top) (sym g2_same)
                  (sound_changed changing new (x ∷ key_value key ∷ []) [] (failed_turns (IsThere (map bare heap.things) names) was new key x same (small_was changing)) refl)

              pub things_back : map bare g2 ≡ map bare heap.things
              things_back =
                  ap (map bare) g2_same
                  ∙ bare-given_all (x ∷ key_value key ∷ []) (written_at (kept_all heap.things (key_value key ∷ x ∷ [])) h new)
                  ∙ ap (λ (l : List (Entry Thing)). map bare (written_at l h new)) (sym all_kept)
                  ∙ ap (λ (t : Thing). map bare (written_at k2 h t)) same
                  ∙ ap (map bare) (written_same 0 k2 h was (subst (λ (l : List (Entry Thing)). RisesFrom 0 (serials l)) (sym all_kept) (rises_kept_all (key_value key ∷ x ∷ []) heap.things rises)) found)
                  ∙ ap (map bare) all_kept
                  ∙ bare-kept_all (key_value key ∷ x ∷ []) heap.things

pub popped_one : {X : Type 0} (xs : List X) (y : X) → take (length (xs ++ y ∷ []) - 1) (xs ++ y ∷ []) ≡ xs
popped_one xs y =
    let n : length (xs ++ y ∷ []) - 1 ≡ length xs = omega (arith, length-append xs (y ∷ [])) in
    ap (λ k. take k (xs ++ y ∷ [])) n ∙ take-append_seam xs (y ∷ [])

-- once what was there is given up, the pair was put
pub puts_pair : (old mid new : RootedView) (i : ℕ) (key : Key) (x : Value) → PutsKept old i key x mid → new ≡ record mid { values = take (length mid.values - 1) mid.values } → PutsPair old i key x new
puts_pair old mid new i key x puts is = record {
  handle = puts.handle;
  named = puts.named;
  was = puts.was;
  was_is = puts.was_is;
  new_is = is
      ∙ ap (λ (w : RootedView). record w { values = take (length w.values - 1) w.values }) puts.new_is
      ∙ ap (λ (l : List Value). record old { things = written_in old.things puts.handle (with_entry puts.was key x); values = l }) (popped_one old.values (unwrap_or (entry_of puts.was key) v.Nil));
}
