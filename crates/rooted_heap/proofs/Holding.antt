-- What the calls leave of the holding of values.
use Rattle.std.proofs.Common.{◌≡◌, ℕ, ◌+◌, ◌^◌, ◌<◌, ◌≤◌, List, [], ◌∷◌, ◌++◌, length, map, Option, IsSome, refl, sym, ◌∙◌, subst, arith}
use Rattle.std.specs.Prelude.{sum_by}
use Rattle.std.specs.List.{All}
use Rattle.std.specs.Option.{option_to_list, ForSome}
use Rattle.std.proofs.lemmas.List.{length-map}
use Rattle.std.proofs.lemmas.List.Elements.{All-nil, All-cons, All-head, All-tail, All-append}
use Rattle.std.proofs.lemmas.List.Sums.{sum_by-le}
use Rattle.slot_arena.specs.declared.handle.Handle.{Handle}
use Rattle.slot_arena.specs.Slots.{Entry, find_at, count_at}
use Rattle.gd_model.specs.declared.value.Value.{Value}
use Rattle.gd_holding.specs.Handles.{value_handle}
use Rattle.gd_holding.specs.Holding.{filled, AreCounted, IsHeld}
use Rattle.counted_heap.specs.declared.thing.Thing.{Thing}
use Rattle.counted_heap.specs.Thing.{thing_places}
use Rattle.counted_heap.proofs.Holders.{in_hand, few_holders}
use Rattle.rooted_heap.specs.Rooted.{bare, handles, IsThere, AreWhole, AreHeld}
use Rattle.rooted_heap.proofs.Counting.{holds, occurrences-append, occurrences-handles, length-handles, all_alive, there_alive, recounted}

abbrev in_thing : Thing → List Handle
in_thing t = filled (thing_places t)

-- other values are whole too
pub whole_with : {things : List (Handle × Thing)} {names : List (List ℕ)} {values : List Value} (left : List Value) → All (IsThere things names) left → AreWhole things names values → AreWhole things names left
whole_with left there whole = record { inside = whole.inside; outside = there; few = whole.few; small = whole.small }

-- the values stand in another order, or others stand there that name no thing
pub held_moved : {es : List (Entry Thing)} {names : List (List ℕ)} {values : List Value} (left : List Value) → ((s : ℕ) → sum_by (holds s) left ≡ sum_by (holds s) values) → All (IsThere (map bare es) names) left → AreHeld es names values → AreHeld es names left
held_moved {es} {names} {values} left same there held = record {
  counted = recounted in_thing es (handles values) (handles left) (λ s. occurrences-handles s left ∙ same s ∙ sym (occurrences-handles s values)) (all_alive es names left there) held.counted;
  whole = whole_with left there held.whole;
}

-- one value apart from the others
pub held_apart : {es : List (Entry Thing)} {names : List (List ℕ)} {values : List Value} (x : Value) (left : List Value) → ((s : ℕ) → holds s x + sum_by (holds s) left ≡ sum_by (holds s) values) → IsThere (map bare es) names x → All (IsThere (map bare es) names) left → AreHeld es names values → AreCounted thing_places es (option_to_list (value_handle x) ++ handles left)
held_apart {es} {names} {values} x left parts there all held =
    let alive = λ (h : Handle). IsSome (find_at es h) in
    recounted in_thing es (handles values) (option_to_list (value_handle x) ++ handles left)
    (λ s. omega (arith, parts s, occurrences-append s (option_to_list (value_handle x)) (handles left), occurrences-handles s left, occurrences-handles s values))
    (All-append alive (option_to_list (value_handle x)) (handles left) (there_alive es names x there) (all_alive es names left all))
    held.counted

-- one more value, once the heap counts it
pub held_more : {es es' : List (Entry Thing)} {names : List (List ℕ)} {values : List Value} (x : Value) (more : List Value) → map bare es' ≡ map bare es → AreCounted thing_places es' (option_to_list (value_handle x) ++ handles values) → ((s : ℕ) → sum_by (holds s) more ≡ holds s x + sum_by (holds s) values) → All (IsThere (map bare es) names) more → AreHeld es names values → AreHeld es' names more
held_more {es} {es'} {names} {values} x more same counted parts there held =
    let there' = subst (λ (bs : List (Handle × Thing)). All (IsThere bs names) more) (sym same) there in
    record {
      counted = recounted in_thing es' (option_to_list (value_handle x) ++ handles values) (handles more)
          (λ s. omega (arith, parts s, occurrences-append s (option_to_list (value_handle x)) (handles values), occurrences-handles s more, occurrences-handles s values))
          (all_alive es' names more there') counted;
      whole = subst (λ (bs : List (Handle × Thing)). AreWhole bs names more) (sym same) (whole_with more there held.whole);
    }

-- one value less, once the heap counts it no longer
pub held_less : {es es' : List (Entry Thing)} {names : List (List ℕ)} {values : List Value} (left : List Value) → map bare es' ≡ map bare es → AreCounted thing_places es' (handles left) → All (IsThere (map bare es) names) left → AreHeld es names values → AreHeld es' names left
held_less {es} {es'} {names} left same counted there held = record {
  counted = counted;
  whole = subst (λ (bs : List (Handle × Thing)). AreWhole bs names left) (sym same) (whole_with left there held.whole);
}

-- what is apart can be given up
pub apart_held : {es : List (Entry Thing)} (x : Value) (left : List Value) → AreCounted thing_places es (option_to_list (value_handle x) ++ handles left) → ForSome (value_handle x) (λ h. IsHeld es h)
apart_held {es} x left counted = λ h is.
    in_hand in_thing es (h ∷ handles left) h (subst (λ (o : Option Handle). AreCounted thing_places es (option_to_list o ++ handles left)) is counted) (0, omega arith, refl)

-- no count comes near its limit
pub count_below : {es : List (Entry Thing)} {names : List (List ℕ)} {values : List Value} → length values < 2 ^ 66 → AreHeld es names values → (h : Handle) → ForSome (count_at es h) (λ n. n < 2 ^ 120)
count_below {es} {names} {values} short held h = λ n is.
    let total = sum_by-le (λ (e : Entry Thing). length (in_thing e.value)) (2 ^ 66) es (small_places es held.whole.small) in
    few_holders in_thing es (handles values) h (2 ^ 120) held.counted
    (omega (arith, total, length-handles values, length-map es bare, held.whole.few, short)) n is
  where
    small_places : (es : List (Entry Thing)) → All (λ (t : Handle × Thing). length (in_thing t.1) ≤ 2 ^ 66) (map bare es) → All (λ (e : Entry Thing). length (in_thing e.value) ≤ 2 ^ 66) es
    small_places [] all = All-nil (λ (x : Entry Thing). length (in_thing x.value) ≤ 2 ^ 66)
    small_places (e ∷ es) all =
        let P = λ (t : Handle × Thing). length (in_thing t.1) ≤ 2 ^ 66 in
        All-cons (λ (x : Entry Thing). length (in_thing x.value) ≤ 2 ^ 66) e es (All-head P (bare e) (map bare es) all) (small_places es (All-tail P (bare e) (map bare es) all))
