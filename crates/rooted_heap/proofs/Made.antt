-- What a new thing leaves.
use Rattle.std.proofs.Common.{◌≡◌, ℕ, ◌+◌, ◌^◌, ◌<◌, ◌≤◌, Bool, true, false, cond, eqb, ◌||◌, List, [], ◌∷◌, ◌++◌, length, map, take, Option, Some, None, IsSome, is_some, refl, sym, ap, ◌∙◌, subst, arith, length-append}
use Rattle.std.proofs.Math.ListN.{set}
use Rattle.std.specs.Prelude.{option_map, option_and_then, nat_le}
use Rattle.std.specs.List.{All}
use Rattle.std.specs.Option.{option_to_list}
use Rattle.std.proofs.lemmas.Bool.{cond_both, cond-true, cond-false, eq-eqb, and_from, leb-false}
use Rattle.std.proofs.lemmas.List.{length-map, length-set, map-append, take_more_set}
use Rattle.std.proofs.lemmas.List.Elements.{All-weaker, All-push, All-same, All-head, All-tail}
use Rattle.std.proofs.lemmas.List.Sums.{sum_by_push}
use Rattle.slot_arena.specs.declared.handle.Handle.{Handle}
use Rattle.slot_arena.specs.Slots.{Entry, is_at, handle_of, find_at}
use Rattle.gd_model.specs.declared.value.Value.{Value}
use Rattle.gd_model.specs.View.{array_in, dict_in, class_in}
use Rattle.gd_holding.specs.Handles.{value_handle}
use Rattle.gd_holding.specs.Holding.{occurrences, filled, AreCounted}
use Rattle.counted_heap.specs.declared.thing.Thing.{Thing}
use Rattle.counted_heap.specs.declared.thing.Thing.TheVariants.{Object, Array, Dict}
use Rattle.counted_heap.specs.Thing.{thing_places}
use Rattle.counted_heap.specs.Heap.{RisesFrom, serials}
use Rattle.counted_heap.proofs.Split.{serial_at}
use Rattle.rooted_heap.specs.declared.making.ThingKind.{ThingKind}
use Rattle.rooted_heap.specs.declared.making.ThingKind.TheVariants as kind
use Rattle.rooted_heap.specs.Rooted.{bare, thing_view, seen, names_of, contents, handles, IsThere, AreHeld, IsSound}
use Rattle.rooted_heap.specs.Making.{kind_in, value_named, IsNamed}
use Rattle.rooted_heap.proofs.Counting.{holds, occurrences-append, occurrences-handles, all_alive, there_alive, recounted}
use Rattle.rooted_heap.proofs.Seen.{seen_is}
use Rattle.rooted_heap.proofs.There.{same_there, filled-contents}
use Rattle.rooted_heap.proofs.Values.{free_there}

-- what was found is found still
found_still : (es : List (Entry Thing)) (e x : Entry Thing) (h : Handle) → find_at es h ≡ Some x → find_at (es ++ e ∷ []) h ≡ Some x
found_still [] e x h found = absurd (cc)
found_still (y ∷ ys) e x h found =
    cond_both (is_at h y) (Some y) (find_at ys h)
    (λ o. o ≡ Some x → cond (is_at h y) (Some y) (find_at (ys ++ e ∷ []) h) ≡ Some x)
    (λ here is. cond-true (is_at h y) (Some y) (find_at (ys ++ e ∷ []) h) here ∙ is)
    (λ other is. cond-false (is_at h y) (Some y) (find_at (ys ++ e ∷ []) h) other ∙ found_still ys e x h is)
    found

-- the last of rising things stands behind all others
pub last_later : (n : ℕ) (es : List (Entry Thing)) (e : Entry Thing) → RisesFrom n (serials (es ++ e ∷ [])) → n < e.serial
last_later n [] e rises = rises.0
last_later n (x ∷ xs) e rises = omega (arith, rises.0, last_later x.serial xs e rises.1)

-- and is the one that its handle names
pub last_found : (n : ℕ) (es : List (Entry Thing)) (e : Entry Thing) → RisesFrom n (serials (es ++ e ∷ [])) → find_at (es ++ e ∷ []) (handle_of e) ≡ Some e
last_found n [] e rises = cond-true (is_at (handle_of e) e) (Some e) None (and_from (eqb e.index e.index) (eqb e.serial e.serial) (eq-eqb e.index e.index refl) (eq-eqb e.serial e.serial refl))
last_found n (x ∷ xs) e rises =
    cond_both (is_at (handle_of e) x) (Some x) (find_at (xs ++ e ∷ []) (handle_of e))
    (λ o. o ≡ Some e)
    (λ here. absurd (omega (arith, serial_at (handle_of e) x here, last_later x.serial xs e rises.1)))
    (λ other. last_found x.serial xs e rises.1)

is_found : (o : Option (Entry Thing)) → IsSome o → (x : Entry Thing) × (o ≡ Some x)
is_found None some = absurd (cc)
is_found (Some x) some = (x, refl)

module _ (es : List (Entry Thing)) (e : Entry Thing) (names : List (List ℕ)) (rises : RisesFrom 0 (serials es)) (rises' : RisesFrom 0 (serials (es ++ e ∷ []))) where
  -- what was there is there still
  pub there_still : (x : Value) → IsThere (map bare es) names x → IsThere (map bare (es ++ e ∷ [])) names x
  there_still x there =
      same_there (map bare es) (map bare (es ++ e ∷ [])) names x
      (λ h is.
      let all = subst (λ (o : Option Handle). All (λ (y : Handle). IsSome (find_at es y)) (option_to_list o)) is (there_alive es names x there) in
      let found = is_found (find_at es h) (All-head (λ (y : Handle). IsSome (find_at es y)) h [] all) in
      seen_is (es ++ e ∷ []) h rises'
      ∙ ap (λ (o : Option (Entry Thing)). option_map thing_view (option_map (λ y. y.value) o)) (found_still es e found.0 h found.1 ∙ sym found.1)
      ∙ sym (seen_is es h rises))
      there

  -- the new thing is seen
  new_seen : seen (map bare (es ++ e ∷ [])) (handle_of e) ≡ Some (thing_view e.value)
  new_seen =
      seen_is (es ++ e ∷ []) (handle_of e) rises'
      ∙ ap (λ (o : Option (Entry Thing)). option_map thing_view (option_map (λ y. y.value) o)) (last_found 0 es e rises')

  -- and its value is there
  new_there : (t : Thing) → e.value ≡ t → IsNamed names t → IsThere (map bare (es ++ e ∷ [])) names (value_named (kind_in t) (handle_of e))
  new_there (Object class values) is named = ap (λ o. is_some (option_and_then (names_of names) (class_in o))) (new_seen ∙ ap (λ (t : Thing). Some (thing_view t)) is) ∙ named
  new_there (Array a) is named = ap (λ o. is_some (array_in o)) (new_seen ∙ ap (λ (t : Thing). Some (thing_view t)) is)
  new_there (Dict d) is named = ap (λ o. is_some (dict_in o)) (new_seen ∙ ap (λ (t : Thing). Some (thing_view t)) is)

-- the value of a new thing names it
pub named_handle : (k : ThingKind) (h : Handle) → value_handle (value_named k h) ≡ Some h
named_handle kind.Object h = refl
named_handle kind.Array h = refl
named_handle kind.Dict h = refl

-- values that name nothing leave no handles
pub no_handles : (xs : List Value) → All (λ (x : Value). value_handle x ≡ None) xs → handles xs ≡ []
no_handles [] all = refl
no_handles (x ∷ xs) all =
    let P = λ (y : Value). value_handle y ≡ None in
    ap (λ (o : Option Handle). filled (o ∷ map value_handle xs)) (All-head P x xs all)
    ∙ no_handles xs (All-tail P x xs all)

pub nothing_inside : (t : Thing) → All (λ (x : Value). value_handle x ≡ None) (contents t) → filled (thing_places t) ≡ []
nothing_inside t all = filled-contents t ∙ no_handles (contents t) all

-- the heap is sound with the new thing
pub sound_made : {es : List (Entry Thing)} {names : List (List ℕ)} {slots : List Value} {top : ℕ} → IsSound es names slots top → top < length slots → (e : Entry Thing) → RisesFrom 0 (serials es) → RisesFrom 0 (serials (es ++ e ∷ [])) → length es < 16777216 → All (λ (x : Value). value_handle x ≡ None) (contents e.value) → IsNamed names e.value → AreCounted thing_places (es ++ e ∷ []) (handle_of e ∷ handles (take top slots)) → IsSound (es ++ e ∷ []) names (set slots top (value_named (kind_in e.value) (handle_of e))) (top + 1)
sound_made {es} {names} {slots} {top} sound room e rises rises' few free named counted =
    let new = es ++ e ∷ [] in
    let h = handle_of e in
    let x = value_named (kind_in e.value) h in
    let vs = take top slots in
    let P = IsThere (map bare es) names in
    let P' = IsThere (map bare new) names in
    let grown = take_more_set slots top x room in
    let both : map bare new ≡ map bare es ++ bare e ∷ [] = map-append bare es (e ∷ []) in
    let still = there_still es e names rises rises' in
    let there : All P' (vs ++ x ∷ []) = All-push P' vs x (All-weaker P P' still vs sound.held.whole.outside) (new_there es e names rises rises' e.value refl named) in
    let inside : All (λ (t : Handle × Thing). All P' (contents t.1)) (map bare es ++ bare e ∷ []) =
    All-push (λ (t : Handle × Thing). All P' (contents t.1)) (map bare es) (bare e)
    (All-weaker (λ (t : Handle × Thing). All P (contents t.1)) (λ (t : Handle × Thing). All P' (contents t.1)) (λ t all. All-weaker P P' still (contents t.1) all) (map bare es) sound.held.whole.inside)
    (All-weaker (λ (y : Value). value_handle y ≡ None) P' (λ y none. free_there (map bare new) names y none) (contents e.value) free) in
    let small : All (λ (t : Handle × Thing). length (filled (thing_places t.1)) ≤ 2 ^ 66) (map bare es ++ bare e ∷ []) =
    All-push (λ (t : Handle × Thing). length (filled (thing_places t.1)) ≤ 2 ^ 66) (map bare es) (bare e) sound.held.whole.small
    (let none : length (filled (thing_places e.value)) ≡ 0 = ap length (nothing_inside e.value free) in omega (arith, none)) in
    record {
      within = omega (arith, length-set slots top x);
      held = subst (λ (l : List Value). AreHeld new names l) (sym grown) (record {
        counted = recounted (λ (t : Thing). filled (thing_places t)) new (h ∷ handles vs) (handles (vs ++ x ∷ []))
            (λ s.
            let mine = ap (λ (o : Option Handle). occurrences s (option_to_list o)) (named_handle (kind_in e.value) h) in
            omega (arith, mine, occurrences-append s (h ∷ []) (handles vs), occurrences-handles s (vs ++ x ∷ []), occurrences-handles s vs, sum_by_push (holds s) vs x))
            (all_alive new names (vs ++ x ∷ []) there) counted;
        whole = record {
          inside = All-same (λ (t : Handle × Thing). All P' (contents t.1)) (map bare new) (map bare es ++ bare e ∷ []) both inside;
          outside = there;
          few = omega (arith, ap length both, length-append (map bare es) (bare e ∷ []), length-map es bare, few);
          small = All-same (λ (t : Handle × Thing). length (filled (thing_places t.1)) ≤ 2 ^ 66) (map bare new) (map bare es ++ bare e ∷ []) both small;
        };
      });
    }

-- where no fault is due, there is room for a thing more
pub room_for_thing : (length' made : ℕ) {F : Type 0} (fault : F) → cond (nat_le 16777216 length' || nat_le 9223372036854775807 made) (Some fault) None ≡ None → length' < 16777216
room_for_thing n made fault is = by_test (nat_le 16777216 n) refl
  where
    by_test : (b : Bool) → nat_le 16777216 n ≡ b → n < 16777216
    by_test true full = absurd (
        let due : cond (nat_le 16777216 n || nat_le 9223372036854775807 made) (Some fault) None ≡ Some fault = ap (λ b. cond (b || nat_le 9223372036854775807 made) (Some fault) None) full in
        cc)
    by_test false fits = leb-false 16777216 n fits
