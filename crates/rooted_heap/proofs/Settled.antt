-- What is left once a thing that nothing holds is taken out.
use Rattle.std.proofs.Common.{◌≡◌, ℕ, ◌+◌, ◌-◌, ◌<◌, ◌≤◌, ◌^◌, Bool, not, cond, eqb, List, [], ◌∷◌, length, map, take, Option, Some, IsSome, refl, sym, ap, ◌∙◌, subst, arith}
use Rattle.std.specs.Prelude.{filter, option_map}
use Rattle.std.specs.List.{All}
use Rattle.std.specs.Option.{option_to_list}
use Rattle.std.proofs.lemmas.Bool.{cond_both, cond-true, cond-false}
use Rattle.std.proofs.lemmas.List.{length-map, map-append}
use Rattle.std.proofs.lemmas.List.Elements.{All-contains, All-filter, All-map, All-head, All-tail, All-weaker}
use Rattle.slot_arena.specs.declared.handle.Handle.{Handle}
use Rattle.slot_arena.specs.Slots.{Entry, is_unheld_at, handle_of, find_at, without, with_count}
use Rattle.gd_model.specs.declared.value.Value.{Value}
use Rattle.gd_holding.specs.Handles.{value_handle}
use Rattle.gd_holding.specs.Holding.{occurrences, filled, held_in, AreCounted}
use Rattle.gd_holding.specs.Rounds.{HeapView, given_up, TakesNext, unheld, round_after, current_round}
use Rattle.counted_heap.specs.declared.thing.Thing.{Thing}
use Rattle.counted_heap.specs.Thing.{thing_places, thing_class}
use Rattle.counted_heap.specs.Heap.{RisesFrom, serials}
use Rattle.counted_heap.proofs.Changes.{RisesFrom-filter, length-filter_le}
use Rattle.counted_heap.proofs.GiveUp.{found-without}
use Rattle.counted_heap.proofs.Split.{split, without-split}
use Rattle.rooted_heap.specs.Rooted.{RootedView, bare, thing_view, seen, contents, handles, IsThere, AreWhole, AreHeld, IsSound, Releases, count_in, unheld_in, running}
use Rattle.rooted_heap.proofs.Counting.{bare-with_count, there_alive, held_in-bare}
use Rattle.rooted_heap.proofs.Seen.{seen_is}
use Rattle.rooted_heap.proofs.There.{same_there, held_among, held_inside, counted_held, each, all_bare}

-- giving up changes counts alone
pub bare-given_up : (es : List (Entry Thing)) (hs : List Handle) → map bare (given_up es hs) ≡ map bare es
bare-given_up es [] = refl
bare-given_up es (h ∷ hs) = bare-given_up (with_count (λ n. n - 1) es h) hs ∙ bare-with_count (λ n. n - 1) es h

module _ (es : List (Entry Thing)) (hand : List Handle) (rises : RisesFrom 0 (serials es)) (counted : AreCounted thing_places es hand) (gone : Handle) where
  kept_test : Entry Thing → Bool
  kept_test = λ (x : Entry Thing). not (is_unheld_at gone x)

  -- what is held is seen as before
  seen_still : (h : Handle) → IsSome (find_at es h) → 0 < held_in (λ t. filled (thing_places t)) es h.serial + occurrences h.serial hand → seen (map bare (without es gone)) h ≡ seen (map bare es) h
  seen_still h alive some =
      let e = counted_held es hand h counted alive some in
      let rest = RisesFrom-filter (λ (x : Entry Thing). not (is_unheld_at gone x)) 0 es rises in
      seen_is (without es gone) h rest
      ∙ ap (λ (o : Option (Entry Thing)). option_map thing_view (option_map (λ x. x.value) o)) (found-without gone h es e.0 e.2 e.1 ∙ sym e.1)
      ∙ sym (seen_is es h rises)

  there_still : (names : List (List ℕ)) (x : Value) → IsThere (map bare es) names x → ((h : Handle) → value_handle x ≡ Some h → 0 < held_in (λ t. filled (thing_places t)) es h.serial + occurrences h.serial hand) → IsThere (map bare (without es gone)) names x
  there_still names x there some =
      same_there (map bare es) (map bare (without es gone)) names x
      (λ h is. seen_still h (alive_of h is) (some h is))
      there
    where
      alive_of : (h : Handle) → value_handle x ≡ Some h → IsSome (find_at es h)
      alive_of h is =
          let all = there_alive es names x there in
          All-head (λ (y : Handle). IsSome (find_at es y)) h [] (subst (λ (o : Option Handle). All (λ (y : Handle). IsSome (find_at es y)) (option_to_list o)) is all)

-- the values are whole without it
pub whole_without : (es : List (Entry Thing)) (names : List (List ℕ)) (values : List Value) (gone : Handle) → RisesFrom 0 (serials es) → AreHeld es names values → AreWhole (map bare (without es gone)) names values
whole_without es names values gone rises held =
    let new = without es gone in
    let test = λ (x : Entry Thing). not (is_unheld_at gone x) in
    let P = IsThere (map bare es) names in
    let P' = IsThere (map bare new) names in
    let stays = there_still es (handles values) rises held.counted gone names in
    let inside = all_bare (λ (t : Handle × Thing). All P (contents t.1)) es held.whole.inside in
    record {
      inside = All-map (λ (t : Handle × Thing). All P' (contents t.1)) bare new
          (All-filter test (λ (e : Entry Thing). All P' (contents e.value)) es
          (each (λ (e : Entry Thing). All P' (contents e.value)) es
          (λ e there. each P' (contents e.value)
          (λ x lies. stays x (All-contains P (contents e.value) x (All-contains (λ (y : Entry Thing). All P (contents y.value)) es e inside there) lies)
          (λ h is. omega (arith, held_inside es e x h there lies is))))));
      outside = each P' values (λ x there. stays x (All-contains P values x held.whole.outside there) (λ h is. omega (arith, held_among values x h there is)));
      few = omega (arith, held.whole.few, length-map new bare, length-map es bare, length-filter_le test es);
      small = All-map (λ (t : Handle × Thing). length (filled (thing_places t.1)) ≤ 2 ^ 66) bare new
          (All-filter test (λ (e : Entry Thing). length (filled (thing_places e.value)) ≤ 2 ^ 66) es
          (all_bare (λ (t : Handle × Thing). length (filled (thing_places t.1)) ≤ 2 ^ 66) es held.whole.small));
    }

-- the heap is sound once it has settled by one thing
pub sound_settled : (old new : HeapView Thing) (names : List (List ℕ)) (slots : List Value) (top serial calls : ℕ) (kind : Option ℕ) → RisesFrom 0 (serials old.things) → IsSound old.things names slots top → TakesNext (λ t. filled (thing_places t)) thing_class old serial kind calls new → AreCounted thing_places new.things (handles (take top slots)) → IsSound new.things names slots top
sound_settled old new names slots top serial calls kind rises sound takes counted =
    let gone = handle_of takes.thing in
    let same : map bare new.things ≡ map bare (without old.things gone) = ap (map bare) takes.things_are ∙ bare-given_up (without old.things gone) (filled (thing_places takes.thing.value)) in
    record {
      within = sound.within;
      held = record {
        counted = counted;
        whole = subst (λ (bs : List (Handle × Thing)). AreWhole bs names (take top slots)) (sym same) (whole_without old.things names (take top slots) gone rises sound.held);
      };
    }

-- the things that nothing holds are those of count 0
unheld_by : (f : ℕ → ℕ) (es : List (Entry Thing)) → All (λ (e : Entry Thing). e.count ≡ f e.serial) es → unheld es ≡ map (λ (t : Handle × Thing). t.0.serial) (filter (λ (t : Handle × Thing). eqb (f t.0.serial) 0) (map bare es))
unheld_by f [] counts = refl
unheld_by f (e ∷ es) counts =
    let P = λ (x : Entry Thing). x.count ≡ f x.serial in
    let rest = unheld_by f es (All-tail P e es counts) in
    let number = λ (t : Handle × Thing). t.0.serial in
    let test = λ (t : Handle × Thing). eqb (f t.0.serial) 0 in
    ap (λ n. map (λ (x : Entry Thing). x.serial) (cond (eqb n 0) (e ∷ filter (λ (x : Entry Thing). eqb x.count 0) es) (filter (λ (x : Entry Thing). eqb x.count 0) es))) (All-head P e es counts)
    ∙ cond_both (eqb (f e.serial) 0) (e ∷ filter (λ (x : Entry Thing). eqb x.count 0) es) (filter (λ (x : Entry Thing). eqb x.count 0) es)
    (λ l. map (λ (x : Entry Thing). x.serial) l ≡ map number (cond (eqb (f e.serial) 0) (bare e ∷ filter test (map bare es)) (filter test (map bare es))))
    (λ none. ap (λ l. e.serial ∷ l) rest ∙ sym (ap (map number) (cond-true (eqb (f e.serial) 0) (bare e ∷ filter test (map bare es)) (filter test (map bare es)) none)))
    (λ some. rest ∙ sym (ap (map number) (cond-false (eqb (f e.serial) 0) (bare e ∷ filter test (map bare es)) (filter test (map bare es)) some)))

pub unheld_is : (es : List (Entry Thing)) (values : List Value) → AreCounted thing_places es (handles values) → unheld es ≡ unheld_in (map bare es) values
unheld_is es values counted =
    unheld_by (count_in (map bare es) values) es
    (All-weaker (λ (e : Entry Thing). e.count ≡ held_in (λ t. filled (thing_places t)) es e.serial + occurrences e.serial (handles values)) (λ (e : Entry Thing). e.count ≡ count_in (map bare es) values e.serial)
    (λ e is. is ∙ ap (λ n. n + occurrences e.serial (handles values)) (sym (held_in-bare es e.serial))) es counted.counts)

pub round_is : (heap : HeapView Thing) (values : List Value) (old : RootedView) → AreCounted thing_places heap.things (handles values) → map bare heap.things ≡ old.things → heap.round ≡ old.round → values ≡ old.values → current_round heap ≡ running old
round_is heap values old counted things round same =
    of_round heap.round (unheld_is heap.things values counted)
    ∙ ap (λ l. running (record old { round = l; things = map bare heap.things; values = values })) round
    ∙ ap (λ (bs : List (Handle × Thing)). running (record old { things = bs; values = values })) things
    ∙ ap (λ (l : List Value). running (record old { values = l })) same
  where
    of_round : (r : List ℕ) → unheld heap.things ≡ unheld_in (map bare heap.things) values → round_after heap.things r ≡ running (record old { round = r; things = map bare heap.things; values = values })
    of_round [] is = is
    of_round (s ∷ rest) is = refl

-- what settling by one thing shows
pub releases : (old new : HeapView Thing) (names : List (List ℕ)) (slots : List Value) (top serial calls : ℕ) (kind : Option ℕ) (before : RootedView) → RisesFrom 0 (serials old.things) → IsSound old.things names slots top → TakesNext (λ t. filled (thing_places t)) thing_class old serial kind calls new → record { things = map bare old.things; round = old.round; made = old.made; names = names; slots = length slots; values = take top slots } ≡ before → Releases before serial kind (record { things = map bare new.things; round = new.round; made = new.made; names = names; slots = length slots; values = take top slots })
releases old new names slots top serial calls kind before rises sound takes is =
    let gone = handle_of takes.thing in
    let parts = split gone 0 old.things takes.thing rises takes.found in
    let same : map bare new.things ≡ map bare (without old.things gone) = ap (map bare) takes.things_are ∙ bare-given_up (without old.things gone) (filled (thing_places takes.thing.value)) in
    let things = ap (λ (w : RootedView). w.things) is in
    let round = round_is old (take top slots) before sound.held.counted things (ap (λ (w : RootedView). w.round) is) (ap (λ (w : RootedView). w.values) is) in
    record {
      handle = gone;
      thing = takes.thing.value;
      front = map bare parts.front;
      back = map bare parts.back;
      was = sym things ∙ ap (map bare) parts.whole ∙ map-append bare parts.front (takes.thing ∷ parts.back);
      now = same ∙ ap (map bare) (without-split gone old.things takes.thing parts takes.unheld) ∙ map-append bare parts.front parts.back;
      serial_is = takes.serial_is;
      kind_is = takes.kind_is;
      first = sym round ∙ takes.first ∙ ap (λ n. n ∷ new.round) (sym takes.serial_is);
      made_stays = takes.made_stays ∙ ap (λ (w : RootedView). w.made) is;
      names_stay = ap (λ (w : RootedView). w.names) is;
      slots_stay = ap (λ (w : RootedView). w.slots) is;
      values_stay = ap (λ (w : RootedView). w.values) is;
    }
