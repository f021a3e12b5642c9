-- What a write of a thing leaves.
use Rattle.std.proofs.Common.{◌≡◌, ℕ, ◌+◌, ◌^◌, ◌<◌, ◌≤◌, cond, List, [], ◌∷◌, length, map, take, get_or, Option, Some, None, IsSome, is_some, refl, sym, ap, ◌∙◌, subst, inl, inr, arith}
use Rattle.std.proofs.Math.ListN.{set}
use Rattle.std.proofs.Math.Seq.{take-set-lt}
use Rattle.std.specs.Prelude.{sum_by, option_map, option_and_then}
use Rattle.std.specs.List.{All}
use Rattle.std.proofs.lemmas.Bool.{cond_both, cond-true, cond-false, cases_Bool}
use Rattle.std.proofs.lemmas.List.{length-map, length-set, get_or-take}
use Rattle.std.proofs.lemmas.List.Elements.{All-get_or, All-set, All-map, All-weaker, All-from_recursion, recursion_from_All, All-head, All-tail}
use Rattle.std.proofs.lemmas.List.Sums.{sum_by-set}
use Rattle.slot_arena.specs.declared.handle.Handle.{Handle}
use Rattle.slot_arena.specs.Slots.{Entry, is_at, find_at, value_at, written_at}
use Rattle.gd_model.specs.declared.value.Value.{Value}
use Rattle.gd_model.specs.declared.value.Value.TheVariants as v
use Rattle.gd_model.specs.View.{ThingView, array_in, dict_in, class_in}
use Rattle.gd_holding.specs.Holding.{occurrences, filled, held_in}
use Rattle.counted_heap.specs.declared.thing.Thing.{Thing}
use Rattle.counted_heap.specs.declared.thing.Thing.TheVariants.{Object, Array, Dict}
use Rattle.counted_heap.specs.Thing.{thing_places, thing_values}
use Rattle.counted_heap.specs.Heap.{RisesFrom, serials}
use Rattle.counted_heap.proofs.Split.{NoneAt, later_none, serial_at}
use Rattle.counted_heap.proofs.Holders.{same_counts, written_values, alive_written, held_in-written}
use Rattle.rooted_heap.specs.Rooted.{bare, thing_view, seen, names_of, contents, handles, IsThere, AreHeld, IsSound}
use Rattle.rooted_heap.specs.Writing.{with_item, written_in, Exchanges}
use Rattle.rooted_heap.proofs.Counting.{holds, occurrences-handles, length-handles, all_alive}
use Rattle.rooted_heap.proofs.Seen.{seen_is}
use Rattle.rooted_heap.proofs.There.{filled-contents, all_bare}
use Rattle.rooted_heap.proofs.Values.{there_at, count_is}

pub none_written : (h : Handle) (es : List (Entry Thing)) (w : Thing) → NoneAt h es → written_at es h w ≡ es
none_written h [] w none = refl
none_written h (x ∷ xs) w none =
    ap (λ (y : Entry Thing). y ∷ written_at xs h w) (cond-false (is_at h x) (record x { value = w }) x none.0)
    ∙ ap (λ (l : List (Entry Thing)). x ∷ l) (none_written h xs w none.1)

-- what does not tell the thing written from the one that was there tells no difference at any handle
value_written : {X : Type 0} (F : Option Thing → X) (n : ℕ) (es : List (Entry Thing)) (h k : Handle) (was w : Thing) → RisesFrom n (serials es) → value_at es h ≡ Some was → F (Some w) ≡ F (Some was) → F (value_at (written_at es h w) k) ≡ F (value_at es k)
value_written F n [] h k was w rises is same = refl
value_written F n (e ∷ es) h k was w rises is same =
    let value = λ (o : Option (Entry Thing)). option_map (λ (x : Entry Thing). x.value) o in
    let written : Entry Thing = record e { value = w } in
    elim (cases_Bool (is_at h e)) [
      | inl here ↦
          let found : Some e.value ≡ Some was = sym (ap value (cond-true (is_at h e) (Some e) (find_at es h) here)) ∙ is in
          let first : e.value ≡ was = cc in
          let rest = none_written h es w (later_none h e.serial es (omega (arith, serial_at h e here)) rises.1) in
          let whole : written_at (e ∷ es) h w ≡ written ∷ es = ap (λ (y : Entry Thing). y ∷ written_at es h w) (cond-true (is_at h e) written e here) ∙ ap (λ (l : List (Entry Thing)). written ∷ l) rest in
          ap (λ (l : List (Entry Thing)). F (value_at l k)) whole
          ∙ cond_both (is_at k e) (Some written) (find_at es k)
          (λ o. F (value o) ≡ F (value (cond (is_at k e) (Some e) (find_at es k))))
          (λ at. same ∙ sym (ap (λ o. F (value o)) (cond-true (is_at k e) (Some e) (find_at es k) at) ∙ ap (λ (t : Thing). F (Some t)) first))
          (λ off. sym (ap (λ o. F (value o)) (cond-false (is_at k e) (Some e) (find_at es k) off)))
      | inr other ↦
          let later : value_at es h ≡ Some was = sym (ap value (cond-false (is_at h e) (Some e) (find_at es h) other)) ∙ is in
          let whole : written_at (e ∷ es) h w ≡ e ∷ written_at es h w = ap (λ (y : Entry Thing). y ∷ written_at es h w) (cond-false (is_at h e) written e other) in
          ap (λ (l : List (Entry Thing)). F (value_at l k)) whole
          ∙ cond_both (is_at k e) (Some e) (find_at (written_at es h w) k)
          (λ o. F (value o) ≡ F (value (cond (is_at k e) (Some e) (find_at es k))))
          (λ at. sym (ap (λ o. F (value o)) (cond-true (is_at k e) (Some e) (find_at es k) at)))
          (λ off. value_written F e.serial es h k was w rises.1 later same ∙ sym (ap (λ o. F (value o)) (cond-false (is_at k e) (Some e) (find_at es k) off)))
    ]

-- the thing written is of the kind of the one that was there
pub record SameKind (was now : Thing) : Type 0 where
  pub class : class_in (Some (thing_view now)) ≡ class_in (Some (thing_view was))
  pub array : is_some (array_in (Some (thing_view now))) ≡ is_some (array_in (Some (thing_view was)))
  pub dict : is_some (dict_in (Some (thing_view now))) ≡ is_some (dict_in (Some (thing_view was)))

pub entry_of : (o : Option (Entry Thing)) (was : Thing) → option_map (λ (e : Entry Thing). e.value) o ≡ Some was → (e : Entry Thing) × (o ≡ Some e) × (e.value ≡ was)
entry_of None was is = absurd (cc)
entry_of (Some e) was is = (e, refl, cc)

occurrences-contents : (s : ℕ) (t : Thing) → occurrences s (filled (thing_places t)) ≡ sum_by (holds s) (contents t)
occurrences-contents s t = ap (occurrences s) (filled-contents t) ∙ occurrences-handles s (contents t)

module _ (es : List (Entry Thing)) (h : Handle) (was now : Thing) (rises : RisesFrom 0 (serials es)) (rises' : RisesFrom 0 (serials (written_at es h now))) (is : value_at es h ≡ Some was) (kind : SameKind was now) where
  seen_same : {X : Type 0} (G : Option ThingView → X) (k : Handle) → G (Some (thing_view now)) ≡ G (Some (thing_view was)) → G (seen (map bare (written_at es h now)) k) ≡ G (seen (map bare es) k)
  seen_same G k same =
      ap G (seen_is (written_at es h now) k rises')
      ∙ value_written (λ (o : Option Thing). G (option_map thing_view o)) 0 es h k was now rises is same
      ∙ sym (ap G (seen_is es k rises))

  -- what was there is there still
  there_written : (names : List (List ℕ)) (x : Value) → IsThere (map bare es) names x → IsThere (map bare (written_at es h now)) names x
  there_written names v.Nil there = refl
  there_written names (v.Bool b) there = refl
  there_written names (v.Int n) there = refl
  there_written names (v.Str t) there = refl
  there_written names (v.Object k) there = seen_same (λ (o : Option ThingView). is_some (option_and_then (names_of names) (class_in o))) k (ap (λ (c : Option ℕ). is_some (option_and_then (names_of names) c)) kind.class) ∙ there
  there_written names (v.Array k) there = seen_same (λ (o : Option ThingView). is_some (array_in o)) k kind.array ∙ there
  there_written names (v.Dict k) there = seen_same (λ (o : Option ThingView). is_some (dict_in o)) k kind.dict ∙ there
  there_written names (v.Callable t) there = refl
  there_written names (v.Signal s) there = refl

  -- handles pass between the thing and the values
  pub held_written : (names : List (List ℕ)) (values left : List Value) → AreHeld es names values → ((s : ℕ) → sum_by (holds s) (contents now) + sum_by (holds s) left ≡ sum_by (holds s) (contents was) + sum_by (holds s) values) → All (IsThere (map bare es) names) (contents now) → All (IsThere (map bare es) names) left → length (filled (thing_places now)) ≤ 2 ^ 66 → AreHeld (written_at es h now) names left
  held_written names values left held sums inside outside few =
      let new = written_at es h now in
      let P = IsThere (map bare es) names in
      let P' = IsThere (map bare new) names in
      let e = entry_of (find_at es h) was is in
      let alive = λ (x : Handle). IsSome (find_at es x) in
      let alive' = λ (x : Handle). IsSome (find_at new x) in
      let C = λ (x : Entry Thing). x.count ≡ held_in (λ (t : Thing). filled (thing_places t)) es x.serial + occurrences x.serial (handles values) in
      let C' = λ (x : Entry Thing). x.count ≡ held_in (λ (t : Thing). filled (thing_places t)) new x.serial + occurrences x.serial (handles left) in
      let mine : All P' (contents now) = All-weaker P P' (there_written names) (contents now) inside in
      let rest : All P' left = All-weaker P P' (there_written names) left outside in
      let Q = λ (t : Thing). All alive' (filled (thing_places t)) in
      let A = λ (x : Entry Thing). All alive (filled (thing_places x.value)) in
      let A' = λ (x : Entry Thing). All alive' (filled (thing_places x.value)) in
      let R = λ (t : Thing). All P' (contents t) in
      let S = λ (t : Thing). length (filled (thing_places t)) ≤ 2 ^ 66 in
      record {
        counted = record {
          counts = All-from_recursion C' new (same_counts (λ c s. c ≡ held_in (λ (t : Thing). filled (thing_places t)) new s + occurrences s (handles left)) es h now
              (recursion_from_All C' es (All-weaker C C'
              (λ x same. omega (
                arith,
                same,
                held_in-written (λ (t : Thing). filled (thing_places t)) 0 es h e.0 now x.serial rises e.1,
                ap (λ (t : Thing). occurrences x.serial (filled (thing_places t))) e.2,
                occurrences-contents x.serial was,
                occurrences-contents x.serial now,
                occurrences-handles x.serial values,
                occurrences-handles x.serial left,
                sums x.serial,
              )) es held.counted.counts)));
          alive = All-from_recursion A' new (written_values Q es h now
              (subst (All alive') (sym (filled-contents now)) (all_alive new names (contents now) mine))
              (recursion_from_All A' es (All-weaker A A' (λ x all. All-weaker alive alive' (λ y lives. alive_written es h y now lives) (filled (thing_places x.value)) all) es held.counted.alive)));
          hand_alive = all_alive new names left rest;
        };
        whole = record {
          inside = All-map (λ (t : Handle × Thing). R t.1) bare new (All-from_recursion (λ (x : Entry Thing). R x.value) new (written_values R es h now mine
              (recursion_from_All (λ (x : Entry Thing). R x.value) es
              (All-weaker (λ (x : Entry Thing). All P (contents x.value)) (λ (x : Entry Thing). R x.value) (λ x all. All-weaker P P' (there_written names) (contents x.value) all) es
              (all_bare (λ (t : Handle × Thing). All P (contents t.1)) es held.whole.inside)))));
          outside = rest;
          few = omega (arith, held.whole.few, length-map es bare, length-map new bare, length-map es (λ (x : Entry Thing). cond (is_at h x) (record x { value = now }) x));
          small = All-map (λ (t : Handle × Thing). S t.1) bare new (All-from_recursion (λ (x : Entry Thing). S x.value) new (written_values S es h now few
              (recursion_from_All (λ (x : Entry Thing). S x.value) es (all_bare (λ (t : Handle × Thing). S t.1) es held.whole.small))));
        };
      }

-- an exchange of values
pub kind_kept : (was : Thing) (place : ℕ) (x : Value) → SameKind was (with_item was place x)
kind_kept (Object class values) place x = record { class = refl; array = refl; dict = refl }
kind_kept (Array a) place x = record { class = refl; array = refl; dict = refl }
kind_kept (Dict d) place x = record { class = refl; array = refl; dict = refl }

few_filled : (was : Thing) (place : ℕ) (x : Value) → place < length (thing_values was) → length (thing_values (with_item was place x)) < 2 ^ 64 → length (filled (thing_places (with_item was place x))) ≤ 2 ^ 66
few_filled (Object class values) place x lt few = omega (arith, ap length (filled-contents (Object class (set values place x))), length-handles (set values place x), few)
few_filled (Array a) place x lt few = omega (arith, ap length (filled-contents (Array (record a { items = set a.items place x }))), length-handles (set a.items place x), few)
few_filled (Dict d) place x lt few = absurd (omega (arith, lt))

exchanged_sums : (was : Thing) (place : ℕ) (x taken : Value) (s : ℕ) → place < length (thing_values was) → taken ≡ get_or (thing_values was) place taken → sum_by (holds s) (contents (with_item was place x)) + holds s taken ≡ sum_by (holds s) (contents was) + holds s x
exchanged_sums (Object class values) place x taken s lt is = omega (arith, sum_by-set (holds s) values place x taken lt, ap (holds s) is)
exchanged_sums (Array a) place x taken s lt is = omega (arith, sum_by-set (holds s) a.items place x taken lt, ap (holds s) is)
exchanged_sums (Dict d) place x taken s lt is = absurd (omega (arith, lt))

exchanged_there : (P : Value → Type 0) (was : Thing) (place : ℕ) (x : Value) → All P (contents was) → P x → All P (contents (with_item was place x))
exchanged_there P (Object class values) place x all there = All-set P values place x there all
exchanged_there P (Array a) place x all there = All-set P a.items place x there all
exchanged_there P (Dict d) place x all there = all

taken_there : (P : Value → Type 0) (was : Thing) (place : ℕ) (taken : Value) → place < length (thing_values was) → taken ≡ get_or (thing_values was) place taken → All P (contents was) → P taken
taken_there P (Object class values) place taken lt is all = subst P (sym is) (All-get_or P values place taken lt all)
taken_there P (Array a) place taken lt is all = subst P (sym is) (All-get_or P a.items place taken lt all)
taken_there P (Dict d) place taken lt is all = absurd (omega (arith, lt))

pub value_has : (Q : Thing → Type 0) (es : List (Entry Thing)) (h : Handle) (t : Thing) → All (λ (e : Entry Thing). Q e.value) es → value_at es h ≡ Some t → Q t
value_has Q [] h t all is = absurd (cc)
value_has Q (e ∷ es) h t all is =
    cond_both (is_at h e) (Some e) (find_at es h)
    (λ o. option_map (λ (x : Entry Thing). x.value) o ≡ Some t → Q t)
    (λ here same. let one : e.value ≡ t = cc in subst Q one (All-head (λ (x : Entry Thing). Q x.value) e es all))
    (λ other same. value_has Q es h t (All-tail (λ (x : Entry Thing). Q x.value) e es all) same)
    is

-- the heap is sound once the last value and one of a thing have changed places
pub sound_exchanged : {es : List (Entry Thing)} {names : List (List ℕ)} {slots : List Value} {top : ℕ} → IsSound es names slots top → (h : Handle) (was now : Thing) (j : ℕ) → top ≡ j + 1 → (x taken : Value) → x ≡ get_or slots j x → RisesFrom 0 (serials es) → RisesFrom 0 (serials (written_at es h now)) → value_at es h ≡ Some was → (place : ℕ) → Exchanges place was x now taken → length (thing_values now) < 2 ^ 64 → IsSound (written_at es h now) names (set slots j taken) top
sound_exchanged {es} {names} {slots} {top} sound h was now j is_top x taken is rises rises' found place exchanges few =
    let P = IsThere (map bare es) names in
    let kind : SameKind was now = subst (λ (t : Thing). SameKind was t) (sym exchanges.now_is) (kind_kept was place x) in
    let at : get_or (take top slots) j x ≡ x = get_or-take top slots j x (omega arith) ∙ sym is in
    let inside = value_has (λ (t : Thing). All P (contents t)) es h was (all_bare (λ (t : Handle × Thing). All P (contents t.1)) es sound.held.whole.inside) found in
    let there_x = there_at sound j (omega arith) x is in
    let there_taken = taken_there P was place taken exchanges.within exchanges.taken_is inside in
    record {
      within = omega (arith, length-set slots j taken, sound.within);
      held = subst (λ (l : List Value). AreHeld (written_at es h now) names l) (sym (take-set-lt top slots j taken (omega arith)))
          (held_written es h was now rises rises' found kind names (take top slots) (set (take top slots) j taken) sound.held
          (λ s. omega (
            arith,
            exchanged_sums was place x taken s exchanges.within exchanges.taken_is,
            ap (λ (t : Thing). sum_by (holds s) (contents t)) exchanges.now_is,
            sum_by-set (holds s) (take top slots) j taken x (omega (arith, count_is sound)),
            ap (holds s) at,
          ))
          (subst (λ (t : Thing). All P (contents t)) (sym exchanges.now_is) (exchanged_there P was place x inside there_x))
          (All-set P (take top slots) j taken there_taken sound.held.whole.outside)
          (subst (λ (t : Thing). length (filled (thing_places t)) ≤ 2 ^ 66) (sym exchanges.now_is)
          (few_filled was place x exchanges.within (subst (λ (t : Thing). length (thing_values t) < 2 ^ 64) exchanges.now_is few))));
    }

-- without counts
pub bare-written : (es : List (Entry Thing)) (h : Handle) (w : Thing) → map bare (written_at es h w) ≡ written_in (map bare es) h w
bare-written [] h w = refl
bare-written (e ∷ es) h w =
    cond_both (is_at h e) (record e { value = w }) e
    (λ x. bare x ∷ map bare (written_at es h w) ≡ cond (is_at h e) ((bare e).0, w) (bare e) ∷ written_in (map bare es) h w)
    (λ here. ap (λ (p : Handle × Thing). p ∷ map bare (written_at es h w)) (sym (cond-true (is_at h e) ((bare e).0, w) (bare e) here)) ∙ ap (λ (l : List (Handle × Thing)). cond (is_at h e) ((bare e).0, w) (bare e) ∷ l) (bare-written es h w))
    (λ other. ap (λ (p : Handle × Thing). p ∷ map bare (written_at es h w)) (sym (cond-false (is_at h e) ((bare e).0, w) (bare e) other)) ∙ ap (λ (l : List (Handle × Thing)). cond (is_at h e) ((bare e).0, w) (bare e) ∷ l) (bare-written es h w))
