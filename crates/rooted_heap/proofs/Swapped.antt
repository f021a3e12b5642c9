-- The last value and one of a thing change places.
use Rattle.std.proofs.Common.{◌≡◌, ℕ, ◌+◌, ◌-◌, ◌^◌, ◌<◌, ◌≤◌, Bool, true, false, List, [], length, map, take, get_or, Option, Some, refl, sym, ap, ◌∙◌, subst, arith, IsTrue, IfOk, OnErr, Result, Ok, Err, ◌∷◌, inl, inr}
use Rattle.std.proofs.Math.ListN.{set}
use Rattle.std.proofs.Math.Seq.{take-set-lt}
use Rattle.std.specs.Prelude.{option_map}
use Rattle.std.proofs.lemmas.Bool.{cond-true, cond-false, cases_Bool}
use Rattle.std.proofs.lemmas.List.{length-set, length-take-le, set-get_or, get_or-take}
use Rattle.std.proofs.lemmas.List.Elements.{All-set}
use Rattle.std.proofs.lemmas.List.Sums.{sum_by-set}
use Rattle.slot_arena.specs.declared.handle.Handle.{Handle}
use Rattle.slot_arena.specs.Slots.{Entry, is_at, find_at, value_at, written_at}
use Rattle.gd_model.specs.declared.value.Value.{Value}
use Rattle.gd_model.specs.declared.value.Value.TheVariants as v
use Rattle.gd_holding.specs.Handles.{value_handle}
use Rattle.gd_holding.specs.Rounds.{HeapView}
use Rattle.gd_containers.specs.declared.fault.ThingFault.{ThingFault}
use Rattle.counted_heap.specs.declared.thing.Thing.{Thing}
use Rattle.counted_heap.specs.Thing.{thing_values}
use Rattle.counted_heap.specs.Heap.{RisesFrom, serials}
use Rattle.counted_heap.proofs.Split.{later_none, serial_at}
use Rattle.rooted_heap.specs.Rooted.{RootedView, bare, thing_at, IsThere, AreHeld, IsSound}
use Rattle.rooted_heap.specs.Writing.{written_in, Exchanges, SwapsValue, plain_part}
use Rattle.rooted_heap.proofs.Counting.{holds}
use Rattle.rooted_heap.proofs.Holding.{held_moved}
use Rattle.rooted_heap.proofs.Seen.{thing_is_value}
use Rattle.rooted_heap.proofs.Values.{view_of, same_view, new_view, value_is, there_at, count_is}
use Rattle.rooted_heap.proofs.Written.{none_written, sound_exchanged, bare-written}

-- a thing that is written as it was
pub written_same : (n : ℕ) (es : List (Entry Thing)) (h : Handle) (was : Thing) → RisesFrom n (serials es) → value_at es h ≡ Some was → written_at es h was ≡ es
written_same n [] h was rises is = refl
written_same n (e ∷ es) h was rises is =
    let value = λ (o : Option (Entry Thing)). option_map (λ (x : Entry Thing). x.value) o in
    let written : Entry Thing = record e { value = was } in
    elim (cases_Bool (is_at h e)) [
      | inl here ↦
          let found : Some e.value ≡ Some was = sym (ap value (cond-true (is_at h e) (Some e) (find_at es h) here)) ∙ is in
          let first : e.value ≡ was = cc in
          ap (λ (y : Entry Thing). y ∷ written_at es h was) (cond-true (is_at h e) written e here ∙ ap (λ (t : Thing). record e { value = t }) (sym first))
          ∙ ap (λ (l : List (Entry Thing)). e ∷ l) (none_written h es was (later_none h e.serial es (omega (arith, serial_at h e here)) rises.1))
      | inr other ↦
          let later : value_at es h ≡ Some was = sym (ap value (cond-false (is_at h e) (Some e) (find_at es h) other)) ∙ is in
          ap (λ (y : Entry Thing). y ∷ written_at es h was) (cond-false (is_at h e) written e other)
          ∙ ap (λ (l : List (Entry Thing)). e ∷ l) (written_same e.serial es h was rises.1 later)
    ]

-- where nothing was exchanged, all is as it was
slots_same : (slots : List Value) (j : ℕ) (x taken : Value) → x ≡ get_or slots j x → taken ≡ x → set slots j taken ≡ slots
slots_same slots j x taken is same = ap (set slots j) (same ∙ is) ∙ set-get_or slots j x

pub sound_swap : {es : List (Entry Thing)} {names : List (List ℕ)} {slots : List Value} {top : ℕ} → IsSound es names slots top → (h : Handle) (was now : Thing) (j : ℕ) → top ≡ j + 1 → (x taken : Value) → x ≡ get_or slots j x → RisesFrom 0 (serials es) → RisesFrom 0 (serials (written_at es h now)) → value_at es h ≡ Some was → (place : ℕ) (done : Bool) → (IsTrue done → Exchanges place was x now taken) → (IsTrue done → length (thing_values now) < 2 ^ 64) → (done ≡ false → now ≡ was) → (done ≡ false → taken ≡ x) → IsSound (written_at es h now) names (set slots j taken) top
sound_swap sound h was now j is_top x taken is rises rises' found place true exchanged few same_thing same_value = sound_exchanged sound h was now j is_top x taken is rises rises' found place (exchanged refl) (few refl)
sound_swap {es} {names} {slots} {top} sound h was now j is_top x taken is rises rises' found place false exchanged few same_thing same_value =
    subst (λ (l : List (Entry Thing)). IsSound l names (set slots j taken) top) (sym (ap (written_at es h) (same_thing refl) ∙ written_same 0 es h was rises found))
    (subst (λ (l : List Value). IsSound es names l top) (sym (slots_same slots j x taken is (same_value refl))) sound)

module _ (heap : HeapView Thing) (names : List (List ℕ)) (slots : List Value) (top : ℕ) (old : RootedView) (is : view_of heap names slots top ≡ old) (within : top ≤ length slots) (some : 0 < top) (h : Handle) (was now : Thing) (rises : RisesFrom 0 (serials heap.things)) (found : value_at heap.things h ≡ Some was) (x taken : Value) (x_is : x ≡ get_or slots (top - 1) x) where
  pub unswapped : now ≡ was → taken ≡ x → view_of (record heap { things = written_at heap.things h now }) names (set slots (top - 1) taken) top ≡ old
  unswapped same_thing same_value =
      let things : written_at heap.things h now ≡ heap.things = ap (written_at heap.things h) same_thing ∙ written_same 0 heap.things h was rises found in
      let values : set slots (top - 1) taken ≡ slots = slots_same slots (top - 1) x taken x_is same_value in
      same_view (view_of (record heap { things = written_at heap.things h now }) names (set slots (top - 1) taken) top) old
      (ap (map bare) things ∙ ap (λ (w : RootedView). w.things) is)
      (ap (λ (w : RootedView). w.round) is)
      (ap (λ (w : RootedView). w.made) is)
      (ap (λ (w : RootedView). w.names) is)
      (ap length values ∙ ap (λ (w : RootedView). w.slots) is)
      (ap (take top) values ∙ ap (λ (w : RootedView). w.values) is)

  -- the value at the end of the values
  last_is : (y : Value) → take top (set slots (top - 1) y) ≡ set old.values (length old.values - 1) y
  last_is y =
      let same : take top slots ≡ old.values = ap (λ (w : RootedView). w.values) is in
      let n : top ≡ length old.values = sym (length-take-le top slots within) ∙ ap length same in
      take-set-lt top slots (top - 1) y (omega arith) ∙ ap (λ (l : List Value). set l (top - 1) y) same ∙ ap (λ (k : ℕ). set old.values (k - 1) y) n

  pub x_last : x ≡ get_or old.values (length old.values - 1) v.Nil
  x_last =
      let same : take top slots ≡ old.values = ap (λ (w : RootedView). w.values) is in
      let n : top ≡ length old.values = sym (length-take-le top slots within) ∙ ap length same in
      value_is slots top old.values (top - 1) x v.Nil same within (omega arith) x_is ∙ ap (λ (k : ℕ). get_or old.values (k - 1) v.Nil) n

  pub swaps : (i place : ℕ) → value_handle (get_or old.values i v.Nil) ≡ Some h → Exchanges place was x now taken → SwapsValue old i place (view_of (record heap { things = written_at heap.things h now }) names (set slots (top - 1) taken) top)
  swaps i place named exchanges = record {
    handle = h;
    named = named;
    was = was;
    now = now;
    was_is = ap (λ (w : RootedView). thing_at w.things h) (sym is) ∙ thing_is_value 0 heap.things h rises ∙ found;
    taken = taken;
    exchanges = subst (λ (y : Value). Exchanges place was y now taken) x_last exchanges;
    new_is = new_view heap (record heap { things = written_at heap.things h now }) names slots (set slots (top - 1) taken) top top old is (written_in old.things h now) old.made (set old.values (length old.values - 1) taken)
        (bare-written heap.things h now ∙ ap (λ (w : RootedView). written_in w.things h now) is)
        refl
        (ap (λ (w : RootedView). w.made) is)
        (length-set slots (top - 1) taken)
        (last_is taken);
  }

  -- the last value alone is another
  pub last_changed : now ≡ was → view_of (record heap { things = written_at heap.things h now }) names (set slots (top - 1) taken) top ≡ record old { values = set old.values (length old.values - 1) taken }
  last_changed same_thing =
      let things : written_at heap.things h now ≡ heap.things = ap (written_at heap.things h) same_thing ∙ written_same 0 heap.things h was rises found in
      same_view (view_of (record heap { things = written_at heap.things h now }) names (set slots (top - 1) taken) top) (record old { values = set old.values (length old.values - 1) taken })
      (ap (map bare) things ∙ ap (λ (w : RootedView). w.things) is)
      (ap (λ (w : RootedView). w.round) is)
      (ap (λ (w : RootedView). w.made) is)
      (ap (λ (w : RootedView). w.names) is)
      (length-set slots (top - 1) taken ∙ ap (λ (w : RootedView). w.slots) is)
      (last_is taken)

-- the last value without what it shares
holds_plain : (s : ℕ) (x : Value) → holds s (plain_part x) ≡ holds s x
holds_plain s v.Nil = refl
holds_plain s (v.Bool b) = refl
holds_plain s (v.Int n) = refl
holds_plain s (v.Str t) = refl
holds_plain s (v.Object h) = refl
holds_plain s (v.Array h) = refl
holds_plain s (v.Dict h) = refl
holds_plain s (v.Callable t) = refl
holds_plain s (v.Signal t) = refl

plain_there : (things : List (Handle × Thing)) (names : List (List ℕ)) (x : Value) → IsThere things names x → IsThere things names (plain_part x)
plain_there things names v.Nil there = refl
plain_there things names (v.Bool b) there = refl
plain_there things names (v.Int n) there = refl
plain_there things names (v.Str t) there = refl
plain_there things names (v.Object h) there = there
plain_there things names (v.Array h) there = there
plain_there things names (v.Dict h) there = there
plain_there things names (v.Callable t) there = refl
plain_there things names (v.Signal t) there = refl

sound_plain : {es : List (Entry Thing)} {names : List (List ℕ)} {slots : List Value} {top : ℕ} → IsSound es names slots top → (j : ℕ) → top ≡ j + 1 → (x : Value) → x ≡ get_or slots j x → IsSound es names (set slots j (plain_part x)) top
sound_plain {es} {names} {slots} {top} sound j is_top x is =
    let lt : j < top = omega arith in
    let at : get_or (take top slots) j x ≡ x = get_or-take top slots j x lt ∙ sym is in
    let there = plain_there (map bare es) names x (there_at sound j lt x is) in
    record {
      within = omega (arith, length-set slots j (plain_part x), sound.within);
      held = subst (λ (l : List Value). AreHeld es names l) (sym (take-set-lt top slots j (plain_part x) lt))
          (held_moved (set (take top slots) j (plain_part x))
          (λ s. omega (arith, sum_by-set (holds s) (take top slots) j (plain_part x) x (omega (arith, count_is sound)), ap (holds s) at, holds_plain s x))
          (All-set (IsThere (map bare es) names) (take top slots) j (plain_part x) there sound.held.whole.outside)
          sound.held);
    }

pub sound_tried : {es : List (Entry Thing)} {names : List (List ℕ)} {slots : List Value} {top : ℕ} → IsSound es names slots top → (h : Handle) (was now : Thing) (j : ℕ) → top ≡ j + 1 → (x taken : Value) → x ≡ get_or slots j x → RisesFrom 0 (serials es) → RisesFrom 0 (serials (written_at es h now)) → value_at es h ≡ Some was → (place : ℕ) (r : Result Bool ThingFault) → IfOk r (λ done. IsTrue done → Exchanges place was x now taken) → IfOk r (λ done. IsTrue done → length (thing_values now) < 2 ^ 64) → IfOk r (λ done. done ≡ false → now ≡ was) → IfOk r (λ done. done ≡ false → taken ≡ x) → OnErr r (now ≡ was) → OnErr r (taken ≡ plain_part x) → IsSound (written_at es h now) names (set slots j taken) top
sound_tried sound h was now j is_top x taken is rises rises' found place (Ok done) exchanged few same_thing same_value err_thing err_value = sound_swap sound h was now j is_top x taken is rises rises' found place done exchanged few same_thing same_value
sound_tried {es} {names} {slots} {top} sound h was now j is_top x taken is rises rises' found place (Err fault) exchanged few same_thing same_value err_thing err_value =
    subst (λ (l : List (Entry Thing)). IsSound l names (set slots j taken) top) (sym (ap (written_at es h) err_thing ∙ written_same 0 es h was rises found))
    (subst (λ (y : Value). IsSound es names (set slots j y) top) (sym err_value) (sound_plain sound j is_top x is))

-- what holds of an answer
pub where_ok : {T E : Type 0} (P Q : T → Type 0) (r : Result T E) → ((x : T) → P x → Q x) → IfOk r P → IfOk r Q
where_ok P Q (Ok x) f p = f x p
where_ok P Q (Err e) f p = tt

pub where_err : {T E : Type 0} (P Q : Type 0) (r : Result T E) → (P → Q) → OnErr r P → OnErr r Q
where_err P Q (Ok x) f p = tt
where_err P Q (Err e) f p = f p

pub both_ok : {T E : Type 0} (P Q : T → Type 0) (r : Result T E) → IfOk r P → IfOk r Q → IfOk r (λ x. P x × Q x)
both_ok P Q (Ok x) p q = (p, q)
both_ok P Q (Err e) p q = tt

pub both_err : {T E : Type 0} (P Q : Type 0) (r : Result T E) → OnErr r P → OnErr r Q → OnErr r (P × Q)
both_err P Q (Ok x) p q = tt
both_err P Q (Err e) p q = (p, q)
