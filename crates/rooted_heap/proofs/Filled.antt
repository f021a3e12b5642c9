-- A new thing gets what it is to hold.
use Rattle.std.proofs.Common.{◌≡◌, ℕ, ◌+◌, ◌^◌, ◌<◌, false, eqb, List, [], ◌∷◌, ◌++◌, length, map, take, Option, Some, None, Result, Ok, Err, IsSome, refl, sym, ap, ◌∙◌, subst, arith}
use Rattle.std.proofs.Math.ListN.{set}
use Rattle.std.specs.Prelude.{sum_by}
use Rattle.std.specs.List.{All}
use Rattle.std.specs.Option.{option_map}
use Rattle.std.proofs.lemmas.Bool.{cond-true, cond-false, and_from, and_right, eq-eqb, ne_eqb}
use Rattle.std.proofs.lemmas.List.{map-append, take_more_set}
use Rattle.std.proofs.lemmas.List.Elements.{All-nil, All-weaker}
use Rattle.std.proofs.lemmas.List.Sums.{sum_by-append, sum_by_push}
use Rattle.slot_arena.specs.declared.handle.Handle.{Handle}
use Rattle.slot_arena.specs.Slots.{Entry, is_at, handle_of, find_at, value_at, written_at}
use Rattle.gd_model.specs.declared.value.Value.{Value}
use Rattle.gd_model.specs.declared.fault.RunFault.{RunFault}
use Rattle.gd_containers.specs.Answers.{RefusedBy}
use Rattle.gd_containers.specs.declared.fault.ThingFault.{ThingFault}
use Rattle.gd_containers.specs.declared.fault.ThingFault.TheVariants.{Run, NoMemory}
use Rattle.gd_holding.specs.Handles.{value_handle}
use Rattle.gd_holding.specs.Holding.{occurrences, filled, AreCounted}
use Rattle.gd_holding.specs.Rounds.{HeapView}
use Rattle.counted_heap.specs.declared.thing.Thing.{Thing}
use Rattle.counted_heap.specs.declared.thing.Thing.TheVariants.{Object, Array, Dict}
use Rattle.counted_heap.specs.Thing.{thing_places}
use Rattle.counted_heap.specs.Heap.{RisesFrom, serials}
use Rattle.rooted_heap.specs.Rooted.{RootedView, bare, contents, handles, thing_at, IsThere, IsSound, CanHold, count_in}
use Rattle.rooted_heap.specs.Making.{kind_in, value_named, IsNamed, IsContainer, MayRefuse}
use Rattle.rooted_heap.specs.Keeping.{kept_all, CanKeep}
use Rattle.rooted_heap.specs.Writing.{written_in}
use Rattle.rooted_heap.proofs.Counting.{holds, length-handles, occurrences-handles}
use Rattle.rooted_heap.proofs.Kept.{can_keep, kept_are_held, bare-kept_all}
use Rattle.rooted_heap.proofs.Made.{sound_made, there_still, last_found, last_later}
use Rattle.rooted_heap.proofs.Seen.{thing_is_value}
use Rattle.rooted_heap.proofs.There.{filled-contents}
use Rattle.rooted_heap.proofs.Values.{count_is, view_of}
use Rattle.rooted_heap.proofs.Written.{SameKind, held_written, bare-written}

same_container : (was now : Thing) → IsContainer now → kind_in now ≡ kind_in was → SameKind was now
same_container (Object class values) (Object c vs) container is = absurd container
same_container (Object class values) (Array a) container is = absurd (cc)
same_container (Object class values) (Dict d) container is = absurd (cc)
same_container (Array b) (Object c vs) container is = absurd container
same_container (Array b) (Array a) container is = record { class = refl; array = refl; dict = refl }
same_container (Array b) (Dict d) container is = absurd (cc)
same_container (Dict b) (Object c vs) container is = absurd container
same_container (Dict b) (Array a) container is = absurd (cc)
same_container (Dict b) (Dict d) container is = record { class = refl; array = refl; dict = refl }

container_named : (names : List (List ℕ)) (was now : Thing) → IsContainer now → kind_in now ≡ kind_in was → IsNamed names was
container_named names (Object class values) (Object c vs) container is = absurd container
container_named names (Object class values) (Array a) container is = absurd (cc)
container_named names (Object class values) (Dict d) container is = absurd (cc)
container_named names (Array b) now container is = tt
container_named names (Dict b) now container is = tt

-- the last of rising things is written
pub written_last : (n : ℕ) (es : List (Entry Thing)) (e : Entry Thing) (w : Thing) → RisesFrom n (serials (es ++ e ∷ [])) → written_in (map bare (es ++ e ∷ [])) (handle_of e) w ≡ map bare es ++ (handle_of e, w) ∷ []
written_last n [] e w rises =
    ap (λ (p : Handle × Thing). p ∷ []) (cond-true (is_at (handle_of e) e) (handle_of e, w) (bare e) (and_from (eqb e.index e.index) (eqb e.serial e.serial) (eq-eqb e.index e.index refl) (eq-eqb e.serial e.serial refl)))
written_last n (x ∷ xs) e w rises =
    let later = last_later x.serial xs e rises.1 in
    let other : is_at (handle_of e) x ≡ false = and_right (eqb x.index e.index) (eqb x.serial e.serial) (ne_eqb x.serial e.serial (λ same. omega (arith, same, later))) in
    ap (λ (p : Handle × Thing). p ∷ written_in (map bare (xs ++ e ∷ [])) (handle_of e) w) (cond-false (is_at (handle_of e) x) ((bare x).0, w) (bare x) other)
    ∙ ap (λ (l : List (Handle × Thing)). bare x ∷ l) (written_last x.serial xs e w rises.1)

-- all that a new thing is to hold is held somewhere
pub record CanFill (es : List (Entry Thing)) (names : List (List ℕ)) (values xs : List Value) : Type 0 where
  pub there : All (IsThere (map bare es) names) xs
  pub some : All (λ x. (h : Handle) → value_handle x ≡ Some h → 0 < count_in (map bare es) values h.serial) xs
  pub few : length xs < 2 ^ 65

pub can_fill : (heap : HeapView Thing) (names : List (List ℕ)) (slots : List Value) (top : ℕ) (now : RootedView) → view_of heap names slots top ≡ now → (xs : List Value) → All (CanHold now) xs → length xs < 2 ^ 65 → CanFill heap.things names (take top slots) xs
can_fill heap names slots top now is xs all few =
    let here = subst (λ (w : RootedView). All (CanHold w) xs) (sym is) all in
    record { there = λ k d lt. (here k d lt).there; some = λ k d lt. (here k d lt).held; few = few }

-- a new thing is made empty, and is to hold this
pub record Filling (es : List (Entry Thing)) (names : List (List ℕ)) (slots : List Value) (top : ℕ) (e : Entry Thing) (full : Thing) : Type 0 where
  pub sound : IsSound es names slots top
  pub room : top < length slots
  pub short : top < 2 ^ 64
  pub rises : RisesFrom 0 (serials es)
  pub rises_made : RisesFrom 0 (serials (es ++ e ∷ []))
  pub few : length es < 16777216
  pub free : contents e.value ≡ []
  pub kind : kind_in full ≡ kind_in e.value
  pub container : IsContainer full
  pub counted : AreCounted thing_places (es ++ e ∷ []) (handle_of e ∷ handles (take top slots))
  pub can : CanFill es names (take top slots) (contents full)

-- where nothing was to be held, the heap's count of the new thing is that of the hand
pub counted_empty : (es : List (Entry Thing)) (t : Thing) (hand : List Handle) → contents t ≡ [] → AreCounted thing_places es hand → AreCounted thing_places es (filled (thing_places t) ++ hand)
counted_empty es t hand free counted =
    subst (λ (hs : List Handle). AreCounted thing_places es (hs ++ hand)) (sym (filled-contents t ∙ ap handles free)) counted

pub is_found : (es : List (Entry Thing)) (h : Handle) (t : Thing) → value_at es h ≡ Some t → IsSome (find_at es h)
is_found es h t is = of_found (find_at es h) is
  where
    of_found : (o : Option (Entry Thing)) → option_map (λ (x : Entry Thing). x.value) o ≡ Some t → IsSome o
    of_found None is = absurd (cc)
    of_found (Some x) is = refl

module _ {es : List (Entry Thing)} {names : List (List ℕ)} {slots : List Value} {top : ℕ} (e : Entry Thing) (full : Thing) (f : Filling es names slots top e full) where
  made_sound : IsSound (es ++ e ∷ []) names (set slots top (value_named (kind_in e.value) (handle_of e))) (top + 1)
  made_sound =
      sound_made f.sound f.room e f.rises f.rises_made f.few
      (subst (All (λ (x : Value). value_handle x ≡ None)) (sym f.free) (All-nil (λ (x : Value). value_handle x ≡ None)))
      (container_named names e.value full f.container f.kind)
      f.counted

  there_now : All (IsThere (map bare (es ++ e ∷ [])) names) (contents full)
  there_now = All-weaker (IsThere (map bare es) names) (IsThere (map bare (es ++ e ∷ [])) names) (there_still es e names f.rises f.rises_made) (contents full) f.can.there

  grown : take (top + 1) (set slots top (value_named (kind_in e.value) (handle_of e))) ≡ take top slots ++ value_named (kind_in e.value) (handle_of e) ∷ []
  grown = take_more_set slots top (value_named (kind_in e.value) (handle_of e)) f.room

  still_some : (s : ℕ) → 0 < count_in (map bare es) (take top slots) s → 0 < count_in (map bare (es ++ e ∷ [])) (take (top + 1) (set slots top (value_named (kind_in e.value) (handle_of e)))) s
  still_some s some =
      let n = λ (t : Handle × Thing). occurrences s (filled (thing_places t.1)) in
      let x = value_named (kind_in e.value) (handle_of e) in
      omega (
        arith,
        some,
        ap (sum_by n) (map-append bare es (e ∷ [])),
        sum_by-append n (map bare es) (bare e ∷ []),
        ap (λ (l : List Value). occurrences s (handles l)) grown,
        occurrences-handles s (take top slots ++ x ∷ []),
        occurrences-handles s (take top slots),
        sum_by_push (holds s) (take top slots) x,
      )

  -- so it can be kept
  pub fill_kept : CanKeep (es ++ e ∷ []) (contents full)
  fill_kept =
      can_keep (contents full) (es ++ e ∷ []) names (take (top + 1) (set slots top (value_named (kind_in e.value) (handle_of e)))) f.rises_made made_sound.held
      (omega (arith, count_is made_sound, f.short, f.can.few))
      there_now
      (All-weaker (λ (x : Value). (h : Handle) → value_handle x ≡ Some h → 0 < count_in (map bare es) (take top slots) h.serial)
      (λ (x : Value). (h : Handle) → value_handle x ≡ Some h → 0 < count_in (map bare (es ++ e ∷ [])) (take (top + 1) (set slots top (value_named (kind_in e.value) (handle_of e)))) h.serial)
      (λ x some h is. still_some h.serial (some h is)) (contents full) f.can.some)

  module _ (rises2 : RisesFrom 0 (serials (kept_all (es ++ e ∷ []) (contents full)))) where
    pub found_new : value_at (kept_all (es ++ e ∷ []) (contents full)) (handle_of e) ≡ Some e.value
    found_new =
        let es2 = kept_all (es ++ e ∷ []) (contents full) in
        sym (thing_is_value 0 es2 (handle_of e) rises2)
        ∙ ap (λ (bs : List (Handle × Thing)). thing_at bs (handle_of e)) (bare-kept_all (contents full) (es ++ e ∷ []))
        ∙ thing_is_value 0 (es ++ e ∷ []) (handle_of e) f.rises_made
        ∙ ap (option_map (λ (x : Entry Thing). x.value)) (last_found 0 es e f.rises_made)

    pub sound_filled : RisesFrom 0 (serials (written_at (kept_all (es ++ e ∷ []) (contents full)) (handle_of e) full)) → IsSound (written_at (kept_all (es ++ e ∷ []) (contents full)) (handle_of e) full) names (set slots top (value_named (kind_in e.value) (handle_of e))) (top + 1)
    sound_filled rises3 =
        let es2 = kept_all (es ++ e ∷ []) (contents full) in
        let vs = take (top + 1) (set slots top (value_named (kind_in e.value) (handle_of e))) in
        let same = bare-kept_all (contents full) (es ++ e ∷ []) in
        let held = kept_are_held (contents full) (es ++ e ∷ []) names vs f.rises_made there_now made_sound.held in
        record {
          within = made_sound.within;
          held = held_written es2 (handle_of e) e.value full rises2 rises3 found_new (same_container e.value full f.container f.kind) names (contents full ++ vs) vs held
              (λ s. omega (arith, sum_by-append (holds s) (contents full) vs, ap (sum_by (holds s)) f.free))
              (subst (λ (bs : List (Handle × Thing)). All (IsThere bs names) (contents full)) (sym same) there_now)
              (subst (λ (bs : List (Handle × Thing)). All (IsThere bs names) vs) (sym same) made_sound.held.whole.outside)
              (omega (arith, ap length (filled-contents full), length-handles (contents full), f.can.few));
        }

  pub filled_things : map bare (written_at (kept_all (es ++ e ∷ []) (contents full)) (handle_of e) full) ≡ map bare es ++ (handle_of e, full) ∷ []
  filled_things =
      bare-written (kept_all (es ++ e ∷ []) (contents full)) (handle_of e) full
      ∙ ap (λ (bs : List (Handle × Thing)). written_in bs (handle_of e) full) (bare-kept_all (contents full) (es ++ e ∷ []))
      ∙ written_last 0 es e full f.rises_made

pub may_refuse : {T : Type 0} (want : Option RunFault) (r : Result T ThingFault) → RefusedBy want r → MayRefuse want r
may_refuse want (Ok x) refused = refused
may_refuse want (Err (Run f)) refused = refused
may_refuse want (Err NoMemory) refused = tt
