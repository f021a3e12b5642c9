-- What stays there, and what is held.
use Rattle.std.proofs.Common.{◌≡◌, ℕ, ◌+◌, ◌<◌, Bool, cond, eqb, List, [], ◌∷◌, ◌++◌, map, Option, Some, IsSome, is_some, refl, sym, ap, ◌∙◌, subst, arith, Contains}
use Rattle.std.specs.Prelude.{option_map, option_and_then}
use Rattle.std.specs.List.{All}
use Rattle.std.specs.Option.{option_to_list}
use Rattle.std.proofs.lemmas.Bool.{eq-eqb}
use Rattle.std.proofs.lemmas.List.Elements.{All-nil, All-cons, All-contains, All-contains_itself, All-weaker, All-head, All-tail}
use Rattle.std.proofs.lemmas.List.Sums.{sum_by-cons, get_or-le-sum_by}
use Rattle.slot_arena.specs.declared.handle.Handle.{Handle}
use Rattle.slot_arena.specs.Slots.{Entry, find_at}
use Rattle.gd_model.specs.declared.key.Key.{Key}
use Rattle.gd_model.specs.declared.key.Key.TheVariants as k
use Rattle.gd_model.specs.declared.value.Value.{Value}
use Rattle.gd_model.specs.declared.value.Value.TheVariants as v
use Rattle.gd_model.specs.View.{array_in, dict_in, class_in}
use Rattle.gd_model.specs.Whole.{key_value, pair_values}
use Rattle.gd_holding.specs.Handles.{value_handle, key_handle, pair_places}
use Rattle.gd_holding.specs.Holding.{occurrences, filled, held_in, AreCounted, IsHeld}
use Rattle.counted_heap.specs.declared.thing.Thing.{Thing}
use Rattle.counted_heap.specs.declared.thing.Thing.TheVariants.{Object, Array, Dict}
use Rattle.counted_heap.specs.Thing.{thing_places}
use Rattle.gd_holding.specs.Rounds.{HeapView, unheld, round_after, current_round}
use Rattle.counted_heap.proofs.GiveUp.{the_some, found_Contains}
use Rattle.counted_heap.proofs.Holders.{all_held}
use Rattle.rooted_heap.specs.Rooted.{bare, seen, names_of, contents, handles, IsThere, count_in, RootedView, CanHold}
use Rattle.rooted_heap.proofs.Counting.{holds, occurrences-handles, there_alive, held_in-bare}
use Rattle.rooted_heap.proofs.Values.{view_of}

-- where the same is seen behind its handle, a value stays there
pub same_there : (things things' : List (Handle × Thing)) (names : List (List ℕ)) (x : Value) → ((h : Handle) → value_handle x ≡ Some h → seen things' h ≡ seen things h) → IsThere things names x → IsThere things' names x
same_there things things' names v.Nil same there = refl
same_there things things' names (v.Bool b) same there = refl
same_there things things' names (v.Int n) same there = refl
same_there things things' names (v.Str t) same there = refl
same_there things things' names (v.Object h) same there = ap (λ o. is_some (option_and_then (names_of names) (class_in o))) (same h refl) ∙ there
same_there things things' names (v.Array h) same there = ap (λ o. is_some (array_in o)) (same h refl) ∙ there
same_there things things' names (v.Dict h) same there = ap (λ o. is_some (dict_in o)) (same h refl) ∙ there
same_there things things' names (v.Callable t) same there = refl
same_there things things' names (v.Signal s) same there = refl

-- the places of a thing are those of the values that lie in it
key_is_value : (key : Key) → key_handle key ≡ value_handle (key_value key)
key_is_value k.Nil = refl
key_is_value (k.Bool b) = refl
key_is_value (k.Int n) = refl
key_is_value (k.Str t) = refl
key_is_value (k.Object h) = refl

pairs_are_values : (pairs : List (Key × Value)) → pair_places pairs ≡ map value_handle (pair_values pairs)
pairs_are_values [] = refl
pairs_are_values (p ∷ ps) =
    ap (λ (o : Option Handle). o ∷ (value_handle p.1 ∷ pair_places ps)) (key_is_value p.0)
    ∙ ap (λ (l : List (Option Handle)). value_handle (key_value p.0) ∷ (value_handle p.1 ∷ l)) (pairs_are_values ps)

append_nothing : {X : Type 0} (xs : List X) → xs ++ [] ≡ xs
append_nothing [] = refl
append_nothing (x ∷ xs) = ap (λ l. x ∷ l) (append_nothing xs)

pub filled-contents : (t : Thing) → filled (thing_places t) ≡ handles (contents t)
filled-contents (Object class values) = ap filled (append_nothing (map value_handle values))
filled-contents (Array a) = ap filled (append_nothing (map value_handle a.items))
filled-contents (Dict d) = ap filled (pairs_are_values d.pairs)

-- a value that names a thing holds it
pub holds_own : (x : Value) (h : Handle) → value_handle x ≡ Some h → holds h.serial x ≡ 1
holds_own x h is = ap (λ (o : Option Handle). occurrences h.serial (option_to_list o)) is ∙ one_self
  where
    one_self : occurrences h.serial (h ∷ []) ≡ 1
    one_self = sum_by-cons (λ (y : Handle). cond (eqb y.serial h.serial) 1 0) h [] ∙ ap (λ (b : Bool). cond b 1 0 + 0) (eq-eqb h.serial h.serial refl)

pub held_among : (values : List Value) (x : Value) (h : Handle) → Contains values x → value_handle x ≡ Some h → 0 < occurrences h.serial (handles values)
held_among values x h there is =
    omega (arith, occurrences-handles h.serial values, get_or-le-sum_by (holds h.serial) values there.0 x there.1, ap (holds h.serial) there.2, holds_own x h is)

-- what a thing holds is counted
pub held_inside : (es : List (Entry Thing)) (e : Entry Thing) (x : Value) (h : Handle) → Contains es e → Contains (contents e.value) x → value_handle x ≡ Some h → 0 < held_in (λ t. filled (thing_places t)) es h.serial
held_inside es e x h there inside is =
    let n = λ (y : Entry Thing). occurrences h.serial (filled (thing_places y.value)) in
    omega (
      arith,
      get_or-le-sum_by n es there.0 e there.1,
      ap n there.2,
      ap (occurrences h.serial) (filled-contents e.value),
      held_among (contents e.value) x h inside is,
    )

-- what is alive and counted is held
pub counted_held : (es : List (Entry Thing)) (hand : List Handle) (h : Handle) → AreCounted thing_places es hand → IsSome (find_at es h) → 0 < held_in (λ t. filled (thing_places t)) es h.serial + occurrences h.serial hand → (e : Entry Thing) × (find_at es h ≡ Some e) × (0 < e.count)
counted_held es hand h held alive some =
    let x = the_some (find_at es h) alive in
    let at = found_Contains h es x.0 x.1 in
    let count = All-contains (λ (e : Entry Thing). e.count ≡ held_in (λ t. filled (thing_places t)) es e.serial + occurrences e.serial hand) es x.0 held.counts at.0 in
    let same = ap (λ (s : ℕ). held_in (λ t. filled (thing_places t)) es s + occurrences s hand) at.1 in
    (x.0, x.1, omega (arith, count, same, some))

-- what holds of each element that is there
pub each : {X : Type 0} (P : X → Type 0) (xs : List X) → ((x : X) → Contains xs x → P x) → All P xs
each P xs all = All-weaker (λ x. Contains xs x) P all xs (All-contains_itself xs)

-- a fact of each thing, with or without its count
pub all_bare : (P : Handle × Thing → Type 0) (es : List (Entry Thing)) → All P (map bare es) → All (λ (e : Entry Thing). P (bare e)) es
all_bare P [] all = All-nil (λ (e : Entry Thing). P (bare e))
all_bare P (e ∷ es) all = All-cons (λ (x : Entry Thing). P (bare x)) e es (All-head P (bare e) (map bare es) all) (all_bare P es (All-tail P (bare e) (map bare es) all))

-- what may be held once more is held
pub can_hold_held : (es : List (Entry Thing)) (names : List (List ℕ)) (values : List Value) (x : Value) → AreCounted thing_places es (handles values) → IsThere (map bare es) names x → ((h : Handle) → value_handle x ≡ Some h → 0 < count_in (map bare es) values h.serial) → (h : Handle) → value_handle x ≡ Some h → IsHeld es h
can_hold_held es names values x counted there some h is =
    let all = subst (λ (o : Option Handle). All (λ (y : Handle). IsSome (find_at es y)) (option_to_list o)) is (there_alive es names x there) in
    let alive = All-head (λ (y : Handle). IsSome (find_at es y)) h [] all in
    let e = counted_held es (handles values) h counted alive (omega (arith, some h is, held_in-bare es h.serial)) in
    record { count = e.0.count; found = ap (option_map (λ (x : Entry Thing). x.count)) e.1; held = e.2 }

-- while the heap is settled, what is alive is held
pub settled_held : (heap : HeapView Thing) (values : List Value) (h : Handle) → AreCounted thing_places heap.things (handles values) → current_round heap ≡ [] → IsSome (find_at heap.things h) → 0 < count_in (map bare heap.things) values h.serial
settled_held heap values h counted settled alive =
    let x = the_some (find_at heap.things h) alive in
    let at = found_Contains h heap.things x.0 x.1 in
    let some = all_held (λ (t : Thing). filled (thing_places t)) heap.things (handles values) x.0 counted (nothing_unheld heap.round settled) at.0 in
    omega (arith, some, ap (λ (s : ℕ). held_in (λ (t : Thing). filled (thing_places t)) heap.things s + occurrences s (handles values)) at.1, held_in-bare heap.things h.serial)
  where
    nothing_unheld : (r : List ℕ) → round_after heap.things r ≡ [] → unheld heap.things ≡ []
    nothing_unheld [] is = is
    nothing_unheld (s ∷ rest) is = absurd (cc)

pub can_hold_from : (heap : HeapView Thing) (names : List (List ℕ)) (values : List Value) (now : RootedView) (x : Value) → map bare heap.things ≡ now.things → names ≡ now.names → values ≡ now.values → AreCounted thing_places heap.things (handles values) → current_round heap ≡ [] → IsThere now.things now.names x → CanHold now x
can_hold_from heap names values now x things named same counted settled there =
    let there' : IsThere (map bare heap.things) names x =
    subst (λ (bs : List (Handle × Thing)). IsThere bs names x) (sym things) (subst (λ (ns : List (List ℕ)). IsThere now.things ns x) (sym named) there) in
    record {
      there = there;
      held = λ h is.
          let all = subst (λ (o : Option Handle). All (λ (y : Handle). IsSome (find_at heap.things y)) (option_to_list o)) is (there_alive heap.things names x there') in
          let alive = All-head (λ (y : Handle). IsSome (find_at heap.things y)) h [] all in
          subst (λ (bs : List (Handle × Thing)). 0 < count_in bs now.values h.serial) things
          (subst (λ (vs : List Value). 0 < count_in (map bare heap.things) vs h.serial) same (settled_held heap values h counted settled alive));
    }

-- what may be held once more, over the parts of the heap
pub can_hold_here : (heap : HeapView Thing) (names : List (List ℕ)) (slots : List Value) (top : ℕ) (now : RootedView) → view_of heap names slots top ≡ now → (x : Value) → CanHold now x → CanHold (view_of heap names slots top) x
can_hold_here heap names slots top now is x can = subst (λ (w : RootedView). CanHold w x) (sym is) can
