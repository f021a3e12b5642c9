-- How often values name a thing, as a sum over the values.
use Rattle.std.proofs.Common.{◌≡◌, ℕ, ◌+◌, ◌-◌, ◌≤◌, Bool, true, false, cond, eqb, List, [], ◌∷◌, ◌++◌, length, map, Option, Some, None, IsSome, refl, sym, ap, inl, inr, ◌∙◌, subst, arith}
use Rattle.std.specs.Prelude.{sum_by, find, option_map, option_and_then, is_some}
use Rattle.std.specs.List.{All}
use Rattle.std.specs.Option.{option_to_list}
use Rattle.std.proofs.lemmas.Bool.{cond_both, cond-true, cond-false, cases_Bool, and_from, and_right}
use Rattle.std.proofs.lemmas.List.Elements.{All-nil, All-cons, All-head, All-tail, All-append, All-weaker}
use Rattle.std.proofs.lemmas.List.Sums.{sum_by-cons, sum_by-append}
use Rattle.slot_arena.specs.declared.handle.Handle.{Handle}
use Rattle.slot_arena.specs.Slots.{Entry, is_at, find_at, with_count}
use Rattle.gd_model.specs.declared.value.Value.{Value}
use Rattle.gd_model.specs.declared.value.Value.TheVariants as v
use Rattle.gd_model.specs.View.{ThingView, array_in, dict_in, class_in}
use Rattle.gd_holding.specs.Handles.{value_handle}
use Rattle.gd_holding.specs.Holding.{occurrences, filled, held_in, HeldBy, kept, dropped}
use Rattle.counted_heap.specs.declared.thing.Thing.{Thing}
use Rattle.counted_heap.specs.Thing.{thing_places}
use Rattle.rooted_heap.specs.Rooted.{bare, has_serial, lying_at, thing_at, thing_view, seen, names_of, handles, IsThere}

-- how often a value names the thing with a serial number
abbrev pub holds : ℕ → Value → ℕ
holds s value = occurrences s (option_to_list (value_handle value))

pub filled-cons : (place : Option Handle) (places : List (Option Handle)) → filled (place ∷ places) ≡ option_to_list place ++ filled places
filled-cons None places = refl
filled-cons (Some h) places = refl

pub occurrences-append : (s : ℕ) (xs ys : List Handle) → occurrences s (xs ++ ys) ≡ occurrences s xs + occurrences s ys
occurrences-append s xs ys = sum_by-append (λ (h : Handle). cond (eqb h.serial s) 1 0) xs ys

pub occurrences-handles : (s : ℕ) (values : List Value) → occurrences s (handles values) ≡ sum_by (holds s) values
occurrences-handles s [] = refl
occurrences-handles s (x ∷ xs) =
    ap (occurrences s) (filled-cons (value_handle x) (map value_handle xs))
    ∙ occurrences-append s (option_to_list (value_handle x)) (handles xs)
    ∙ ap (λ n. holds s x + n) (occurrences-handles s xs)
    ∙ sym (sum_by-cons (holds s) x xs)

length-filled : (place : Option Handle) (rest : List Handle) → length (option_to_list place ++ rest) ≤ length rest + 1
length-filled None rest = omega arith
length-filled (Some h) rest = omega arith

pub length-handles : (values : List Value) → length (handles values) ≤ length values
length-handles [] = omega arith
length-handles (x ∷ xs) =
    let whole : length (handles (x ∷ xs)) ≡ length (option_to_list (value_handle x) ++ handles xs) = ap length (filled-cons (value_handle x) (map value_handle xs)) in
    omega (arith, whole, length-filled (value_handle x) (handles xs), length-handles xs)

-- what is there without its count is alive
thing_alive : (es : List (Entry Thing)) (h : Handle) → IsSome (thing_at (map bare es) h) → IsSome (find_at es h)
thing_alive [] h some = absurd (cc)
thing_alive (e ∷ es) h some =
    elim (cases_Bool (eqb e.serial h.serial)) [
      | inl serial ↦
          elim (cases_Bool (eqb e.index h.index)) [
            | inl index ↦ ap is_some (cond-true (is_at h e) (Some e) (find_at es h) (and_from _ _ index serial))
            | inr other ↦
                let first : thing_at (map bare (e ∷ es)) h ≡ lying_at h.index (Some (bare e)) = ap (lying_at h.index) (cond-true (eqb e.serial h.serial) (Some (bare e)) (find (has_serial h.serial) (map bare es)) serial) in
                let none : thing_at (map bare (e ∷ es)) h ≡ None = first ∙ cond-false (eqb e.index h.index) (Some e.value) None other in
                absurd (cc)
          ]
      | inr other ↦
          let rest : thing_at (map bare (e ∷ es)) h ≡ thing_at (map bare es) h = ap (lying_at h.index) (cond-false (eqb e.serial h.serial) (Some (bare e)) (find (has_serial h.serial) (map bare es)) other) in
          let alive = thing_alive es h (subst (λ (o : Option Thing). IsSome o) rest some) in
          subst (λ (o : Option (Entry Thing)). IsSome o) (sym (cond-false (is_at h e) (Some e) (find_at es h) (and_right (eqb e.index h.index) _ other))) alive
    ]

-- how often things name a thing, without their counts
pub held_in-bare : (es : List (Entry Thing)) (s : ℕ) → sum_by (λ (t : Handle × Thing). occurrences s (filled (thing_places t.1))) (map bare es) ≡ held_in (λ t. filled (thing_places t)) es s
held_in-bare [] s = refl
held_in-bare (e ∷ es) s =
    sum_by-cons (λ (t : Handle × Thing). occurrences s (filled (thing_places t.1))) (bare e) (map bare es)
    ∙ ap (λ n. occurrences s (filled (thing_places e.value)) + n) (held_in-bare es s)
    ∙ sym (sum_by-cons (λ (x : Entry Thing). occurrences s (filled (thing_places x.value))) e es)

-- counts do not show
pub bare-with_count : (f : ℕ → ℕ) (es : List (Entry Thing)) (h : Handle) → map bare (with_count f es h) ≡ map bare es
bare-with_count f [] h = refl
bare-with_count f (e ∷ es) h =
    cond_both (is_at h e) (record e { count = f e.count }) e
    (λ x. bare x ∷ map bare (with_count f es h) ≡ bare e ∷ map bare es)
    (λ _. ap (λ l. bare e ∷ l) (bare-with_count f es h))
    (λ _. ap (λ l. bare e ∷ l) (bare-with_count f es h))

pub bare-kept : (es : List (Entry Thing)) (place : Option Handle) → map bare (kept es place) ≡ map bare es
bare-kept es None = refl
bare-kept es (Some h) = bare-with_count (λ n. n + 1) es h

pub bare-dropped : (es : List (Entry Thing)) (place : Option Handle) → map bare (dropped es place) ≡ map bare es
bare-dropped es None = refl
bare-dropped es (Some h) = bare-with_count (λ n. n - 1) es h

-- what a handle names is alive where something is seen there
seen_alive : (passes : Option ThingView → Bool) → passes None ≡ false → (es : List (Entry Thing)) (h : Handle) → passes (seen (map bare es) h) ≡ true → IsSome (find_at es h)
seen_alive passes none es h is = thing_alive es h (of_thing (thing_at (map bare es) h) is)
  where
    of_thing : (thing : Option Thing) → passes (option_map thing_view thing) ≡ true → IsSome thing
    of_thing None passed = absurd (cc)
    of_thing (Some t) passed = refl

one_alive : (es : List (Entry Thing)) (h : Handle) → IsSome (find_at es h) → All (λ (x : Handle). IsSome (find_at es x)) (h ∷ [])
one_alive es h alive = All-cons (λ (x : Handle). IsSome (find_at es x)) h [] alive (All-nil (λ (x : Handle). IsSome (find_at es x)))

pub there_alive : (es : List (Entry Thing)) (names : List (List ℕ)) (x : Value) → IsThere (map bare es) names x → All (λ (h : Handle). IsSome (find_at es h)) (option_to_list (value_handle x))
there_alive es names v.Nil there = All-nil (λ (h : Handle). IsSome (find_at es h))
there_alive es names (v.Bool b) there = All-nil (λ (h : Handle). IsSome (find_at es h))
there_alive es names (v.Int n) there = All-nil (λ (h : Handle). IsSome (find_at es h))
there_alive es names (v.Str t) there = All-nil (λ (h : Handle). IsSome (find_at es h))
there_alive es names (v.Object h) there = one_alive es h (seen_alive (λ o. is_some (option_and_then (names_of names) (class_in o))) refl es h there)
there_alive es names (v.Array h) there = one_alive es h (seen_alive (λ o. is_some (array_in o)) refl es h there)
there_alive es names (v.Dict h) there = one_alive es h (seen_alive (λ o. is_some (dict_in o)) refl es h there)
there_alive es names (v.Callable t) there = All-nil (λ (h : Handle). IsSome (find_at es h))
there_alive es names (v.Signal s) there = All-nil (λ (h : Handle). IsSome (find_at es h))

pub all_alive : (es : List (Entry Thing)) (names : List (List ℕ)) (values : List Value) → All (IsThere (map bare es) names) values → All (λ (h : Handle). IsSome (find_at es h)) (handles values)
all_alive es names [] all = All-nil (λ (h : Handle). IsSome (find_at es h))
all_alive es names (x ∷ xs) all =
    let alive = λ (h : Handle). IsSome (find_at es h) in
    subst (All alive) (sym (filled-cons (value_handle x) (map value_handle xs)))
    (All-append alive (option_to_list (value_handle x)) (handles xs)
    (there_alive es names x (All-head (IsThere (map bare es) names) x xs all))
    (all_alive es names xs (All-tail (IsThere (map bare es) names) x xs all)))

-- the hand may be other handles that name each thing as often
module _ {T : Type 0} (in_thing : T → List Handle) where
  pub recounted : (es : List (Entry T)) (hand left : List Handle) → ((s : ℕ) → occurrences s left ≡ occurrences s hand) → All (λ (h : Handle). IsSome (find_at es h)) left → HeldBy in_thing es hand → HeldBy in_thing es left
  recounted es hand left same alive held = record {
    counts = All-weaker (λ (e : Entry T). e.count ≡ held_in in_thing es e.serial + occurrences e.serial hand) (λ (e : Entry T). e.count ≡ held_in in_thing es e.serial + occurrences e.serial left)
        (λ e is. omega (arith, is, same e.serial)) es held.counts;
    alive = held.alive;
    hand_alive = alive;
  }
