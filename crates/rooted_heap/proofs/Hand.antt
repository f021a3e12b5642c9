-- One value more that is held, or one less.
use Rattle.std.proofs.Common.{◌≡◌, ℕ, ◌<◌, List, ◌∷◌, ◌++◌, map, Option, Some, refl, sym, ◌∙◌, subst, arith}
use Rattle.std.specs.Option.{option_to_list, ForSome}
use Rattle.std.proofs.lemmas.List.Elements.{All-cons, All-tail}
use Rattle.std.proofs.lemmas.List.Sums.{sum_by-cons, sum_by-append}
use Rattle.slot_arena.specs.declared.handle.Handle.{Handle}
use Rattle.slot_arena.specs.Slots.{Entry}
use Rattle.gd_model.specs.declared.value.Value.{Value}
use Rattle.gd_holding.specs.Handles.{value_handle}
use Rattle.gd_holding.specs.Holding.{AreCounted, IsHeld}
use Rattle.counted_heap.specs.declared.thing.Thing.{Thing}
use Rattle.counted_heap.specs.Thing.{thing_places}
use Rattle.rooted_heap.specs.Rooted.{bare, handles, IsThere, AreHeld, count_in}
use Rattle.rooted_heap.proofs.Counting.{holds, filled-cons, occurrences-handles}
use Rattle.rooted_heap.proofs.Holding.{held_more, held_less, apart_held}
use Rattle.rooted_heap.proofs.There.{can_hold_held}

-- what the values name is named as often where there are more
pub more_in_hand : (s : ℕ) (things : List (Handle × Thing)) (xs values : List Value) → 0 < count_in things values s → 0 < count_in things (xs ++ values) s
more_in_hand s things xs values some =
    omega (arith, some, occurrences-handles s values, occurrences-handles s (xs ++ values), sum_by-append (holds s) xs values)

-- a value is kept
pub kept_one : {es es' : List (Entry Thing)} {names : List (List ℕ)} {values : List Value} (x : Value) (place : Option Handle) → place ≡ value_handle x → AreHeld es names values → map bare es' ≡ map bare es → ((hand : List Handle) → AreCounted thing_places es hand → AreCounted thing_places es' (option_to_list place ++ hand)) → IsThere (map bare es) names x → AreHeld es' names (x ∷ values)
kept_one {es} {es'} {names} {values} x place named held same holders there =
    held_more x (x ∷ values) same
    (subst (λ (o : Option Handle). AreCounted thing_places es' (option_to_list o ++ handles values)) named (holders (handles values) held.counted))
    (λ s. sum_by-cons (holds s) x values)
    (All-cons (IsThere (map bare es) names) x values there held.whole.outside)
    held

counted_first : {es : List (Entry Thing)} {names : List (List ℕ)} {values : List Value} (x : Value) (place : Option Handle) → place ≡ value_handle x → AreHeld es names (x ∷ values) → AreCounted thing_places es (option_to_list place ++ handles values)
counted_first {es} {names} {values} x place named held =
    subst (λ (o : Option Handle). AreCounted thing_places es (option_to_list o ++ handles values)) (sym named)
    (subst (λ (l : List Handle). AreCounted thing_places es l) (filled-cons (value_handle x) (map value_handle values)) held.counted)

-- so it can be given up
pub first_held : {es : List (Entry Thing)} {names : List (List ℕ)} {values : List Value} (x : Value) (place : Option Handle) → place ≡ value_handle x → AreHeld es names (x ∷ values) → ForSome place (λ h. IsHeld es h)
first_held {es} {names} {values} x place named held = λ h is. apart_held x values (counted_first x (value_handle x) refl held) h (sym named ∙ is)

pub dropped_one : {es es' : List (Entry Thing)} {names : List (List ℕ)} {values : List Value} (x : Value) (place : Option Handle) → place ≡ value_handle x → AreHeld es names (x ∷ values) → map bare es' ≡ map bare es → ((hand : List Handle) → AreCounted thing_places es (option_to_list place ++ hand) → AreCounted thing_places es' hand) → AreHeld es' names values
dropped_one {es} {es'} {names} {values} x place named held same holders =
    held_less values same (holders (handles values) (counted_first x place named held))
    (All-tail (IsThere (map bare es) names) x values held.whole.outside) held

-- what may be held is held, also where more is in the hand
pub hand_held : {es : List (Entry Thing)} {names : List (List ℕ)} (more values : List Value) (x : Value) (place : Option Handle) → place ≡ value_handle x → AreHeld es names (more ++ values) → IsThere (map bare es) names x → ((h : Handle) → value_handle x ≡ Some h → 0 < count_in (map bare es) values h.serial) → ForSome place (λ h. IsHeld es h)
hand_held {es} {names} more values x place named held there some = λ h is.
    can_hold_held es names (more ++ values) x held.counted there (λ k is. more_in_hand k.serial (map bare es) more values (some k is)) h (sym named ∙ is)
