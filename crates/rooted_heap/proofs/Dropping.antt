-- Values are given up one after another, and values are counted without what they share.
use Rattle.std.proofs.Common.{◌≡◌, ℕ, ◌+◌, ◌-◌, ◌^◌, ◌<◌, List, [], ◌∷◌, ◌++◌, length, map, take, get_or, Option, Some, None, refl, sym, ap, ◌∙◌, subst}
use Rattle.std.specs.Option.{option_to_list, ForSome}
use Rattle.std.proofs.lemmas.List.{map-append, take_more}
use Rattle.slot_arena.specs.declared.handle.Handle.{Handle}
use Rattle.slot_arena.specs.Slots.{Entry, count_at}
use Rattle.gd_model.specs.declared.value.Value.{Value}
use Rattle.gd_model.specs.declared.value.Value.TheVariants as v
use Rattle.gd_holding.specs.Handles.{value_handle}
use Rattle.gd_holding.specs.Holding.{filled, kept, dropped, AreCounted, IsHeld}
use Rattle.counted_heap.specs.declared.thing.Thing.{Thing}
use Rattle.counted_heap.specs.Thing.{thing_places}
use Rattle.counted_heap.specs.Heap.{RisesFrom, serials}
use Rattle.counted_heap.proofs.Changes.{serials-with_count}
use Rattle.counted_heap.proofs.Holders.{held_dropped}
use Rattle.rooted_heap.specs.Rooted.{bare, AreHeld}
use Rattle.rooted_heap.specs.Keeping.{kept_all, CanKeep, given_all, CanGive}
use Rattle.rooted_heap.specs.Writing.{plain_part}
use Rattle.rooted_heap.proofs.Counting.{bare-dropped}
use Rattle.rooted_heap.proofs.Hand.{first_held, dropped_one}

pub bare-given_all : (xs : List Value) (es : List (Entry Thing)) → map bare (given_all es xs) ≡ map bare es
bare-given_all [] es = refl
bare-given_all (x ∷ xs) es = bare-given_all xs (dropped es (value_handle x)) ∙ bare-dropped es (value_handle x)

rises_dropped : (es : List (Entry Thing)) (place : Option Handle) → RisesFrom 0 (serials es) → RisesFrom 0 (serials (dropped es place))
rises_dropped es None rises = rises
rises_dropped es (Some h) rises = subst (λ (l : List ℕ). RisesFrom 0 l) (sym (serials-with_count (λ n. n - 1) es h)) rises

counted_dropped : (es : List (Entry Thing)) (place : Option Handle) (hand : List Handle) → RisesFrom 0 (serials es) → AreCounted thing_places es (option_to_list place ++ hand) → AreCounted thing_places (dropped es place) hand
counted_dropped es None hand rises counted = counted
counted_dropped es (Some h) hand rises counted = held_dropped (λ (t : Thing). filled (thing_places t)) es h hand rises counted

-- the first of the values is given up
one_given : (es : List (Entry Thing)) (names : List (List ℕ)) (values : List Value) (x : Value) → RisesFrom 0 (serials es) → AreHeld es names (x ∷ values) → AreHeld (dropped es (value_handle x)) names values
one_given es names values x rises held =
    dropped_one x (value_handle x) refl held (bare-dropped es (value_handle x)) (λ hand counted. counted_dropped es (value_handle x) hand rises counted)

-- what stands first among the values can be given up
pub can_give : (xs : List Value) (es : List (Entry Thing)) (names : List (List ℕ)) (values : List Value) → RisesFrom 0 (serials es) → AreHeld es names (xs ++ values) → CanGive es xs
can_give [] es names values rises held = tt
can_give (x ∷ xs) es names values rises held = (
  first_held x (value_handle x) refl held,
  can_give xs (dropped es (value_handle x)) names values (rises_dropped es (value_handle x) rises) (one_given es names (xs ++ values) x rises held),
)

pub given_are_held : (xs : List Value) (es : List (Entry Thing)) (names : List (List ℕ)) (values : List Value) → RisesFrom 0 (serials es) → AreHeld es names (xs ++ values) → AreHeld (given_all es xs) names values
given_are_held [] es names values rises held = held
given_are_held (x ∷ xs) es names values rises held =
    given_are_held xs (dropped es (value_handle x)) names values (rises_dropped es (value_handle x) rises) (one_given es names (xs ++ values) x rises held)

-- a value without what it shares names the same thing
pub plain_handle : (x : Value) → value_handle (plain_part x) ≡ value_handle x
plain_handle v.Nil = refl
plain_handle (v.Bool b) = refl
plain_handle (v.Int n) = refl
plain_handle (v.Str t) = refl
plain_handle (v.Object h) = refl
plain_handle (v.Array h) = refl
plain_handle (v.Dict h) = refl
plain_handle (v.Callable t) = refl
plain_handle (v.Signal t) = refl

pub plain_kept : (xs : List Value) (es : List (Entry Thing)) → kept_all es (map plain_part xs) ≡ kept_all es xs
plain_kept [] es = refl
plain_kept (x ∷ xs) es = ap (λ (o : Option Handle). kept_all (kept es o) (map plain_part xs)) (plain_handle x) ∙ plain_kept xs (kept es (value_handle x))

pub plain_can_keep : (xs : List Value) (es : List (Entry Thing)) → CanKeep es xs → CanKeep es (map plain_part xs)
plain_can_keep [] es can = tt
plain_can_keep (x ∷ xs) es can =
    subst (λ (o : Option Handle). ForSome o (λ h. IsHeld es h) × ForSome o (λ h. ForSome (count_at es h) (λ n. n < 2 ^ 127)) × CanKeep (kept es o) (map plain_part xs)) (sym (plain_handle x))
    (can.0, can.1, plain_can_keep xs (kept es (value_handle x)) can.2)

pub plain_given : (xs : List Value) (es : List (Entry Thing)) → given_all es (map plain_part xs) ≡ given_all es xs
plain_given [] es = refl
plain_given (x ∷ xs) es = ap (λ (o : Option Handle). given_all (dropped es o) (map plain_part xs)) (plain_handle x) ∙ plain_given xs (dropped es (value_handle x))

pub plain_can_give : (xs : List Value) (es : List (Entry Thing)) → CanGive es xs → CanGive es (map plain_part xs)
plain_can_give [] es can = tt
plain_can_give (x ∷ xs) es can =
    subst (λ (o : Option Handle). ForSome o (λ h. IsHeld es h) × CanGive (dropped es o) (map plain_part xs)) (sym (plain_handle x))
    (can.0, plain_can_give xs (dropped es (value_handle x)) can.1)

-- one value more without what it shares
pub plain_more : (xs : List Value) (i : ℕ) (x : Value) → i < length xs → x ≡ get_or xs i x → map plain_part (take i xs) ++ plain_part x ∷ [] ≡ map plain_part (take (i + 1) xs)
plain_more xs i x lt is =
    sym (map-append plain_part (take i xs) (x ∷ []))
    ∙ sym (ap (map plain_part) (take_more xs i x lt ∙ ap (λ (y : Value). take i xs ++ y ∷ []) (sym is)))
