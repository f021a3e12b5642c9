-- Values are counted one after another.
use Rattle.std.proofs.Common.{◌≡◌, ℕ, ◌+◌, ◌^◌, ◌<◌, List, [], ◌∷◌, ◌++◌, length, map, Option, Some, None, IsSome, refl, sym, ◌∙◌, subst, arith}
use Rattle.std.specs.List.{All}
use Rattle.std.specs.Option.{option_to_list}
use Rattle.std.proofs.lemmas.List.Elements.{All-cons, All-append, All-head, All-tail, All-weaker}
use Rattle.std.proofs.lemmas.List.Sums.{sum_by-cons, sum_by-append}
use Rattle.slot_arena.specs.declared.handle.Handle.{Handle}
use Rattle.slot_arena.specs.Slots.{Entry, find_at}
use Rattle.gd_model.specs.declared.key.Key.{Key}
use Rattle.gd_model.specs.declared.key.Key.TheVariants as k
use Rattle.gd_model.specs.declared.value.Value.{Value}
use Rattle.gd_model.specs.Whole.{key_value}
use Rattle.gd_holding.specs.Handles.{value_handle}
use Rattle.gd_holding.specs.Holding.{filled, kept, AreCounted}
use Rattle.counted_heap.specs.declared.thing.Thing.{Thing}
use Rattle.counted_heap.specs.Thing.{thing_places}
use Rattle.counted_heap.specs.Heap.{RisesFrom, serials}
use Rattle.counted_heap.proofs.Changes.{serials-with_count}
use Rattle.counted_heap.proofs.Holders.{held_kept}
use Rattle.rooted_heap.specs.Rooted.{RootedView, bare, handles, IsThere, AreHeld, CanHold, count_in}
use Rattle.rooted_heap.specs.Keeping.{named_key, kept_all, CanKeep}
use Rattle.rooted_heap.proofs.Counting.{holds, there_alive, bare-kept}
use Rattle.rooted_heap.proofs.Hand.{more_in_hand}
use Rattle.rooted_heap.proofs.Holding.{held_moved, held_more, count_below}
use Rattle.rooted_heap.proofs.There.{can_hold_held}

pub bare-kept_all : (xs : List Value) (es : List (Entry Thing)) → map bare (kept_all es xs) ≡ map bare es
bare-kept_all [] es = refl
bare-kept_all (x ∷ xs) es = bare-kept_all xs (kept es (value_handle x)) ∙ bare-kept es (value_handle x)

pub rises_kept : (es : List (Entry Thing)) (place : Option Handle) → RisesFrom 0 (serials es) → RisesFrom 0 (serials (kept es place))
rises_kept es None rises = rises
rises_kept es (Some h) rises = subst (λ (l : List ℕ). RisesFrom 0 l) (sym (serials-with_count (λ n. n + 1) es h)) rises

counted_kept : (es : List (Entry Thing)) (place : Option Handle) (hand : List Handle) → RisesFrom 0 (serials es) → All (λ (h : Handle). IsSome (find_at es h)) (option_to_list place) → AreCounted thing_places es hand → AreCounted thing_places (kept es place) (option_to_list place ++ hand)
counted_kept es None hand rises alive counted = counted
counted_kept es (Some h) hand rises alive counted = held_kept (λ (t : Thing). filled (thing_places t)) es h hand rises (All-head (λ (h : Handle). IsSome (find_at es h)) h [] alive) counted

-- one value is held once more
once_more : (es : List (Entry Thing)) (names : List (List ℕ)) (values : List Value) (x : Value) → RisesFrom 0 (serials es) → IsThere (map bare es) names x → AreHeld es names values → AreHeld (kept es (value_handle x)) names (x ∷ values)
once_more es names values x rises here held =
    held_more x (x ∷ values) (bare-kept es (value_handle x))
    (counted_kept es (value_handle x) (handles values) rises (there_alive es names x here) held.counted)
    (λ s. sum_by-cons (holds s) x values)
    (All-cons (IsThere (map bare es) names) x values here held.whole.outside)
    held

there_kept : (es : List (Entry Thing)) (place : Option Handle) (names : List (List ℕ)) (xs : List Value) → All (IsThere (map bare es) names) xs → All (IsThere (map bare (kept es place)) names) xs
there_kept es place names xs there = subst (λ (bs : List (Handle × Thing)). All (IsThere bs names) xs) (sym (bare-kept es place)) there

-- the values are held once more
pub kept_are_held : (xs : List Value) (es : List (Entry Thing)) (names : List (List ℕ)) (values : List Value) → RisesFrom 0 (serials es) → All (IsThere (map bare es) names) xs → AreHeld es names values → AreHeld (kept_all es xs) names (xs ++ values)
kept_are_held [] es names values rises there held = held
kept_are_held (x ∷ xs) es names values rises there held =
    let P = IsThere (map bare es) names in
    let es' = kept es (value_handle x) in
    let one = once_more es names values x rises (All-head P x xs there) held in
    let all = kept_are_held xs es' names (x ∷ values) (rises_kept es (value_handle x) rises) (there_kept es (value_handle x) names xs (All-tail P x xs there)) one in
    let front : All P ((x ∷ xs) ++ values) = All-append P (x ∷ xs) values there held.whole.outside in
    held_moved ((x ∷ xs) ++ values)
    (λ s. omega (arith, sum_by-append (holds s) (x ∷ xs) values, sum_by-cons (holds s) x xs, sum_by-append (holds s) xs (x ∷ values), sum_by-cons (holds s) x values))
    (subst (λ (bs : List (Handle × Thing)). All (IsThere bs names) ((x ∷ xs) ++ values)) (sym (bare-kept_all xs es' ∙ bare-kept es (value_handle x))) front)
    all

-- what is there and held can be held once more
pub can_keep : (xs : List Value) (es : List (Entry Thing)) (names : List (List ℕ)) (values : List Value) → RisesFrom 0 (serials es) → AreHeld es names values → length values + length xs < 2 ^ 66 → All (IsThere (map bare es) names) xs → All (λ (x : Value). (h : Handle) → value_handle x ≡ Some h → 0 < count_in (map bare es) values h.serial) xs → CanKeep es xs
can_keep [] es names values rises held few there some = tt
can_keep (x ∷ xs) es names values rises held few there some =
    let P = IsThere (map bare es) names in
    let es' = kept es (value_handle x) in
    let Q = λ (y : Value). (h : Handle) → value_handle y ≡ Some h → 0 < count_in (map bare es) values h.serial in
    let Q' = λ (y : Value). (h : Handle) → value_handle y ≡ Some h → 0 < count_in (map bare es') (x ∷ values) h.serial in
    let here = All-head P x xs there in (
      can_hold_held es names values x held.counted here (All-head Q x xs some),
      λ h _. λ n is. let short : n < 2 ^ 120 = count_below (omega (arith, few)) held h n is in omega arith,
      can_keep xs es' names (x ∷ values) (rises_kept es (value_handle x) rises)
          (once_more es names values x rises here held)
          (omega (arith, few))
          (there_kept es (value_handle x) names xs (All-tail P x xs there))
          (All-weaker Q Q' (λ y held' h is.
          subst (λ (bs : List (Handle × Thing)). 0 < count_in bs (x ∷ values) h.serial) (sym (bare-kept es (value_handle x)))
          (more_in_hand h.serial (map bare es) (x ∷ []) values (held' h is))) xs (All-tail Q x xs some)),
    )

-- a key may be held once more where what names its thing may be
pub key_can_hold : (now : RootedView) (key : Key) → CanHold now (named_key key) → CanHold now (key_value key)
key_can_hold now k.Nil can = record { there = refl; held = λ h is. absurd (cc) }
key_can_hold now (k.Bool b) can = record { there = refl; held = λ h is. absurd (cc) }
key_can_hold now (k.Int n) can = record { there = refl; held = λ h is. absurd (cc) }
key_can_hold now (k.Str t) can = record { there = refl; held = λ h is. absurd (cc) }
key_can_hold now (k.Object h) can = can
