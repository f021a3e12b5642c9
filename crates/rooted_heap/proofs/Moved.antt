-- Values in other places.
use Rattle.std.proofs.Common.{◌≡◌, ℕ, ◌+◌, ◌-◌, ◌<◌, ◌≤◌, List, [], ◌∷◌, ◌++◌, length, map, take, drop, get_or, swap, refl, sym, ap, ◌∙◌, subst, arith, append_assoc, length-append}
use Rattle.std.proofs.Math.ListN.{set}
use Rattle.std.proofs.Math.Seq.{take-set-lt, get_or-append_seam}
use Rattle.std.specs.List.{All}
use Rattle.std.specs.List.Sorted.{IsPermutation}
use Rattle.std.specs.Option.{option_to_list}
use Rattle.std.proofs.lemmas.List.{length-set, length-take-le, take_more, drop_more, take_all, drop_all, set_at, get_or-take}
use Rattle.std.proofs.lemmas.List.Edits.{swap_is}
use Rattle.std.proofs.lemmas.List.Elements.{All-cons, All-set}
use Rattle.std.proofs.lemmas.List.Sorted.{IsPermutation-swap, All-permutation, sum_by-IsPermutation, length_permutation}
use Rattle.std.proofs.lemmas.List.Sums.{sum_by-cons, sum_by-set}
use Rattle.slot_arena.specs.declared.handle.Handle.{Handle}
use Rattle.slot_arena.specs.Slots.{Entry}
use Rattle.gd_model.specs.declared.value.Value.{Value}
use Rattle.gd_model.specs.declared.value.Value.TheVariants as v
use Rattle.gd_holding.specs.Handles.{value_handle}
use Rattle.gd_holding.specs.Holding.{AreCounted}
use Rattle.counted_heap.specs.declared.thing.Thing.{Thing}
use Rattle.counted_heap.specs.Thing.{thing_places}
use Rattle.rooted_heap.specs.Rooted.{bare, handles, IsThere, AreHeld, IsSound}
use Rattle.rooted_heap.specs.Moving.{sunk}
use Rattle.rooted_heap.proofs.Counting.{holds}
use Rattle.rooted_heap.proofs.Holding.{held_moved, held_more, held_apart, held_less}
use Rattle.rooted_heap.proofs.Values.{there_at, count_is}

-- the first values change places as all do
pub take_swap : {X : Type 0} (n : ℕ) (xs : List X) (a b : ℕ) (d : X) → a < n → b < n → n ≤ length xs → take n (swap xs a b) ≡ swap (take n xs) a b
take_swap n xs a b d lt lt' le =
    let long : length (take n xs) ≡ n = length-take-le n xs le in
    sym (ap (take n) (swap_is xs a b d (omega arith) (omega arith)))
    ∙ take-set-lt n (set xs a (get_or xs b d)) b (get_or xs a d) lt'
    ∙ ap (λ l. set l b (get_or xs a d)) (take-set-lt n xs a (get_or xs b d) lt)
    ∙ ap (λ y. set (set (take n xs) a y) b (get_or xs a d)) (sym (get_or-take n xs b d lt'))
    ∙ ap (λ y. set (set (take n xs) a (get_or (take n xs) b d)) b y) (sym (get_or-take n xs a d lt))
    ∙ swap_is (take n xs) a b d (omega (arith, long)) (omega (arith, long))

pub length_swap : {X : Type 0} (xs : List X) (a b : ℕ) → a < length xs → b < length xs → length (swap xs a b) ≡ length xs
length_swap xs a b lt lt' = length_permutation xs (swap xs a b) (IsPermutation-swap xs (swap xs a b) a b lt lt' refl)

-- what a slice that is lent leaves of the slots
pub swapped_slots : {X : Type 0} (len : ℕ) (items read ys : List X) (i j : ℕ) → ys ≡ swap read i j → read ≡ items → length read ≡ len → length ys ≡ length read → take len (ys ++ drop (length ys) items) ≡ swap items i j
swapped_slots len items read ys i j after same long as_long =
    ap (λ l. take len (ys ++ l)) (drop_all (length ys) items (omega (arith, ap length same, as_long)))
    ∙ ap (take len) (append_nothing ys)
    ∙ take_all len ys (omega (arith, long, as_long))
    ∙ after
    ∙ ap (λ l. swap l i j) same
  where
    append_nothing : {X : Type 0} (xs : List X) → xs ++ [] ≡ xs
    append_nothing [] = refl
    append_nothing (x ∷ xs) = ap (λ l. x ∷ l) (append_nothing xs)

pub sound_swapped : {es : List (Entry Thing)} {names : List (List ℕ)} {slots : List Value} {top : ℕ} → IsSound es names slots top → (a b : ℕ) → a < top → b < top → IsSound es names (swap slots a b) top
sound_swapped {es} {names} {slots} {top} sound a b lt lt' =
    let P = IsThere (map bare es) names in
    let long = count_is sound in
    let vs = take top slots in
    let moved : IsPermutation vs (swap vs a b) = IsPermutation-swap vs (swap vs a b) a b (omega (arith, long)) (omega (arith, long)) refl in
    record {
      within = omega (arith, length_swap slots a b (omega (arith, sound.within)) (omega (arith, sound.within)), sound.within);
      held = subst (λ (l : List Value). AreHeld es names l) (sym (take_swap top slots a b v.Nil lt lt' sound.within))
          (held_moved (swap vs a b) (λ s. sum_by-IsPermutation (holds s) vs (swap vs a b) moved) (All-permutation P vs (swap vs a b) moved sound.held.whole.outside) sound.held);
    }

-- one place further down
passed : {X : Type 0} (front rest : List X) (y x : X) (n : ℕ) → length front ≡ n → swap ((front ++ y ∷ []) ++ x ∷ rest) (n + 1) n ≡ front ++ x ∷ y ∷ rest
passed front rest y x n is =
    let l = (front ++ y ∷ []) ++ x ∷ rest in
    let l' = front ++ y ∷ (x ∷ rest) in
    let same : l ≡ l' = append_assoc front (y ∷ []) (x ∷ rest) in
    let long : length (front ++ y ∷ []) ≡ n + 1 = omega (arith, length-append front (y ∷ []), is) in
    let all : length l ≡ n + 2 + length rest = omega (arith, length-append (front ++ y ∷ []) (x ∷ rest), long) in
    let low : get_or l n x ≡ y = ap (λ k. get_or k n x) same ∙ ap (λ k. get_or l' k x) (sym is) ∙ get_or-append_seam front y (x ∷ rest) x in
    let high : get_or l (n + 1) x ≡ x = ap (λ k. get_or l k x) (sym long) ∙ get_or-append_seam (front ++ y ∷ []) x rest x in
    sym (swap_is l (n + 1) n x (omega (arith, all)) (omega (arith, all)))
    ∙ ap (λ z. set (set l (n + 1) z) n (get_or l (n + 1) x)) low
    ∙ ap (λ z. set (set l (n + 1) y) n z) high
    ∙ ap (λ k. set k n x) (set_at (front ++ y ∷ []) x rest y (n + 1) long ∙ append_assoc front (y ∷ []) (y ∷ rest))
    ∙ set_at front y (y ∷ rest) x n is

pub sunk_more : (values : List Value) (j m : ℕ) → m + j + 2 ≡ length values → swap (sunk values j) (m + 1) m ≡ sunk values (j + 1)
sunk_more values j m is =
    let n = length values in
    let x = get_or values (n - 1) v.Nil in
    let before = take (n - 1) values in
    let y = get_or before m v.Nil in
    let long : length before ≡ n - 1 = length-take-le (n - 1) values (omega arith) in
    let lower : n - 1 - j ≡ m + 1 = omega (arith, is) in
    let lowest : n - 1 - (j + 1) ≡ m = omega (arith, is) in
    let in_front : y ≡ get_or values m v.Nil = get_or-take (n - 1) values m v.Nil (omega (arith, is)) in
    let front : take (m + 1) values ≡ take m values ++ y ∷ [] = take_more values m v.Nil (omega (arith, is)) ∙ ap (λ z. take m values ++ z ∷ []) (sym in_front) in
    ap (λ k. swap (take k values ++ x ∷ drop k before) (m + 1) m) lower
    ∙ ap (λ l. swap (l ++ x ∷ drop (m + 1) before) (m + 1) m) front
    ∙ passed (take m values) (drop (m + 1) before) y x m (length-take-le m values (omega (arith, is)))
    ∙ ap (λ l. take m values ++ x ∷ l) (sym (drop_more before m v.Nil (omega (arith, is, long))))
    ∙ ap (λ k. take k values ++ x ∷ drop k before) (sym lowest)

pub none_sunk : (values : List Value) → 0 < length values → values ≡ sunk values 0
none_sunk values some =
    let n = length values in
    let x = get_or values (n - 1) v.Nil in
    let at : n - 1 - 0 ≡ n - 1 = omega arith in
    let next : n - 1 + 1 ≡ n = omega arith in
    let whole : take n values ≡ values = take_all n values (omega arith) in
    let none : drop (n - 1) (take (n - 1) values) ≡ [] = drop_all (n - 1) (take (n - 1) values) (omega (arith, length-take-le (n - 1) values (omega arith))) in
    sym whole
    ∙ ap (λ k. take k values) (sym next)
    ∙ take_more values (n - 1) v.Nil (omega arith)
    ∙ ap (λ l. take (n - 1) values ++ x ∷ l) (sym none)
    ∙ ap (λ k. take k values ++ x ∷ drop k (take (n - 1) values)) (sym at)

-- a value that is held once more takes the place of another
module _ {es es' : List (Entry Thing)} {names : List (List ℕ)} {slots : List Value} {top : ℕ} (sound : IsSound es names slots top) (i : ℕ) (lt : i < top) (old y : Value) (is : old ≡ get_or slots i old) (there : IsThere (map bare es) names y) (same : map bare es' ≡ map bare es) (counted : AreCounted thing_places es' (option_to_list (value_handle y) ++ handles (take top slots))) where
  more_held : AreHeld es' names (y ∷ take top slots)
  more_held =
      held_more y (y ∷ take top slots) same counted
      (λ s. sum_by-cons (holds s) y (take top slots))
      (All-cons (IsThere (map bare es) names) y (take top slots) there sound.held.whole.outside)
      sound.held

  left_there : All (IsThere (map bare es') names) (set (take top slots) i y)
  left_there =
      subst (λ (bs : List (Handle × Thing)). All (IsThere bs names) (set (take top slots) i y)) (sym same)
      (All-set (IsThere (map bare es) names) (take top slots) i y there sound.held.whole.outside)

  pub given_apart : AreCounted thing_places es' (option_to_list (value_handle old) ++ handles (set (take top slots) i y))
  given_apart =
      let at = get_or-take top slots i old lt ∙ sym is in
      held_apart old (set (take top slots) i y)
      (λ s. omega (arith, sum_by-set (holds s) (take top slots) i y old (omega (arith, count_is sound)), ap (holds s) at, sum_by-cons (holds s) y (take top slots)))
      (subst (λ (bs : List (Handle × Thing)). IsThere bs names old) (sym same) (there_at sound i lt old is))
      left_there
      more_held

  pub sound_given : {es'' : List (Entry Thing)} → map bare es'' ≡ map bare es' → AreCounted thing_places es'' (handles (set (take top slots) i y)) → IsSound es'' names (set slots i y) top
  sound_given {es''} same' counted' =
      record {
        within = omega (arith, length-set slots i y, sound.within);
        held = subst (λ (l : List Value). AreHeld es'' names l) (sym (take-set-lt top slots i y lt))
            (held_less (set (take top slots) i y) same' counted' left_there more_held);
      }
