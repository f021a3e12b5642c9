-- A dictionary gets a value at a key.
use Rattle.std.proofs.Common.{◌≡◌, ℕ, ◌+◌, ◌*◌, ◌^◌, ◌≤◌, List, [], ◌∷◌, ◌++◌, length, map, Option, Some, None, refl, sym, ap, ◌∙◌, subst, inl, inr, arith}
use Rattle.std.specs.Prelude.{sum_by}
use Rattle.std.specs.List.{All}
use Rattle.std.proofs.lemmas.Bool.{cond_both, cond-true, cond-false, cases_Bool}
use Rattle.std.proofs.lemmas.List.Elements.{All-nil, All-cons, All-head, All-tail, All-append}
use Rattle.std.proofs.lemmas.List.Sums.{sum_by-cons, sum_by-append}
use Rattle.slot_arena.specs.declared.handle.Handle.{Handle}
use Rattle.slot_arena.specs.Slots.{Entry, value_at, written_at}
use Rattle.gd_model.specs.declared.key.Key.{Key}
use Rattle.gd_model.specs.declared.value.Value.{Value}
use Rattle.gd_model.specs.Key.{one_key}
use Rattle.gd_model.specs.View.{with_pair, value_at as pair_value}
use Rattle.gd_model.specs.Whole.{key_value, pair_values}
use Rattle.gd_holding.specs.Holding.{filled}
use Rattle.counted_heap.specs.declared.thing.Thing.{Thing}
use Rattle.counted_heap.specs.declared.thing.Thing.TheVariants.{Object, Array, Dict}
use Rattle.counted_heap.specs.Thing.{thing_places, thing_pairs}
use Rattle.counted_heap.specs.Heap.{RisesFrom, serials}
use Rattle.rooted_heap.specs.Rooted.{bare, contents, IsThere, AreHeld}
use Rattle.rooted_heap.specs.Entries.{IsDict, with_entry, entry_of, PutsInto}
use Rattle.rooted_heap.proofs.Counting.{holds, length-handles}
use Rattle.rooted_heap.proofs.There.{filled-contents, all_bare}
use Rattle.rooted_heap.proofs.Written.{SameKind, held_written, value_has}

-- what comes back to the hand: the old value, and the key that was brought once more
abbrev pub returned : Option Value → Key → List Value
returned None k = []
returned (Some old) k = old ∷ key_value k ∷ []

-- pairs are counted by their keys and values
pub pair_sum : (f : Value → ℕ) (p : Key × Value) (ps : List (Key × Value)) → sum_by f (pair_values (p ∷ ps)) ≡ f (key_value p.0) + (f p.1 + sum_by f (pair_values ps))
pair_sum f p ps = sum_by-cons f (key_value p.0) (p.1 ∷ pair_values ps) ∙ ap (λ n. f (key_value p.0) + n) (sum_by-cons f p.1 (pair_values ps))

pub two_sum : (f : Value → ℕ) (x y : Value) → sum_by f (x ∷ y ∷ []) ≡ f x + f y
two_sum f x y = omega (arith, sum_by-cons f x (y ∷ []), sum_by-cons f y [])

put_sum : (f : Value → ℕ) (pairs : List (Key × Value)) (k : Key) (x : Value) → sum_by f (pair_values (with_pair pairs k x)) + sum_by f (returned (pair_value pairs k) k) ≡ sum_by f (pair_values pairs) + (f (key_value k) + f x)
put_sum f [] k x = omega (arith, pair_sum f (k, x) [])
put_sum f (e ∷ es) k x =
    elim (cases_Bool (one_key k e.0)) [
      | inl here ↦
          let new = ap (λ (l : List (Key × Value)). sum_by f (pair_values l)) (cond-true (one_key k e.0) ((e.0, x) ∷ es) (e ∷ with_pair es k x) here) in
          let old = ap (λ (o : Option Value). sum_by f (returned o k)) (cond-true (one_key k e.0) (Some e.1) (pair_value es k) here) in
          omega (arith, new, old, pair_sum f (e.0, x) es, pair_sum f e es, two_sum f e.1 (key_value k))
      | inr other ↦
          let new = ap (λ (l : List (Key × Value)). sum_by f (pair_values l)) (cond-false (one_key k e.0) ((e.0, x) ∷ es) (e ∷ with_pair es k x) other) in
          let old = ap (λ (o : Option Value). sum_by f (returned o k)) (cond-false (one_key k e.0) (Some e.1) (pair_value es k) other) in
          omega (arith, new, old, pair_sum f e (with_pair es k x), pair_sum f e es, put_sum f es k x)
    ]

put_all : (P : Value → Type 0) (pairs : List (Key × Value)) (k : Key) (x : Value) → All P (pair_values pairs) → P (key_value k) → P x → All P (pair_values (with_pair pairs k x))
put_all P [] k x all key here = All-cons P (key_value k) (x ∷ []) key (All-cons P x [] here (All-nil P))
put_all P (e ∷ es) k x all key here =
    let first = All-head P (key_value e.0) (e.1 ∷ pair_values es) all in
    let rest = All-tail P (key_value e.0) (e.1 ∷ pair_values es) all in
    cond_both (one_key k e.0) ((e.0, x) ∷ es) (e ∷ with_pair es k x) (λ (l : List (Key × Value)). All P (pair_values l))
    (λ _. All-cons P (key_value e.0) (x ∷ pair_values es) first (All-cons P x (pair_values es) here (All-tail P e.1 (pair_values es) rest)))
    (λ _. All-cons P (key_value e.0) (e.1 ∷ pair_values (with_pair es k x)) first
    (All-cons P e.1 (pair_values (with_pair es k x)) (All-head P e.1 (pair_values es) rest) (put_all P es k x (All-tail P e.1 (pair_values es) rest) key here)))

old_has : (P : Value → Type 0) (pairs : List (Key × Value)) (k : Key) → All P (pair_values pairs) → P (key_value k) → All P (returned (pair_value pairs k) k)
old_has P [] k all key = All-nil P
old_has P (e ∷ es) k all key =
    let rest = All-tail P (key_value e.0) (e.1 ∷ pair_values es) all in
    cond_both (one_key k e.0) (Some e.1) (pair_value es k) (λ (o : Option Value). All P (returned o k))
    (λ _. All-cons P e.1 (key_value k ∷ []) (All-head P e.1 (pair_values es) rest) (All-cons P (key_value k) [] key (All-nil P)))
    (λ _. old_has P es k (All-tail P e.1 (pair_values es) rest) key)

pub length_pair_values : (pairs : List (Key × Value)) → length (pair_values pairs) ≡ 2 * length pairs
length_pair_values [] = refl
length_pair_values (p ∷ ps) = omega (arith, length_pair_values ps)

pub few_pairs : (t : Thing) → IsDict t → length (thing_pairs t) ≤ 16777216 → length (filled (thing_places t)) ≤ 2 ^ 66
few_pairs (Object class values) dict few = absurd dict
few_pairs (Array a) dict few = absurd dict
few_pairs (Dict d) dict few = omega (arith, ap length (filled-contents (Dict d)), length-handles (pair_values d.pairs), length_pair_values d.pairs, few)

pub entry_sum : (f : Value → ℕ) (t : Thing) (k : Key) (x : Value) → IsDict t → sum_by f (contents (with_entry t k x)) + sum_by f (returned (entry_of t k) k) ≡ sum_by f (contents t) + (f (key_value k) + f x)
entry_sum f (Object class values) k x dict = absurd dict
entry_sum f (Array a) k x dict = absurd dict
entry_sum f (Dict d) k x dict = put_sum f d.pairs k x

pub entry_all : (P : Value → Type 0) (t : Thing) (k : Key) (x : Value) → IsDict t → All P (contents t) → P (key_value k) → P x → All P (contents (with_entry t k x)) × All P (returned (entry_of t k) k)
entry_all P (Object class values) k x dict all key here = absurd dict
entry_all P (Array a) k x dict all key here = absurd dict
entry_all P (Dict d) k x dict all key here = (put_all P d.pairs k x all key here, old_has P d.pairs k all key)

pub still_dict : (t : Thing) (k : Key) (x : Value) → IsDict t → IsDict (with_entry t k x)
still_dict (Object class values) k x dict = dict
still_dict (Array a) k x dict = dict
still_dict (Dict d) k x dict = tt

pub same_kind : (t : Thing) (k : Key) (x : Value) → SameKind t (with_entry t k x)
same_kind (Object class values) k x = record { class = refl; array = refl; dict = refl }
same_kind (Array a) k x = record { class = refl; array = refl; dict = refl }
same_kind (Dict d) k x = record { class = refl; array = refl; dict = refl }

-- the pair passes from the hand into the dictionary
pub held_put : (es : List (Entry Thing)) (names : List (List ℕ)) (values : List Value) (h : Handle) (was now : Thing) (key : Key) (x : Value) (old : Option Value) → AreHeld es names (x ∷ key_value key ∷ values) → RisesFrom 0 (serials es) → RisesFrom 0 (serials (written_at es h now)) → value_at es h ≡ Some was → IsDict was → PutsInto was key x now old → length (thing_pairs now) ≤ 16777216 → AreHeld (written_at es h now) names (returned old key ++ values)
held_put es names values h was now key x old held rises rises' found dict puts few =
    let P = IsThere (map bare es) names in
    let inside = value_has (λ (t : Thing). All P (contents t)) es h was (all_bare (λ (t : Handle × Thing). All P (contents t.1)) es held.whole.inside) found in
    let hand = held.whole.outside in
    let here = All-head P x (key_value key ∷ values) hand in
    let rest = All-tail P x (key_value key ∷ values) hand in
    let all = entry_all P was key x dict inside (All-head P (key_value key) values rest) here in
    let back : All P (returned old key ++ values) =
    All-append P (returned old key) values (subst (λ (o : Option Value). All P (returned o key)) (sym puts.old_is) all.1) (All-tail P (key_value key) values rest) in
    held_written es h was now rises rises' found (subst (λ (t : Thing). SameKind was t) (sym puts.now_is) (same_kind was key x)) names (x ∷ key_value key ∷ values) (returned old key ++ values) held
    (λ s. omega (
      arith,
      entry_sum (holds s) was key x dict,
      ap (λ (t : Thing). sum_by (holds s) (contents t)) puts.now_is,
      ap (λ (o : Option Value). sum_by (holds s) (returned o key)) puts.old_is,
      sum_by-append (holds s) (returned old key) values,
      sum_by-cons (holds s) x (key_value key ∷ values),
      sum_by-cons (holds s) (key_value key) values,
    ))
    (subst (λ (t : Thing). All P (contents t)) (sym puts.now_is) all.0)
    back
    (few_pairs now (subst IsDict (sym puts.now_is) (still_dict was key x dict)) few)
