-- Pairs leave dictionaries.
use Rattle.std.proofs.Common.{◌≡◌, ℕ, ◌+◌, ◌^◌, ◌<◌, ◌≤◌, List, [], ◌∷◌, length, map, take, Option, Some, refl, sym, ap, subst, inl, inr, arith}
use Rattle.std.specs.Prelude.{sum_by}
use Rattle.std.specs.List.{All}
use Rattle.std.proofs.lemmas.Bool.{cond_both, cond-true, cond-false, cases_Bool}
use Rattle.std.proofs.lemmas.List.Elements.{All-nil, All-cons, All-head, All-tail}
use Rattle.slot_arena.specs.declared.handle.Handle.{Handle}
use Rattle.slot_arena.specs.Slots.{Entry, value_at, written_at}
use Rattle.gd_model.specs.declared.key.Key.{Key}
use Rattle.gd_model.specs.declared.value.Value.{Value}
use Rattle.gd_model.specs.Key.{one_key}
use Rattle.gd_model.specs.View.{pair_at, without_key}
use Rattle.gd_model.specs.Whole.{key_value, pair_values}
use Rattle.gd_holding.specs.Holding.{filled}
use Rattle.counted_heap.specs.declared.thing.Thing.{Thing}
use Rattle.counted_heap.specs.declared.thing.Thing.TheVariants.{Object, Array, Dict}
use Rattle.counted_heap.specs.Thing.{thing_places, thing_pairs}
use Rattle.counted_heap.specs.Heap.{RisesFrom, serials}
use Rattle.rooted_heap.specs.Rooted.{bare, IsThere, IsSound}
use Rattle.rooted_heap.specs.Keeping.{given_all, CanGive}
use Rattle.rooted_heap.specs.Pairs.{without_entry, pair_in, emptied, lying}
use Rattle.rooted_heap.proofs.Changed.{Turns, Changing, gone_can_give, sound_changed}
use Rattle.rooted_heap.proofs.Counting.{holds}
use Rattle.rooted_heap.proofs.Filled.{CanFill}
use Rattle.rooted_heap.proofs.Puts.{two_sum, pair_sum, few_pairs}
use Rattle.rooted_heap.proofs.There.{all_bare}
use Rattle.rooted_heap.proofs.Written.{SameKind, value_has}

erase_sum : (f : Value → ℕ) (pairs : List (Key × Value)) (k : Key) → sum_by f (pair_values (without_key pairs k)) + sum_by f (lying (pair_at pairs k)) ≡ sum_by f (pair_values pairs)
erase_sum f [] k = omega arith
erase_sum f (e ∷ es) k =
    elim (cases_Bool (one_key k e.0)) [
      | inl here ↦
          let new = ap (λ (l : List (Key × Value)). sum_by f (pair_values l)) (cond-true (one_key k e.0) es (e ∷ without_key es k) here) in
          let old = ap (λ (o : Option (Key × Value)). sum_by f (lying o)) (cond-true (one_key k e.0) (Some e) (pair_at es k) here) in
          omega (arith, new, old, pair_sum f e es, two_sum f (key_value e.0) e.1)
      | inr other ↦
          let new = ap (λ (l : List (Key × Value)). sum_by f (pair_values l)) (cond-false (one_key k e.0) es (e ∷ without_key es k) other) in
          let old = ap (λ (o : Option (Key × Value)). sum_by f (lying o)) (cond-false (one_key k e.0) (Some e) (pair_at es k) other) in
          omega (arith, new, old, pair_sum f e (without_key es k), pair_sum f e es, erase_sum f es k)
    ]

erase_all : (P : Value → Type 0) (pairs : List (Key × Value)) (k : Key) → All P (pair_values pairs) → All P (pair_values (without_key pairs k))
erase_all P [] k all = All-nil P
erase_all P (e ∷ es) k all =
    let first = All-head P (key_value e.0) (e.1 ∷ pair_values es) all in
    let rest = All-tail P (key_value e.0) (e.1 ∷ pair_values es) all in
    let later = All-tail P e.1 (pair_values es) rest in
    cond_both (one_key k e.0) es (e ∷ without_key es k) (λ (l : List (Key × Value)). All P (pair_values l))
    (λ _. later)
    (λ _. All-cons P (key_value e.0) (e.1 ∷ pair_values (without_key es k)) first
    (All-cons P e.1 (pair_values (without_key es k)) (All-head P e.1 (pair_values es) rest) (erase_all P es k later)))

lying_all : (P : Value → Type 0) (pairs : List (Key × Value)) (k : Key) → All P (pair_values pairs) → All P (lying (pair_at pairs k))
lying_all P [] k all = All-nil P
lying_all P (e ∷ es) k all =
    let first = All-head P (key_value e.0) (e.1 ∷ pair_values es) all in
    let rest = All-tail P (key_value e.0) (e.1 ∷ pair_values es) all in
    cond_both (one_key k e.0) (Some e) (pair_at es k) (λ (o : Option (Key × Value)). All P (lying o))
    (λ _. All-cons P (key_value e.0) (e.1 ∷ []) first (All-cons P e.1 [] (All-head P e.1 (pair_values es) rest) (All-nil P)))
    (λ _. lying_all P es k (All-tail P e.1 (pair_values es) rest))

same_kinds : (t : Thing) → SameKind t t
same_kinds t = record { class = refl; array = refl; dict = refl }

-- nothing leaves a thing that is as it was
nothing_turns : (P : Value → Type 0) (t : Thing) → length (filled (thing_places t)) ≤ 2 ^ 66 → Turns P t t [] [] []
nothing_turns P t small = record {
  kind = same_kinds t;
  sums = λ s. omega arith;
  inside = λ all _. all;
  outside = λ _ _. All-nil P;
  left = λ _ _. All-nil P;
  small = small;
}

turns_without : (P : Value → Type 0) (was : Thing) (key : Key) → length (thing_pairs (without_entry key was)) ≤ 16777216 → length (filled (thing_places was)) ≤ 2 ^ 66 → Turns P was (without_entry key was) [] (lying (pair_in key was)) []
turns_without P (Object class values) key few small = nothing_turns P (Object class values) small
turns_without P (Array a) key few small = nothing_turns P (Array a) small
turns_without P (Dict d) key few small = record {
  kind = record { class = refl; array = refl; dict = refl };
  sums = λ s. omega (arith, erase_sum (holds s) d.pairs key);
  inside = λ all _. erase_all P d.pairs key all;
  outside = λ all _. lying_all P d.pairs key all;
  left = λ _ _. All-nil P;
  small = few_pairs (Dict (record d { pairs = without_key d.pairs key })) tt few;
}

turns_emptied : (P : Value → Type 0) (was : Thing) → length (filled (thing_places was)) ≤ 2 ^ 66 → Turns P was (emptied was) [] (pair_values (thing_pairs was)) []
turns_emptied P (Object class values) small = nothing_turns P (Object class values) small
turns_emptied P (Array a) small = nothing_turns P (Array a) small
turns_emptied P (Dict d) small = record {
  kind = record { class = refl; array = refl; dict = refl };
  sums = λ s. omega arith;
  inside = λ _ _. All-nil P;
  outside = λ all _. all;
  left = λ _ _. All-nil P;
  small = omega arith;
}

no_fill : (es : List (Entry Thing)) (names : List (List ℕ)) (values : List Value) → CanFill es names values []
no_fill es names values = record { there = All-nil (IsThere (map bare es) names); some = λ k d lt. absurd (omega (arith, lt)); few = omega arith }

module _ (es : List (Entry Thing)) (names : List (List ℕ)) (slots : List Value) (top : ℕ) (sound : IsSound es names slots top) (short : top < 2 ^ 64) (rises : RisesFrom 0 (serials es)) (h : Handle) (was new : Thing) (found : value_at es h ≡ Some was) (gone : List Value) where
  changing : Changing es names slots top h was []
  changing = record { sound = sound; short = short; rises = rises; found = found; can = no_fill es names (take top slots) }

  module _ (turns : Turns (IsThere (map bare es) names) was new [] gone []) where
    pub can_take : CanGive (written_at es h new) gone
    can_take = gone_can_give changing new gone [] turns

    pub sound_taken_out : (after : List (Entry Thing)) → after ≡ given_all (written_at es h new) gone → IsSound after names slots top
    sound_taken_out after is = subst (λ (l : List (Entry Thing)). IsSound l names slots top) (sym is) (sound_changed changing new gone [] turns refl)

pub erased_turns : (P : Value → Type 0) (was new : Thing) (key : Key) (pair : Option (Key × Value)) → new ≡ without_entry key was → pair ≡ pair_in key was → length (thing_pairs new) ≤ 16777216 → length (filled (thing_places was)) ≤ 2 ^ 66 → Turns P was new [] (lying pair) []
erased_turns P was new key pair is pair_is few small =
    subst (λ (t : Thing). Turns P was t [] (lying pair) []) (sym is)
    (subst (λ (o : Option (Key × Value)). Turns P was (without_entry key was) [] (lying o) []) (sym pair_is)
    (turns_without P was key (subst (λ (t : Thing). length (thing_pairs t) ≤ 16777216) is few) small))

pub emptied_turns : (P : Value → Type 0) (was new : Thing) (pairs : List (Key × Value)) → new ≡ emptied was → pairs ≡ thing_pairs was → length (filled (thing_places was)) ≤ 2 ^ 66 → Turns P was new [] (pair_values pairs) []
emptied_turns P was new pairs is pairs_are small =
    subst (λ (t : Thing). Turns P was t [] (pair_values pairs) []) (sym is)
    (subst (λ (l : List (Key × Value)). Turns P was (emptied was) [] (pair_values l) []) (sym pairs_are) (turns_emptied P was small))

pub small_here : {es : List (Entry Thing)} {names : List (List ℕ)} {slots : List Value} {top : ℕ} → IsSound es names slots top → (h : Handle) (t : Thing) → value_at es h ≡ Some t → length (filled (thing_places t)) ≤ 2 ^ 66
small_here {es} {names} {slots} {top} sound h t found =
    value_has (λ (x : Thing). length (filled (thing_places x)) ≤ 2 ^ 66) es h t (all_bare (λ (x : Handle × Thing). length (filled (thing_places x.1)) ≤ 2 ^ 66) es sound.held.whole.small) found
