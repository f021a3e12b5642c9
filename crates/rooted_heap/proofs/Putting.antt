-- Pairs come into dictionaries and leave them.
use Rattle.std.proofs.Common.{◌≡◌, ℕ, ◌+◌, ◌^◌, ◌<◌, ◌≤◌, true, List, [], ◌∷◌, length, map, get_or, Option, Some, None, is_some, unwrap_or, refl, sym, ap, ◌∙◌, subst, arith}
use Rattle.std.specs.Prelude.{sum_by, option_map}
use Rattle.std.specs.List.{All}
use Rattle.std.specs.Option.{ForSome}
use Rattle.std.proofs.lemmas.List.Elements.{All-nil, All-cons, All-head, All-tail}
use Rattle.std.proofs.lemmas.List.Sums.{sum_by-cons}
use Rattle.slot_arena.specs.declared.handle.Handle.{Handle}
use Rattle.slot_arena.specs.Slots.{Entry, value_at}
use Rattle.gd_model.specs.declared.key.Key.{Key}
use Rattle.gd_model.specs.declared.value.Value.{Value}
use Rattle.gd_model.specs.declared.value.Value.TheVariants as v
use Rattle.gd_model.specs.View.{dict_in}
use Rattle.gd_model.specs.Whole.{key_value}
use Rattle.gd_holding.specs.Handles.{value_handle}
use Rattle.gd_holding.specs.Holding.{filled, kept, dropped, IsHeld}
use Rattle.counted_heap.specs.declared.thing.Thing.{Thing}
use Rattle.counted_heap.specs.declared.thing.Thing.TheVariants.{Object, Array, Dict}
use Rattle.counted_heap.specs.Thing.{thing_places, thing_pairs}
use Rattle.counted_heap.specs.Heap.{RisesFrom, serials}
use Rattle.rooted_heap.specs.Rooted.{bare, contents, thing_view, IsThere, IsSound}
use Rattle.rooted_heap.specs.Reading.{dict_handle}
use Rattle.rooted_heap.specs.Keeping.{kept_all, given_all, CanGive}
use Rattle.rooted_heap.specs.Entries.{IsDict, PutsInto, again}
use Rattle.rooted_heap.proofs.Changed.{Turns}
use Rattle.rooted_heap.proofs.Counting.{holds}
use Rattle.rooted_heap.proofs.Puts.{returned, two_sum, entry_sum, entry_all, few_pairs, still_dict, same_kind}
use Rattle.rooted_heap.proofs.Seen.{seen_is}
use Rattle.rooted_heap.proofs.Values.{there_at}
use Rattle.rooted_heap.proofs.Written.{SameKind}

-- a dictionary stands behind the handle of a dictionary
pub is_dict : (es : List (Entry Thing)) (names : List (List ℕ)) (h : Handle) (t : Thing) → RisesFrom 0 (serials es) → IsThere (map bare es) names (v.Dict h) → value_at es h ≡ Some t → IsDict t
is_dict es names h t rises there found =
    of_thing t (sym (ap (λ o. is_some (dict_in o)) (seen_is es h rises ∙ ap (option_map thing_view) found)) ∙ there)
  where
    of_thing : (t : Thing) → is_some (dict_in (Some (thing_view t))) ≡ true → IsDict t
    of_thing (Object class values) is = absurd (cc)
    of_thing (Array a) is = absurd (cc)
    of_thing (Dict d) is = tt

-- where nothing has changed, what was brought goes back
pub same_turns : (P : Value → Type 0) (was now : Thing) (brought gone : List Value) → now ≡ was → ((s : ℕ) → sum_by (holds s) gone ≡ sum_by (holds s) brought) → (All P brought → All P gone) → length (filled (thing_places was)) ≤ 2 ^ 66 → Turns P was now brought gone []
same_turns P was now brought gone same sums all small = record {
  kind = subst (λ (t : Thing). SameKind was t) (sym same) (record { class = refl; array = refl; dict = refl });
  sums = λ s. omega (arith, ap (λ (t : Thing). sum_by (holds s) (contents t)) same, sums s);
  inside = λ was_all _. subst (λ (t : Thing). All P (contents t)) (sym same) was_all;
  outside = λ _ brought_all. all brought_all;
  left = λ _ _. All-nil P;
  small = subst (λ (t : Thing). length (filled (thing_places t)) ≤ 2 ^ 66) (sym same) small;
}

-- what comes back is the value that was there, or nothing, and the key with it
split_back : (s : ℕ) (old : Option Value) (key : Key) → sum_by (holds s) (again (key_value key) old) + sum_by (holds s) (unwrap_or old v.Nil ∷ []) ≡ sum_by (holds s) (returned old key)
split_back s None key = omega (arith, sum_by-cons (holds s) v.Nil [])
split_back s (Some old) key = omega (arith, sum_by-cons (holds s) old [], sum_by-cons (holds s) (key_value key) [], two_sum (holds s) old (key_value key))

again_all : (P : Value → Type 0) (old : Option Value) (x : Value) → P x → All P (again x old)
again_all P None x here = All-nil P
again_all P (Some old) x here = All-cons P x [] here (All-nil P)

rest_all : (P : Value → Type 0) (old : Option Value) (key : Key) → P v.Nil → All P (returned old key) → All P (unwrap_or old v.Nil ∷ [])
rest_all P None key nil all = All-cons P v.Nil [] nil (All-nil P)
rest_all P (Some old) key nil all = All-cons P old [] (All-head P old (key_value key ∷ []) all) (All-nil P)

pub put_turns : (P : Value → Type 0) (was now : Thing) (key : Key) (x : Value) (old : Option Value) → P v.Nil → IsDict was → PutsInto was key x now old → length (thing_pairs now) ≤ 16777216 → Turns P was now (key_value key ∷ x ∷ []) (again (key_value key) old) (unwrap_or old v.Nil ∷ [])
put_turns P was now key x old nil dict puts few = record {
  kind = subst (λ (t : Thing). SameKind was t) (sym puts.now_is) (same_kind was key x);
  sums = λ s. omega (
    arith,
    entry_sum (holds s) was key x dict,
    ap (λ (t : Thing). sum_by (holds s) (contents t)) puts.now_is,
    ap (λ (o : Option Value). sum_by (holds s) (returned o key)) puts.old_is,
    split_back s old key,
    two_sum (holds s) (key_value key) x,
  );
  inside = λ all both. subst (λ (t : Thing). All P (contents t)) (sym puts.now_is) (entry_all P was key x dict all (All-head P (key_value key) (x ∷ []) both) (All-head P x [] (All-tail P (key_value key) (x ∷ []) both))).0;
  outside = λ all both. again_all P old (key_value key) (All-head P (key_value key) (x ∷ []) both);
  left = λ all both. rest_all P old key nil (subst (λ (o : Option Value). All P (returned o key)) (sym puts.old_is) (entry_all P was key x dict all (All-head P (key_value key) (x ∷ []) both) (All-head P x [] (All-tail P (key_value key) (x ∷ []) both))).1);
  small = few_pairs now (subst IsDict (sym puts.now_is) (still_dict was key x dict)) few;
}

-- what was brought, in the other order
pub failed_turns : (P : Value → Type 0) (was now : Thing) (key : Key) (x : Value) → now ≡ was → length (filled (thing_places was)) ≤ 2 ^ 66 → Turns P was now (key_value key ∷ x ∷ []) (x ∷ key_value key ∷ []) []
failed_turns P was now key x same small =
    same_turns P was now (key_value key ∷ x ∷ []) (x ∷ key_value key ∷ []) same
    (λ s. omega (arith, two_sum (holds s) (key_value key) x, two_sum (holds s) x (key_value key)))
    (λ both. All-cons P x (key_value key ∷ []) (All-head P x [] (All-tail P (key_value key) (x ∷ []) both)) (All-cons P (key_value key) [] (All-head P (key_value key) (x ∷ []) both) (All-nil P)))
    small

-- what names a key names the same thing
pub same_key_kept : (es : List (Entry Thing)) (key x : Value) (named plain : Value) → value_handle named ≡ value_handle key → value_handle plain ≡ value_handle x → kept (kept es (value_handle named)) (value_handle plain) ≡ kept_all es (key ∷ x ∷ [])
same_key_kept es key x named plain e f = ap (λ (o : Option Handle). kept (kept es o) (value_handle plain)) e ∙ ap (λ (o : Option Handle). kept (kept es (value_handle key)) o) f

pub again_given : (es : List (Entry Thing)) (key named : Value) (old : Option Value) → value_handle named ≡ value_handle key → given_all es (again named old) ≡ given_all es (again key old)
again_given es key named None e = refl
again_given es key named (Some old) e = ap (λ (o : Option Handle). dropped es o) e

pub again_can_give : (es : List (Entry Thing)) (key named : Value) (old : Option Value) → value_handle named ≡ value_handle key → CanGive es (again key old) → CanGive es (again named old)
again_can_give es key named None e can = tt
again_can_give es key named (Some old) e can = (subst (λ (o : Option Handle). ForSome o (λ h. IsHeld es h)) (sym e) can.0, tt)

-- a value with the handle of a dictionary is that dictionary
dict_is : (x : Value) (h : Handle) → dict_handle x ≡ Some h → x ≡ v.Dict h
dict_is v.Nil h is = absurd (cc)
dict_is (v.Bool b) h is = absurd (cc)
dict_is (v.Int n) h is = absurd (cc)
dict_is (v.Str t) h is = absurd (cc)
dict_is (v.Object k) h is = absurd (cc)
dict_is (v.Array k) h is = absurd (cc)
dict_is (v.Dict k) h is = cc
dict_is (v.Callable t) h is = absurd (cc)
dict_is (v.Signal s) h is = absurd (cc)

pub dict_there : {es : List (Entry Thing)} {names : List (List ℕ)} {slots : List Value} {top : ℕ} → IsSound es names slots top → RisesFrom 0 (serials es) → (i : ℕ) → i < top → (x : Value) → x ≡ get_or slots i x → (h : Handle) → dict_handle x ≡ Some h → (t : Thing) → value_at es h ≡ Some t → IsDict t
dict_there {es} {names} {slots} {top} sound rises i lt x is h named t found =
    is_dict es names h t rises (subst (IsThere (map bare es) names) (dict_is x h named) (there_at sound i lt x is)) found
