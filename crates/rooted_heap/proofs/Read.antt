-- What is read from things.
use Rattle.std.proofs.Common.{Bor, ◌≡◌, ℕ, ◌+◌, ◌<◌, Bool, eqb, List, [], ◌∷◌, ◌++◌, length, map, take, get_or, Option, Some, None, IsSome, is_some, slice_get, option_map, option_and_then, refl, sym, ap, ◌∙◌, subst, inl, inr, arith, append_assoc, Contains, zero, suc}
use Rattle.std.specs.Prelude.{unwrap_or}
use Rattle.std.specs.List.{All}
use Rattle.std.specs.Map.{lookup}
use Rattle.std.specs.Option.{option_to_list, option_copied, ForSome}
use Rattle.std.proofs.lemmas.Bool.{cond_both}
use Rattle.std.proofs.lemmas.List.{length-map, take_more, take_all, get_or_append_left}
use Rattle.std.proofs.lemmas.List.Elements.{All-head, All-contains, Contains-get_or}
use Rattle.std.proofs.lemmas.Option.{slice_get_cases, slice_get-map, slice_get-get_or}
use Rattle.slot_arena.specs.declared.handle.Handle.{Handle}
use Rattle.slot_arena.specs.Slots.{Entry, find_at, value_at}
use Rattle.gd_model.specs.declared.key.Key.{Key}
use Rattle.gd_model.specs.declared.value.Value.{Value}
use Rattle.gd_model.specs.declared.value.Value.TheVariants as v
use Rattle.gd_model.specs.Key.{one_key}
use Rattle.gd_model.specs.View.{ThingView, ArrayView, DictView, array_in, dict_in}
use Rattle.gd_model.specs.Whole.{key_value, pair_values, AllWhole}
use Rattle.gd_holding.specs.Handles.{value_handle}
use Rattle.gd_holding.specs.Rounds.{HeapView}
use Rattle.counted_heap.specs.declared.thing.Thing.{Thing}
use Rattle.counted_heap.specs.declared.thing.Thing.TheVariants.{Object, Array, Dict}
use Rattle.counted_heap.specs.Heap.{RisesFrom, serials}
use Rattle.counted_heap.proofs.GiveUp.{found_Contains}
use Rattle.rooted_heap.specs.Rooted.{RootedView, bare, thing_at, thing_view, seen, names_of, contents, IsThere, AreHeld, IsSound, CanHold}
use Rattle.rooted_heap.specs.Reading.{object_handle, array_handle, dict_handle, variable_in, element_in, entry_in, key_in, keys_in, keys_at, read_at, with_found}
use Rattle.rooted_heap.proofs.Counting.{there_alive, held_in-bare}
use Rattle.rooted_heap.proofs.Seen.{thing_is_value}
use Rattle.rooted_heap.proofs.There.{held_inside, all_bare}
use Rattle.rooted_heap.proofs.Values.{view_of, there_at}
use Rattle.rooted_heap.proofs.Wholes.{all_whole}
use Rattle.rooted_heap.proofs.Written.{entry_of, value_has}

-- the handle of an object, an array or a dictionary is that of the value
pub object_named : (x : Value) (h : Handle) → object_handle x ≡ Some h → value_handle x ≡ Some h
object_named (v.Object k) h is = is
object_named _ h is = absurd (cc)

pub array_named : (x : Value) (h : Handle) → array_handle x ≡ Some h → value_handle x ≡ Some h
array_named (v.Array k) h is = is
array_named _ h is = absurd (cc)

pub dict_named : (x : Value) (h : Handle) → dict_handle x ≡ Some h → value_handle x ≡ Some h
dict_named (v.Dict k) h is = is
dict_named _ h is = absurd (cc)

-- what a value names is alive
pub alive_at : {es : List (Entry Thing)} {names : List (List ℕ)} {slots : List Value} {top : ℕ} → IsSound es names slots top → (i : ℕ) → i < top → (x : Value) → x ≡ get_or slots i x → (h : Handle) → value_handle x ≡ Some h → IsSome (find_at es h)
alive_at {es} {names} {slots} {top} sound i lt x is h named =
    All-head (λ (y : Handle). IsSome (find_at es y)) h []
    (subst (λ (o : Option Handle). All (λ (y : Handle). IsSome (find_at es y)) (option_to_list o)) named (there_alive es names x (there_at sound i lt x is)))

-- what lies in a thing may be held once more
pub can_hold_inside : (heap : HeapView Thing) (names : List (List ℕ)) (slots : List Value) (top : ℕ) → AreHeld heap.things names (take top slots) → (h : Handle) (t : Thing) → value_at heap.things h ≡ Some t → (x : Value) → Contains (contents t) x → CanHold (view_of heap names slots top) x
can_hold_inside heap names slots top held h t found x inside =
    let es = heap.things in
    let P = IsThere (map bare es) names in
    let all = value_has (λ (t : Thing). All P (contents t)) es h t (all_bare (λ (t : Handle × Thing). All P (contents t.1)) es held.whole.inside) found in
    let e = entry_of (find_at es h) t found in
    record {
      there = All-contains P (contents t) x all inside;
      held = λ k named.
          let some = held_inside es e.0 x k (found_Contains h es e.0 e.1).0 (subst (λ (t : Thing). Contains (contents t) x) (sym e.2) inside) named in
          omega (arith, some, held_in-bare es k.serial);
    }

-- what is read lies there
from_place : {X : Type 0} (xs : List X) (k : ℕ) (x : X) → slice_get xs k ≡ Some x → Contains xs x
from_place xs k x is =
    elim ((slice_get_cases xs k).1) [
      | inl at ↦ let same : at.0 ≡ x = cc in subst (Contains xs) (at.3 ∙ same) (Contains-get_or xs k at.0 at.1)
      | inr past ↦ absurd (cc)
    ]

variable_inside : (class k : ℕ) (t : Thing) (x : Value) → variable_in class k t ≡ Some x → Contains (contents t) x
variable_inside class k (Object c values) x is =
    cond_both (eqb c class) (slice_get values k) None (λ o. o ≡ Some x → Contains values x) (λ _ at. from_place values k x at) (λ _ at. absurd (cc)) is
variable_inside class k (Array a) x is = absurd (cc)
variable_inside class k (Dict d) x is = absurd (cc)

element_inside : (k : ℕ) (t : Thing) (x : Value) → element_in k t ≡ Some x → Contains (contents t) x
element_inside k (Object c values) x is = absurd (cc)
element_inside k (Array a) x is = from_place a.items k x is
element_inside k (Dict d) x is = absurd (cc)

later : {X : Type 0} (y : X) (xs : List X) (x : X) → Contains xs x → Contains (y ∷ xs) x
later y xs x there = (suc there.0, omega (arith, there.1), there.2)

first : {X : Type 0} (x : X) (xs : List X) → Contains (x ∷ xs) x
first x xs = (0, omega arith, refl)

pair_inside : (test : Key → Bool) (pairs : List (Key × Value)) (x : Value) → lookup test pairs ≡ Some x → Contains (pair_values pairs) x
pair_inside test [] x is = absurd (cc)
pair_inside test (p ∷ ps) x is =
    cond_both (test p.0) (Some p.1) (lookup test ps) (λ o. o ≡ Some x → Contains (key_value p.0 ∷ p.1 ∷ pair_values ps) x)
    (λ _ at. let same : p.1 ≡ x = cc in subst (Contains (key_value p.0 ∷ p.1 ∷ pair_values ps)) same (later (key_value p.0) (p.1 ∷ pair_values ps) p.1 (first p.1 (pair_values ps))))
    (λ _ at. later (key_value p.0) (p.1 ∷ pair_values ps) x (later p.1 (pair_values ps) x (pair_inside test ps x at)))
    is

entry_inside : (key : Key) (t : Thing) (x : Value) → entry_in key t ≡ Some x → Contains (contents t) x
entry_inside key (Object c values) x is = absurd (cc)
entry_inside key (Array a) x is = absurd (cc)
entry_inside key (Dict d) x is = pair_inside (one_key key) d.pairs x is

pair_key_at : (pairs : List (Key × Value)) (k : ℕ) (p : Key × Value) → k < length pairs → get_or pairs k p ≡ p → Contains (pair_values pairs) (key_value p.0)
pair_key_at [] k p lt is = absurd (omega (arith, lt))
pair_key_at (q ∷ qs) zero p lt is = subst (λ (r : Key × Value). Contains (key_value q.0 ∷ q.1 ∷ pair_values qs) (key_value r.0)) is (first (key_value q.0) (q.1 ∷ pair_values qs))
pair_key_at (q ∷ qs) (suc k) p lt is = later (key_value q.0) (q.1 ∷ pair_values qs) (key_value p.0) (later q.1 (pair_values qs) (key_value p.0) (pair_key_at qs k p (omega (arith, lt)) is))

pair_key_inside : (pairs : List (Key × Value)) (p : Key × Value) → Contains pairs p → Contains (pair_values pairs) (key_value p.0)
pair_key_inside pairs p there = pair_key_at pairs there.0 p there.1 there.2

key_of_pair : (o : Option (Key × Value)) (x : Value) → option_map (λ (p : Key × Value). key_value p.0) o ≡ Some x → (p : Key × Value) × (o ≡ Some p) × (key_value p.0 ≡ x)
key_of_pair None x is = absurd (cc)
key_of_pair (Some p) x is = (p, refl, cc)

key_inside : (j : ℕ) (t : Thing) (x : Value) → key_in j t ≡ Some x → Contains (contents t) x
key_inside j (Object c values) x is = absurd (cc)
key_inside j (Array a) x is = absurd (cc)
key_inside j (Dict d) x is =
    let p = key_of_pair (slice_get d.pairs j) x is in
    subst (Contains (pair_values d.pairs)) p.2 (pair_key_inside d.pairs p.0 (from_place d.pairs j p.0 p.1))

array_contents : (t : Thing) (a : ArrayView) → array_in (Some (thing_view t)) ≡ Some a → contents t ≡ a.items
array_contents (Object c values) a is = absurd (cc)
array_contents (Array b) a is = let same : b ≡ a = cc in ap (λ (x : ArrayView). x.items) same
array_contents (Dict d) a is = absurd (cc)

dict_contents : (t : Thing) (d : DictView) → dict_in (Some (thing_view t)) ≡ Some d → contents t ≡ pair_values d.pairs
dict_contents (Object c values) d is = absurd (cc)
dict_contents (Array a) d is = absurd (cc)
dict_contents (Dict b) d is = let same : b ≡ d = cc in ap (λ (x : DictView). pair_values x.pairs) same

-- so each may be held once more
module _ (heap : HeapView Thing) (names : List (List ℕ)) (slots : List Value) (top : ℕ) (now : RootedView) (is : view_of heap names slots top ≡ now) (held : AreHeld heap.things names (take top slots)) (h : Handle) (t : Thing) (found : value_at heap.things h ≡ Some t) where
  can_hold_read : (x : Value) → Contains (contents t) x → CanHold now x
  can_hold_read x inside = subst (λ (w : RootedView). CanHold w x) is (can_hold_inside heap names slots top held h t found x inside)

  pub variable_held : (class k : ℕ) (o : Option Value) → o ≡ variable_in class k t → ForSome o (λ x. CanHold now x)
  variable_held class k o same = λ x some. can_hold_read x (variable_inside class k t x (sym same ∙ some))

  pub element_held : (k : ℕ) (o : Option Value) → o ≡ element_in k t → ForSome o (λ x. CanHold now x)
  element_held k o same = λ x some. can_hold_read x (element_inside k t x (sym same ∙ some))

  pub entry_held : (key : Key) (o : Option Value) → o ≡ entry_in key t → ForSome o (λ x. CanHold now x)
  entry_held key o same = λ x some. can_hold_read x (entry_inside key t x (sym same ∙ some))

  pub key_held : (j : ℕ) (o : Option Value) → o ≡ key_in j t → ForSome o (λ x. CanHold now x)
  key_held j o same = λ x some. can_hold_read x (key_inside j t x (sym same ∙ some))

  -- what the handle leads to is that thing
  pub thing_read : RisesFrom 0 (serials heap.things) → thing_at now.things h ≡ Some t
  thing_read rises = ap (λ (w : RootedView). thing_at w.things h) (sym is) ∙ thing_is_value 0 heap.things h rises ∙ found

  pub read_is : {X : Type 0} (read : Thing → Option X) → RisesFrom 0 (serials heap.things) → (o : Option Handle) → o ≡ Some h → read_at read now.things o ≡ read t
  read_is read rises o named = ap (read_at read now.things) named ∙ ap (λ (o : Option Thing). option_and_then read o) (thing_read rises)

  pub seen_read : {X : Type 0} (read : Option ThingView → Option X) → RisesFrom 0 (serials heap.things) → (o : Option Handle) → o ≡ Some h → option_and_then (λ (h : Handle). read (seen now.things h)) o ≡ read (Some (thing_view t))
  seen_read read rises o named = ap (option_and_then (λ (h : Handle). read (seen now.things h))) named ∙ ap (λ (o : Option Thing). read (option_map thing_view o)) (thing_read rises)

  -- what lies in a container is whole
  all_inside : (xs : List Value) → contents t ≡ xs → AllWhole (seen now.things) (names_of now.names) xs
  all_inside xs same =
      let P = IsThere (map bare heap.things) names in
      let all = value_has (λ (t : Thing). All P (contents t)) heap.things h t (all_bare (λ (t : Handle × Thing). All P (contents t.1)) heap.things held.whole.inside) found in
      subst (λ (w : RootedView). AllWhole (seen w.things) (names_of w.names) xs) is (all_whole held.whole xs (subst (All P) same all))

  pub array_whole : (o : Option ArrayView) → o ≡ array_in (Some (thing_view t)) → ForSome o (λ a. AllWhole (seen now.things) (names_of now.names) a.items)
  array_whole o same = λ a some. all_inside a.items (array_contents t a (sym same ∙ some))

  pub dict_whole : (o : Option DictView) → o ≡ dict_in (Some (thing_view t)) → ForSome o (λ d. AllWhole (seen now.things) (names_of now.names) (pair_values d.pairs))
  dict_whole o same = λ d some. all_inside (pair_values d.pairs) (dict_contents t d (sym same ∙ some))

-- the keys, one by one
module _ (things : List (Handle × Thing)) where
  pub key_read : (o : Option Handle) (j : ℕ) → read_at (key_in j) things o ≡ slice_get (keys_at things o) j
  key_read None j = refl
  key_read (Some h) j = of_thing (thing_at things h)
    where
      of_thing : (o : Option Thing) → option_and_then (key_in j) o ≡ slice_get (unwrap_or (option_and_then (λ (t : Thing). Some (keys_in t)) o) []) j
      of_thing None = refl
      of_thing (Some (Object class values)) = refl
      of_thing (Some (Array a)) = refl
      of_thing (Some (Dict d)) = sym (slice_get-map (λ (p : Key × Value). key_value p.0) d.pairs j)

  pub keys_counted : (o : Option Handle) (d : DictView) → option_and_then (λ (h : Handle). dict_in (seen things h)) o ≡ Some d → length (keys_at things o) ≡ length d.pairs
  keys_counted None d is = absurd (cc)
  keys_counted (Some h) d is = of_thing (thing_at things h) is
    where
      of_thing : (o : Option Thing) → dict_in (option_map thing_view o) ≡ Some d → length (unwrap_or (option_and_then (λ (t : Thing). Some (keys_in t)) o) []) ≡ length d.pairs
      of_thing None is = absurd (cc)
      of_thing (Some (Object class values)) is = absurd (cc)
      of_thing (Some (Array a)) is = absurd (cc)
      of_thing (Some (Dict b)) is = let same : b ≡ d = cc in length-map b.pairs (λ (p : Key × Value). key_value p.0) ∙ ap (λ (x : DictView). length x.pairs) same

  pub no_keys : (o : Option Handle) → option_and_then (λ (h : Handle). dict_in (seen things h)) o ≡ None → keys_at things o ≡ []
  no_keys None is = refl
  no_keys (Some h) is = of_thing (thing_at things h) is
    where
      of_thing : (o : Option Thing) → dict_in (option_map thing_view o) ≡ None → unwrap_or (option_and_then (λ (t : Thing). Some (keys_in t)) o) [] ≡ []
      of_thing None is = refl
      of_thing (Some (Object class values)) is = refl
      of_thing (Some (Array a)) is = refl
      of_thing (Some (Dict b)) is = absurd (cc)

-- one key more is pushed
pub key_pushed : (old : RootedView) (i j : ℕ) → i < length old.values → j < length (keys_at old.things (dict_handle (get_or old.values i v.Nil))) → (now : RootedView) → now ≡ record old { values = old.values ++ take j (keys_at old.things (dict_handle (get_or old.values i v.Nil))) } → with_found now (read_at (key_in j) now.things (dict_handle (get_or now.values i v.Nil))) ≡ record old { values = old.values ++ take (j + 1) (keys_at old.things (dict_handle (get_or old.values i v.Nil))) }
key_pushed old i j lt below now is =
    let o = dict_handle (get_or old.values i v.Nil) in
    let keys = keys_at old.things o in
    let k = get_or keys j v.Nil in
    let mid : RootedView = record old { values = old.values ++ take j keys } in
    let same : get_or mid.values i v.Nil ≡ get_or old.values i v.Nil = get_or_append_left old.values (take j keys) v.Nil i lt in
    let found : read_at (key_in j) old.things o ≡ Some k = key_read old.things o j ∙ slice_get-get_or keys j v.Nil below in
    ap (λ (w : RootedView). with_found w (read_at (key_in j) w.things (dict_handle (get_or w.values i v.Nil)))) is
    ∙ ap (λ (x : Value). with_found mid (read_at (key_in j) old.things (dict_handle x))) same
    ∙ ap (with_found mid) found
    ∙ ap (λ (l : List Value). record old { values = l }) (append_assoc old.values (take j keys) (k ∷ []) ∙ ap (λ (l : List Value). old.values ++ l) (sym (take_more keys j v.Nil below)))

nothing_more : {X : Type 0} (xs : List X) → xs ++ [] ≡ xs
nothing_more [] = refl
nothing_more (x ∷ xs) = ap (λ l. x ∷ l) (nothing_more xs)

pub keys_begun : (old : RootedView) (keys : List Value) → old ≡ record old { values = old.values ++ take 0 keys }
keys_begun old keys = ap (λ (l : List Value). record old { values = l }) (sym (nothing_more old.values))

pub keys_none : (old : RootedView) (keys : List Value) → keys ≡ [] → old ≡ record old { values = old.values ++ keys }
keys_none old keys none = ap (λ (l : List Value). record old { values = l }) (sym (ap (λ (l : List Value). old.values ++ l) none ∙ nothing_more old.values))

pub keys_done : (old now : RootedView) (keys : List Value) (j : ℕ) → now ≡ record old { values = old.values ++ take j keys } → j ≡ length keys → now ≡ record old { values = old.values ++ keys }
keys_done old now keys j is all = is ∙ ap (λ (l : List Value). record old { values = old.values ++ l }) (take_all j keys (omega arith))

-- what is lent is there as what it shows
pub copied_some : (o : Option (Bor Thing)) → is_some o ≡ is_some (option_copied o)
copied_some None = refl
copied_some (Some r) = refl
