-- The handles of all things in order, and which of them are objects.
use Rattle.std.proofs.Common.{◌≡◌, ℕ, ◌+◌, ◌<◌, Bool, true, cond, eqb, List, [], ◌∷◌, ◌++◌, map, take, length, get_or, count_by, filter_map, Option, Some, None, option_map, refl, sym, ap, ◌∙◌, subst, inl, inr, arith, append_assoc, IsPermutation}
use Rattle.std.specs.List.Sorted.{IsNonDecreasingBy}
use Rattle.std.specs.List.{cons_option}
use Rattle.std.specs.Option.{option_to_list}
use Rattle.std.proofs.lemmas.List.{take_more}
use Rattle.std.proofs.lemmas.List.Elements.{filter_map-append}
use Rattle.std.proofs.lemmas.Bool.{cond_both, cond-true, cases_Bool, and_from, eq-eqb}
use Rattle.std.proofs.lemmas.List.Sums.{sum_by-cons}
use Rattle.slot_arena.specs.declared.handle.Handle.{Handle}
use Rattle.slot_arena.specs.Slots.{Entry, is_at, handle_of, find_at, value_at}
use Rattle.gd_model.specs.View.{class_in}
use Rattle.counted_heap.specs.declared.thing.Thing.{Thing}
use Rattle.counted_heap.specs.declared.thing.Thing.TheVariants.{Object, Array, Dict}
use Rattle.counted_heap.specs.Thing.{thing_class}
use Rattle.counted_heap.specs.Heap.{RisesFrom, serials, same_handle, times}
use Rattle.counted_heap.proofs.Order.{slowly, same_order, times-IsPermutation, same_handle-self}
use Rattle.counted_heap.proofs.Split.{NoneAt, later_none, serial_at, index_at, is_at-same}
use Rattle.rooted_heap.specs.Rooted.{bare, thing_view, seen}
use Rattle.rooted_heap.specs.Reading.{objects_in, object_at}
use Rattle.rooted_heap.proofs.Seen.{seen_is}

times_more : (h x : Handle) (xs : List Handle) → times h (x ∷ xs) ≡ cond (same_handle h x) 1 0 + times h xs
times_more h x xs = sum_by-cons (λ (y : Handle). cond (same_handle h y) 1 0) x xs

count_more : (h : Handle) (e : Entry Thing) (es : List (Entry Thing)) → count_by (is_at h) (e ∷ es) ≡ cond (is_at h e) 1 0 + count_by (is_at h) es
count_more h e es = sum_by-cons (λ (x : Entry Thing). cond (is_at h x) 1 0) e es

none_counted : (h : Handle) (es : List (Entry Thing)) → NoneAt h es → count_by (is_at h) es ≡ 0
none_counted h [] none = refl
none_counted h (e ∷ es) none =
    let here = ap {B = ℕ} (λ (b : Bool). cond b 1 0) none.0 in
    omega (arith, count_more h e es, here, none_counted h es none.1)

-- each thing is counted once by its own handle
own_counted : (h : Handle) (es : List (Entry Thing)) → times h (map handle_of es) ≡ count_by (is_at h) es
own_counted h [] = refl
own_counted h (e ∷ es) = omega (arith, times_more h (handle_of e) (map handle_of es), count_more h e es, own_counted h es)

-- handles with the serial numbers of the things that stand as often are theirs
handles_are : (m : ℕ) (xs : List Handle) (zs : List (Entry Thing)) → RisesFrom m (serials zs) → map (λ (h : Handle). h.serial) xs ≡ serials zs → ((h : Handle) → times h xs ≡ count_by (is_at h) zs) → xs ≡ map handle_of zs
handles_are m [] [] rises is same = refl
handles_are m [] (z ∷ zs) rises is same = absurd (cc)
handles_are m (x ∷ xs) [] rises is same = absurd (cc)
handles_are m (x ∷ xs) (z ∷ zs) rises is same =
    let serial : x.serial ≡ z.serial = cc in
    let rest : map (λ (h : Handle). h.serial) xs ≡ serials zs = cc in
    let here : is_at x z ≡ true =
    elim (cases_Bool (is_at x z)) [
      | inl here ↦ here
      | inr other ↦
          let own = ap {B = ℕ} (λ (b : Bool). cond b 1 0) (same_handle-self x) in
          let not_here = ap {B = ℕ} (λ (b : Bool). cond b 1 0) other in
          absurd (omega (arith, same x, times_more x x xs, own, count_more x z zs, not_here, none_counted x zs (later_none x z.serial zs (omega (arith, serial)) rises.1)))
    ] in
    let one : x ≡ handle_of z =
    ap (λ (i : ℕ). record { index = i; serial = x.serial }) (sym (index_at x z here)) ∙ ap (λ (s : ℕ). record { index = z.index; serial = s }) serial in
    ap (λ (h : Handle). h ∷ xs) one
    ∙ ap (λ (l : List Handle). handle_of z ∷ l)
    (handles_are z.serial xs zs rises.1 rest (λ h.
    let equal = ap {B = ℕ} (λ (b : Bool). cond b 1 0) (is_at-same h x z here) in
    omega (arith, same h, times_more h x xs, count_more h z zs, equal)))

pub all_handles : (es : List (Entry Thing)) (hs : List Handle) → RisesFrom 0 (serials es) → IsPermutation (map handle_of es) hs → IsNonDecreasingBy (λ (h : Handle). h.serial) hs → hs ≡ map handle_of es
all_handles es hs rises moved rising =
    let same : (h : Handle) → times h hs ≡ count_by (is_at h) es = λ h. times-IsPermutation h (map handle_of es) hs moved ∙ own_counted h es in
    handles_are 0 hs es rises (same_order 0 0 hs es (slowly hs rising) rises same) same

-- a thing is found by its own handle
later_than : (n : ℕ) (front : List (Entry Thing)) (e : Entry Thing) (back : List (Entry Thing)) → RisesFrom n (serials (front ++ e ∷ back)) → n < e.serial
later_than n [] e back rises = rises.0
later_than n (x ∷ xs) e back rises = omega (arith, rises.0, later_than x.serial xs e back rises.1)

found_self : (n : ℕ) (front : List (Entry Thing)) (e : Entry Thing) (back : List (Entry Thing)) → RisesFrom n (serials (front ++ e ∷ back)) → find_at (front ++ e ∷ back) (handle_of e) ≡ Some e
found_self n [] e back rises = cond-true (is_at (handle_of e) e) (Some e) (find_at back (handle_of e)) (and_from (eqb e.index e.index) (eqb e.serial e.serial) (eq-eqb e.index e.index refl) (eq-eqb e.serial e.serial refl))
found_self n (x ∷ xs) e back rises =
    cond_both (is_at (handle_of e) x) (Some x) (find_at (xs ++ e ∷ back) (handle_of e))
    (λ o. o ≡ Some e)
    (λ here. absurd (omega (arith, serial_at (handle_of e) x here, later_than x.serial xs e back rises.1)))
    (λ other. found_self x.serial xs e back rises.1)

class_of_thing : (t : Thing) → class_in (Some (thing_view t)) ≡ thing_class t
class_of_thing (Object class values) = refl
class_of_thing (Array a) = refl
class_of_thing (Dict d) = refl

objects_from : (all front es : List (Entry Thing)) → all ≡ front ++ es → RisesFrom 0 (serials all) → filter_map (object_at (map bare all)) (map handle_of es) ≡ objects_in (map bare es)
objects_from all front [] is rises = refl
objects_from all front (e ∷ es) is rises =
    let found : value_at all (handle_of e) ≡ Some e.value =
    ap (λ (l : List (Entry Thing)). value_at l (handle_of e)) is ∙ ap (option_map (λ (x : Entry Thing). x.value)) (found_self 0 front e es (subst (λ (l : List (Entry Thing)). RisesFrom 0 (serials l)) is rises)) in
    let here : class_in (seen (map bare all) (handle_of e)) ≡ thing_class e.value =
    ap class_in (seen_is all (handle_of e) rises) ∙ ap (λ (o : Option Thing). class_in (option_map thing_view o)) found ∙ class_of_thing e.value in
    ap (λ (o : Option ℕ). cons_option (option_map (λ (c : ℕ). (e.serial, c)) o) (filter_map (object_at (map bare all)) (map handle_of es))) here
    ∙ ap (cons_option (option_map (λ (c : ℕ). (e.serial, c)) (thing_class e.value))) (objects_from all (front ++ e ∷ []) es (is ∙ sym (append_assoc front (e ∷ []) es)) rises)

pub objects_are : (es : List (Entry Thing)) (hs : List Handle) → RisesFrom 0 (serials es) → IsPermutation (map handle_of es) hs → IsNonDecreasingBy (λ (h : Handle). h.serial) hs → filter_map (object_at (map bare es)) hs ≡ objects_in (map bare es)
objects_are es hs rises moved rising =
    ap (filter_map (object_at (map bare es))) (all_handles es hs rises moved rising) ∙ objects_from es [] es refl rises

pub objects_listed : (es : List (Entry Thing)) (things : List (Handle × Thing)) (hs : List Handle) → map bare es ≡ things → RisesFrom 0 (serials es) → IsPermutation (map handle_of es) hs → IsNonDecreasingBy (λ (h : Handle). h.serial) hs → filter_map (object_at things) hs ≡ objects_in things
objects_listed es things hs is rises moved rising = subst (λ (bs : List (Handle × Thing)). filter_map (object_at bs) hs ≡ objects_in bs) is (objects_are es hs rises moved rising)

-- one handle more
one_listed : (o : Option (ℕ × ℕ)) → cons_option o [] ≡ option_to_list o
one_listed None = refl
one_listed (Some x) = refl

pub listed_more : (things : List (Handle × Thing)) (hs : List Handle) (i : ℕ) (h d : Handle) → i < length hs → h ≡ get_or hs i d → filter_map (object_at things) (take (i + 1) hs) ≡ filter_map (object_at things) (take i hs) ++ option_to_list (object_at things h)
listed_more things hs i h d lt is =
    ap (filter_map (object_at things)) (take_more hs i d lt ∙ ap (λ (x : Handle). take i hs ++ x ∷ []) (sym is))
    ∙ filter_map-append (object_at things) (take i hs) (h ∷ [])
    ∙ ap (λ (l : List (ℕ × ℕ)). filter_map (object_at things) (take i hs) ++ l) (one_listed (object_at things h))

pub objects_step : (things : List (Handle × Thing)) (hs : List Handle) (i : ℕ) (d : Handle) (all more : List (ℕ × ℕ)) (class : Option ℕ) → i < length hs → all ≡ filter_map (object_at things) (take i hs) → class ≡ class_in (seen things (get_or hs i d)) → more ≡ all ++ option_to_list (option_map (λ (k : ℕ). ((get_or hs i d).serial, k)) class) → more ≡ filter_map (object_at things) (take (i + 1) hs)
objects_step things hs i d all more class lt is class_is more_is =
    more_is
    ∙ ap (λ (l : List (ℕ × ℕ)). l ++ option_to_list (option_map (λ (k : ℕ). ((get_or hs i d).serial, k)) class)) is
    ∙ ap (λ (o : Option ℕ). filter_map (object_at things) (take i hs) ++ option_to_list (option_map (λ (k : ℕ). ((get_or hs i d).serial, k)) o)) class_is
    ∙ sym (listed_more things hs i (get_or hs i d) d lt refl)
