-- The items of a table meet the conditions of `order`.
use Rattle.std.proofs.Common.{◌≡◌, ◌∙◌, ℕ, ◌+◌, ◌<◌, ◌≤◌, inl, inr, Bool, true, false, cond, List, [], ◌∷◌, ◌++◌, length, map, take, take_all, refl, sym, ap, subst, arith}
use Prim.Native.Nat.{zero, suc}
use Rattle.std.specs.Prelude.{Option, Some, None, Vec, slice_get, slice_index_or}
use Rattle.std.specs.Option.{option_map_or}
use Rattle.std.specs.List.{All, Contains}
use Rattle.std.proofs.lemmas.Bool.{cases_lt}
use Rattle.std.proofs.lemmas.List.{map-append, take_more}
use Rattle.std.proofs.lemmas.List.Elements.{All-map, All-nil, All-push, All-same, All-weaker, Contains-append_left, Contains-push}
use Rattle.std.proofs.lemmas.Option.{get_or_from_slice_get, slice_get_cases, slice_get_read, slice_get_within}
use Rattle.gd_members.specs.declared.Item.{Item}
use Rattle.cycle_resolver.specs.Order.{AreDistinct, same_item, times}
use Rattle.cycle_resolver.specs.declared.unfold.Visit.{Visit}
use Rattle.cycle_resolver.specs.Unfold.{IsCause}
use Rattle.cycle_resolver.specs.Table.{AreClosed, item_of, items_to, needs_by}
use Rattle.cycle_resolver.proofs.Times.{same-weight, same_item-or-not, times-push}

-- an item stands in no list that ends below its number
times-above : (n : ℕ) (x : Item) → n ≤ x.member.index → times x (items_to n) ≡ 0
times-above zero x h = refl
times-above (suc n) x h =
    elim (same_item-or-not x (item_of n)) as (λ _. times x (items_to n ++ item_of n ∷ []) ≡ 0) [
      | inl e ↦ let index = ap (λ i. i.member.index) e in absurd (omega arith)
      | inr other ↦ omega (arith, times-push x (items_to n) (item_of n), same-weight other, times-above n x (omega arith))
    ]

weight-bound : (b : Bool) → cond {A = ℕ} b 1 0 ≤ 1
weight-bound true = omega arith
weight-bound false = omega arith

pub distinct-items : (n : ℕ) → AreDistinct (items_to n)
distinct-items zero x = let z : times x [] ≡ 0 = refl in omega arith
distinct-items (suc n) x =
    elim (same_item-or-not x (item_of n)) as (λ _. times x (items_to n ++ item_of n ∷ []) ≤ 1) [
      | inl e ↦
          let index = ap (λ i. i.member.index) e in
          let none = times-above n x (omega arith) in
          omega (arith, times-push x (items_to n) (item_of n), weight-bound (same_item x (item_of n)))
      | inr other ↦ omega (arith, times-push x (items_to n) (item_of n), same-weight other, distinct-items n x)
    ]

contains-item : (n k : ℕ) → k < n → Contains (items_to n) (item_of k)
contains-item zero k h = absurd (omega arith)
contains-item (suc n) k h =
    elim (cases_lt k n) as (λ _. Contains (items_to n ++ item_of n ∷ []) (item_of k)) [
      | inl below ↦ Contains-append_left (items_to n) (item_of n ∷ []) (item_of k) (contains-item n k below)
      | inr past ↦
          let last : n ≡ k = omega arith in
          let P : ℕ → Type 0 = λ m. Contains (items_to n ++ item_of n ∷ []) (item_of m) in
          subst P last (Contains-push (items_to n) (item_of n))
    ]

-- the needs that a row gives, where there is one
row-items : {A : Type 0} (P : Item → Type 0) (o : Option (Vec ℕ A)) → ((row : Vec ℕ A) → o ≡ Some row → All (λ number. P (item_of number)) row.items)
    → All P (option_map_or (λ row. map item_of row.items) o [])
row-items P None h = All-nil P
row-items P (Some row) h = All-map P item_of row.items (h row refl)

pub among-items : {A : Type 0} (rows : List (Vec ℕ A)) → AreClosed rows
    → All (λ item. All (Contains (items_to (length rows))) (needs_by rows item)) (items_to (length rows))
among-items {A} rows closed k d inside =
    let item = slice_index_or (items_to (length rows)) k d in
    row-items (Contains (items_to (length rows))) (slice_get rows item.member.index) (λ row found.
    let here = slice_get_within rows item.member.index row found in
    let is = get_or_from_slice_get rows item.member.index row row found in
    let P : Vec ℕ A → Type 0 = λ r. All (λ number. number < length rows) r.items in
    All-weaker (λ number. number < length rows) (λ number. Contains (items_to (length rows)) (item_of number)) (λ n below. contains-item (length rows) n below) row.items
    (subst P is (closed item.member.index row here)))

-- one element more of a list that is mapped
pub All-map-more : (P : Item → Type 0) (xs : List ℕ) (i : ℕ) → i < length xs → All P (map item_of (take i xs)) → P (item_of (slice_index_or xs i 0))
    → All P (map item_of (take (i + 1) xs))
All-map-more P xs i inside before here =
    let e = ap (map item_of) (take_more xs i 0 inside) ∙ map-append item_of (take i xs) (slice_index_or xs i 0 ∷ []) in
    All-same P _ _ e (All-push P (map item_of (take i xs)) (item_of (slice_index_or xs i 0)) before here)

pub All-map-whole : (P : Item → Type 0) (xs : List ℕ) (i : ℕ) → length xs ≤ i → All P (map item_of (take i xs)) → All P (map item_of xs)
All-map-whole P xs i past h = All-same P (map item_of xs) (map item_of (take i xs)) (ap (map item_of) (sym (take_all i xs past))) h

pub needs-row : {A : Type 0} (rows : List (Vec ℕ A)) (item : Item) (row : Vec ℕ A) → item.member.index < length rows
    → row ≡ slice_index_or rows item.member.index row → map item_of row.items ≡ needs_by rows item
needs-row {A} rows item row inside is =
    let f : Option (Vec ℕ A) → List Item = λ o. option_map_or (λ r. map item_of r.items) o [] in
    ap f (sym (slice_get_read rows (length rows) item.member.index row refl inside is))

pub needs-none : {A : Type 0} (rows : List (Vec ℕ A)) (item : Item) → length rows ≤ item.member.index → needs_by rows item ≡ []
needs-none {A} rows item past =
    let f : Option (Vec ℕ A) → List Item = λ o. option_map_or (λ r. map item_of r.items) o [] in
    elim ((slice_get_cases rows item.member.index).1) as (λ _. needs_by rows item ≡ []) [
      | inl (x, inside, _, _) ↦ absurd (omega arith)
      | inr (_, none) ↦ ap f none
    ]

pub cause-at : {A : Type 0} {rows rows' : List (Vec ℕ A)} {typed typed' given_up given_up' : List Item} {v w : Visit} (item : Item)
    → rows ≡ rows' → typed ≡ typed' → given_up ≡ given_up' → v ≡ w → IsCause (needs_by rows item) (record { typed = typed; given_up = given_up }) v
    → IsCause (needs_by rows' item) (record { typed = typed'; given_up = given_up' }) w
cause-at {A} {rows} {rows'} {typed} {typed'} {given_up} {given_up'} {v} {w} item e f g h c =
    let P : List (Vec ℕ A) → Type 0 = λ r. IsCause (needs_by r item) (record { typed = typed; given_up = given_up }) v in
    let Q : List Item → Type 0 = λ t. IsCause (needs_by rows' item) (record { typed = t; given_up = given_up }) v in
    let R : List Item → Type 0 = λ t. IsCause (needs_by rows' item) (record { typed = typed'; given_up = t }) v in
    let S : Visit → Type 0 = λ x. IsCause (needs_by rows' item) (record { typed = typed'; given_up = given_up' }) x in
    subst S h (subst R g (subst Q f (subst P e c)))
