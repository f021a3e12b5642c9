-- Counts of items that pass a test.
use Rattle.std.proofs.Common.{◌≡◌, ◌∙◌, ℕ, ◌+◌, ◌<◌, ◌≤◌, ◌||◌, inl, inr, Bool, true, false, not, cond, List, [], ◌∷◌, refl, sym, ap, arith}
use Rattle.std.specs.List.{count_by}
use Rattle.std.proofs.lemmas.Bool.{true≢false}
use Rattle.std.proofs.lemmas.List.Sums.{sum_by-cons}
use Rattle.gd_members.specs.declared.Item.{Item}
use Rattle.cycle_resolver.specs.Order.{times}
use Rattle.cycle_resolver.proofs.Times.{same-weight, same_item-or-not, times-cons}

pub or-true : (b : Bool) → (b || true) ≡ true
or-true true = refl
or-true false = refl

pub not-or : (a b : Bool) → not (a || b) ≡ true → not b ≡ true
not-or true b h = absurd (true≢false (sym h))
not-or false b h = h

weight-le : (a b : Bool) → (a ≡ true → b ≡ true) → cond {A = ℕ} a 1 0 ≤ cond b 1 0
weight-le true b h = let e = same-weight (h refl) in omega arith
weight-le false b h = omega arith

count-cons : (p : Item → Bool) (x : Item) (xs : List Item) → count_by p (x ∷ xs) ≡ cond (p x) 1 0 + count_by p xs
count-cons p x xs = sum_by-cons (λ y. cond (p y) 1 0) x xs

pub count-same : (p q : Item → Bool) (xs : List Item) → ((x : Item) → q x ≡ p x) → count_by q xs ≡ count_by p xs
count-same p q [] h = refl
count-same p q (x ∷ xs) h = omega (arith, count-cons p x xs, count-cons q x xs, same-weight (h x), count-same p q xs h)

count-le : (p q : Item → Bool) (xs : List Item) → ((x : Item) → q x ≡ true → p x ≡ true) → count_by q xs ≤ count_by p xs
count-le p q [] h = let e : count_by q [] ≡ count_by p [] = refl in omega arith
count-le p q (x ∷ xs) h = omega (arith, count-cons p x xs, count-cons q x xs, weight-le (q x) (p x) (h x), count-le p q xs h)

-- an item that passes no more is counted no more
pub count-less : (p q : Item → Bool) (y : Item) (xs : List Item) → ((x : Item) → q x ≡ true → p x ≡ true) → p y ≡ true → q y ≡ false
    → 1 ≤ times y xs → count_by q xs < count_by p xs
count-less p q y [] h passed gone inside = let z : times y [] ≡ 0 = refl in absurd (omega arith)
count-less p q y (x ∷ xs) h passed gone inside =
    elim (same_item-or-not y x) as (λ _. count_by q (x ∷ xs) < count_by p (x ∷ xs)) [
      | inl e ↦ omega (arith, count-cons p x xs, count-cons q x xs, same-weight (ap p (sym e) ∙ passed), same-weight (ap q (sym e) ∙ gone), count-le p q xs h)
      | inr other ↦ omega (arith, count-cons p x xs, count-cons q x xs, weight-le (q x) (p x) (h x), count-less p q y xs h passed gone (omega (arith, times-cons y x xs, same-weight other)))
    ]
