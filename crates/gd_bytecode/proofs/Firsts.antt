-- The first fault of a list, as a loop comes to it.
use Rattle.std.proofs.Common.{◌≡◌, ◌<◌, ◌≤◌, ◌+◌, ℕ, suc, List, length, drop, get_or, Option, Some, None, sym, ap, ◌∙◌, add-one}
use Rattle.std.proofs.Math.Seq.{drop-cons}
use Rattle.std.proofs.lemmas.List.{drop_all}
use Rattle.std.specs.Option.{option_or}
use Rattle.gd_bytecode.specs.First.{first_in}

-- the entry at i is looked at, and then those behind it
at_entry : {A F : Type 0} (f : ℕ → A → Option F) (xs : List A) (i : ℕ) (x : A) → i < length xs → x ≡ get_or xs i x
    → first_in f i (drop i xs) ≡ option_or (f i x) (first_in f (suc i) (drop (suc i) xs))
at_entry f xs i x lt is =
    ap (first_in f i) (drop-cons xs i x lt) ∙ ap (λ y. option_or (f i y) (first_in f (suc i) (drop (suc i) xs))) (sym is)

-- without a fault of its own the rest is looked at
pub first_more : {A F : Type 0} (f : ℕ → A → Option F) (xs : List A) (i : ℕ) (x : A) (whole : Option F) → i < length xs → x ≡ get_or xs i x
    → f i x ≡ None → whole ≡ first_in f i (drop i xs) → whole ≡ first_in f (i + 1) (drop (i + 1) xs)
first_more f xs i x whole lt is none inv =
    rw add-one (inv ∙ at_entry f xs i x lt is ∙ ap (λ o. option_or o (first_in f (suc i) (drop (suc i) xs))) none)

-- and with one it is the first
pub first_found : {A F : Type 0} (f : ℕ → A → Option F) (xs : List A) (i : ℕ) (x : A) (y : F) (whole : Option F) → i < length xs → x ≡ get_or xs i x
    → f i x ≡ Some y → whole ≡ first_in f i (drop i xs) → Some y ≡ whole
first_found f xs i x y whole lt is some inv =
    sym (inv ∙ at_entry f xs i x lt is ∙ ap (λ o. option_or o (first_in f (suc i) (drop (suc i) xs))) some)

-- behind all entries there is none
pub first_none : {A F : Type 0} (f : ℕ → A → Option F) (xs : List A) (i : ℕ) (whole : Option F) → length xs ≤ i
    → whole ≡ first_in f i (drop i xs) → whole ≡ None
first_none f xs i whole all inv = inv ∙ ap (first_in f i) (drop_all i xs all)
