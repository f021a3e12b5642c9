-- Items in lists.
use Rattle.std.proofs.Common.{◌≡◌, ◌∙◌, ℕ, ◌+◌, ◌<◌, ◌≤◌, ◌⊎◌, inl, inr, Bool, true, false, cond, IsTrue, List, [], ◌∷◌, ◌++◌, length, filter, take, get_or, refl, sym, ap, subst, arith}
use Rattle.std.specs.Prelude.{◌↔◌}
use Rattle.std.specs.Cmp.{IsEquivalence}
use Rattle.std.specs.List.{All, AllByRecursion, Contains, IsDistinct, list_any}
use Rattle.std.proofs.lemmas.Bool.{true≢false}
use Rattle.std.proofs.lemmas.Map.Views.{Contains-from_any, any-filter_same, list_any-from_Contains}
use Rattle.std.proofs.lemmas.List.Elements.{All-filter, All-push, Contains-get_or, filter_passes}
use Rattle.std.proofs.lemmas.List.{take_all, take_more}
use Rattle.gd_members.specs.declared.Item.{Item}
use Rattle.indexmap.specs.IndexSet.{insert_key}
use Rattle.cycle_resolver.specs.Order.{same_item, times}
use Rattle.cycle_resolver.specs.Unfold.{IsOpen}
use Rattle.gd_infer.specs.Needs.{IsFresh, is_item, needs_in, settled_in}
use Rattle.gd_infer.specs.declared.needs.Progress.{Progress}
use Rattle.gd_infer.specs.declared.needs.ItemNeeds.{ItemNeeds}
use Rattle.cycle_resolver.proofs.Times.{same_item-apart, same_item-decides, same_item-or-not, same_item-refl, same-weight, times-cons}

same_item-symm : (a b : Item) → same_item a b ≡ same_item b a
same_item-symm a b = elim (same_item-or-not a b) as (λ _. same_item a b ≡ same_item b a) [
  | inl e ↦ (same_item-decides a b).1 e ∙ sym ((same_item-decides b a).1 (sym e))
  | inr f ↦ f ∙ sym (same_item-apart a b f)
]

pub same_item-laws : IsEquivalence same_item
same_item-laws = record {
  refl = same_item-refl;
  symm = same_item-symm;
  congr = λ a b c e. ap (λ x. same_item x c) ((same_item-decides a b).0 e);
}

-- what a look-up in a list of items says
pub found-item : (items : List Item) (item : Item) (b : Bool) → b ≡ list_any (same_item item) items → IsTrue b ↔ Contains items item
found-item items item b e = (
  λ t. Contains-from_any (λ x y h. (same_item-decides x y).0 h) item items (sym e ∙ t),
  λ h. e ∙ list_any-from_Contains same_item-laws item items h,
)

-- an item that is not there goes to the end
pub insert-new : (items : List Item) (item : Item) → ¬ Contains items item → insert_key same_item items item ≡ items ++ item ∷ []
insert-new items item absent = by (list_any (same_item item) items) refl
  where
    by : (b : Bool) → list_any (same_item item) items ≡ b → insert_key same_item items item ≡ items ++ item ∷ []
    by true e = absurd (absent (Contains-from_any (λ x y h. (same_item-decides x y).0 h) item items e))
    by false e = ap (λ c. cond c items (items ++ item ∷ [])) e

absent-times : (x : Item) (items : List Item) → AllByRecursion (λ y. same_item x y ≡ false) items → times x items ≡ 0
absent-times x [] h = refl
absent-times x (y ∷ ys) h = omega (arith, times-cons x y ys, same-weight h.0, absent-times x ys h.1)

pub distinct-times : (items : List Item) → IsDistinct same_item items → (x : Item) → times x items ≤ 1
unfolding IsDistinct
distinct-times [] h x = let z : times x [] ≡ 0 = refl in omega arith
distinct-times (y ∷ ys) h x = elim (same_item-or-not x y) as (λ _. times x (y ∷ ys) ≤ 1) [
  | inl e ↦ let none : times x ys ≡ 0 = subst (λ (z : Item). times z ys ≡ 0) (sym e) (absent-times y ys h.0) in
      omega (arith, times-cons x y ys, same-weight ((same_item-decides x y).1 e), none)
  | inr f ↦ omega (arith, times-cons x y ys, same-weight f, distinct-times ys h.1 x)
]

-- an item of the list that passes the test is among those that do
pub found-filter : (p : Item → Bool) (items : List Item) (item : Item) → Contains items item → p item ≡ true → Contains (filter p items) item
found-filter p items item there passes =
    let same : (k : Item) → same_item item k ≡ true → p k ≡ true = λ k e. ap p (sym ((same_item-decides item k).0 e)) ∙ passes in
    Contains-from_any (λ x y h. (same_item-decides x y).0 h) item (filter p items)
    (any-filter_same (same_item item) p true same items ∙ list_any-from_Contains same_item-laws item items there)

-- what holds of each that passes the test holds of all that do
pub All-passing : (p : Item → Bool) (P : Item → Type 0) (items : List Item) → All (λ x. p x ≡ true → P x) items → All P (filter p items)
All-passing p P items h k d within = All-filter p (λ x. p x ≡ true → P x) items h k d within (filter_passes p items k d within)

pub passing-more : (p : Item → Bool) (P : Item → Type 0) (items : List Item) (i : ℕ) (d : Item) → i < length items
    → All (λ x. p x ≡ true → P x) (take i items) → (p (get_or items i d) ≡ true → P (get_or items i d)) → All (λ x. p x ≡ true → P x) (take (i + 1) items)
passing-more p P items i d within h here =
    let Q : List Item → Type 0 = λ xs. All (λ x. p x ≡ true → P x) xs in
    subst Q (sym (take_more items i d within)) (All-push (λ x. p x ≡ true → P x) (take i items) (get_or items i d) h here)

pub passing-all : (p : Item → Bool) (P : Item → Type 0) (items : List Item) (i : ℕ) → length items ≤ i
    → All (λ x. p x ≡ true → P x) (take i items) → All P (filter p items)
passing-all p P items i within h =
    let Q : List Item → Type 0 = λ xs. All (λ x. p x ≡ true → P x) xs in
    All-passing p P items (subst Q (take_all i items within) h)

none-in : {item : Item} → Contains [] item → ⊥
none-in (i, within, is) = absurd (omega arith)

-- where nothing is settled each item is open
pub all-open : (progress : Progress) (items : List Item) → IsFresh progress → All (IsOpen (settled_in progress)) items
all-open progress items fresh k d within = record {
  not_typed = λ there. let P : List Item → Type 0 = λ all. Contains all (get_or items k d) in none-in (subst P fresh.typed there);
  not_given_up = λ there. let P : List Item → Type 0 = λ all. Contains all (get_or items k d) in none-in (subst P fresh.given_up there);
}

-- what items need is among them
pub among : (all : ItemNeeds) (items : List Item) → items ≡ all.items.keys → All (λ item. All (Contains items) (needs_in all item)) items
among all items e k d within j f inside =
    let row = needs_in all (get_or items k d) in
    let next = get_or row j f in
    let P : List Item → Type 0 = λ xs. Contains xs next in
    subst P (sym e) ((found-item all.items.keys next (is_item all next) refl).0 (filter_passes (is_item all) _ j f inside))
