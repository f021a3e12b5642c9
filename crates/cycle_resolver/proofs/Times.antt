-- How often an item stands in a list.
use Rattle.std.proofs.Common.{◌≡◌, ◌∙◌, ℕ, ◌+◌, ◌≤◌, ◌⊎◌, inl, inr, Bool, true, false, cond, List, [], ◌∷◌, ◌++◌, refl, sym, ap, subst, arith}
use Rattle.std.specs.List.{Contains}
use Rattle.std.specs.Bool.{Decides}
use Rattle.std.proofs.lemmas.Bool.Decides.{Decides-and, Decides-eqb}
use Rattle.std.proofs.lemmas.Bool.{cases_lt, true≢false}
use Rattle.std.proofs.lemmas.List.Elements.{Contains-append_right, Contains-append_left, Contains-push}
use Rattle.std.proofs.lemmas.List.Sums.{sum_by-append, sum_by-cons, get_or-le-sum_by}
use Rattle.gd_members.specs.declared.Item.{Item}
use Rattle.cycle_resolver.specs.Order.{same_item, times}

pub item_from_parts : (a b : Item) → (a.member.class ≡ b.member.class) × (a.member.index ≡ b.member.index) × (a.value ≡ b.value) → a ≡ b
item_from_parts a b e =
    let make : ℕ → ℕ → ℕ → Item = λ c i v. record { member = record { class = c; index = i }; value = v } in
    ap (λ c. make c a.member.index a.value) e.0 ∙ ap (λ i. make b.member.class i a.value) e.1 ∙ ap (λ v. make b.member.class b.member.index v) e.2

pub same_item-decides : (a b : Item) → Decides (same_item a b) (a ≡ b)
same_item-decides a b =
    let parts = Decides-and _ _ (Decides-and _ _ (Decides-eqb a.member.class b.member.class) (Decides-eqb a.member.index b.member.index)) (Decides-eqb a.value b.value) in (
      λ t. let p = parts.0 t in item_from_parts a b (p.0.0, p.0.1, p.1),
      λ e. parts.1 ((ap (λ i. i.member.class) e, ap (λ i. i.member.index) e), ap (λ i. i.value) e),
    )

pub same_item-refl : (a : Item) → same_item a a ≡ true
same_item-refl a = (same_item-decides a a).1 refl

pub same_item-or-not : (a b : Item) → (a ≡ b) ⊎ (same_item a b ≡ false)
same_item-or-not a b =
    let P : Bool → Type 0 = λ t. same_item a b ≡ t → (a ≡ b) ⊎ (same_item a b ≡ false) in
    elim (same_item a b) as P [ true ↦ λ e. inl ((same_item-decides a b).0 e) | false ↦ λ e. inr e ] refl

pub same_item-apart : (a b : Item) → same_item a b ≡ false → same_item b a ≡ false
same_item-apart a b apart =
    elim (same_item-or-not b a) as (λ _. same_item b a ≡ false) [
      | inl e ↦ absurd (true≢false (sym ((same_item-decides a b).1 (sym e)) ∙ apart))
      | inr f ↦ f
    ]

pub same-weight : {a b : Bool} → a ≡ b → cond {A = ℕ} a 1 0 ≡ cond b 1 0
same-weight e = let weight : Bool → ℕ = λ t. cond t 1 0 in ap weight e

pub times-append : (x : Item) (xs ys : List Item) → times x (xs ++ ys) ≡ times x xs + times x ys
times-append x xs ys = sum_by-append (λ y. cond (same_item x y) 1 0) xs ys

pub times-cons : (x y : Item) (ys : List Item) → times x (y ∷ ys) ≡ cond (same_item x y) 1 0 + times x ys
times-cons x y ys = sum_by-cons (λ z. cond (same_item x z) 1 0) y ys

pub times-push : (x : Item) (xs : List Item) (y : Item) → times x (xs ++ y ∷ []) ≡ times x xs + cond (same_item x y) 1 0
times-push x xs y =
    let a = times-append x xs (y ∷ []) in
    let b = times-cons x y [] in
    let z : times x [] ≡ 0 = refl in
    omega (arith, a, b, z)

pub times-found : (x : Item) (xs : List Item) → Contains xs x → 1 ≤ times x xs
times-found x xs (k, inside, is) =
    let most = get_or-le-sum_by (λ y. cond (same_item x y) 1 0) xs k x inside in
    let weight : Bool → ℕ = λ t. cond t 1 0 in
    let here = ap (λ y. weight (same_item x y)) is ∙ ap weight (same_item-refl x) in
    omega (arith, most, here)

pub found-times : (x : Item) (xs : List Item) → 1 ≤ times x xs → Contains xs x
found-times x [] h = absurd (omega arith)
found-times x (y ∷ ys) h =
    elim (same_item-or-not x y) as (λ _. Contains (y ∷ ys) x) [
      | inl e ↦ let P : Item → Type 0 = λ z. Contains (z ∷ ys) x in subst P e (Contains-append_left (x ∷ []) ys x (Contains-push [] x))
      | inr other ↦ Contains-append_right (y ∷ []) ys x (found-times x ys (omega (arith, times-cons x y ys, same-weight other)))
    ]

pub not-found : (x : Item) (xs : List Item) → ¬ Contains xs x → times x xs ≡ 0
not-found x xs absent =
    elim (cases_lt 0 (times x xs)) as (λ _. times x xs ≡ 0) [ inl one ↦ absurd (absent (found-times x xs one)) | inr none ↦ omega arith ]
