-- Two types are one, or they are not.
use Rattle.std.proofs.Common.{◌≡◌, ◌≢◌, ℕ, zero, suc, ◌⊎◌, inl, inr, refl, ap, sym, ◌∙◌, subst, true≢false}
use Rattle.std.specs.Prelude.{Bool as Truth, true, false, ◌↔◌, IsTrue}
use Rattle.std.specs.Bool.{Decides, one_answer}
use Rattle.gd_model.specs.declared.ty.Ty.{Ty}
use Rattle.gd_model.specs.declared.ty.Ty.TheOpen.{Ty-F, Variant, Nil, Bool, Int, Str, Callable, Signal, Dict, DictOf, Array, ArrayOf, Class, Void, Meta, Bad}
use Rattle.gd_model.specs.declared.ty.Ty.TheViews.{out-Ty, roll-Ty, out-roll-Ty, roll-out-Ty}
use Rattle.gd_model.specs.declared.ty.Ty.TheFolds.{ind-Ty, map-Ty}

abbrev IsDecided : Ty → Type 0
IsDecided t = (u : Ty) → (t ≡ u) ⊎ (t ≢ u)

-- what `form` makes of two things is one exactly where they are
formed : {X Y : Type 0} → (form : X → Y) (x y : X) → (form x ≡ form y → x ≡ y) → (x ≡ y) ⊎ (x ≢ y) → (form x ≡ form y) ⊎ (form x ≢ form y)
formed form x y back (inl is) = inl (ap form is)
formed form x y back (inr apart) = inr (λ is. apart (back is))

same_number : (c d : ℕ) → (c ≡ d) ⊎ (c ≢ d)
same_number zero zero = inl refl
same_number (suc c) (suc d) = formed suc c d (λ is. cc) (same_number c d)
same_number _ _ = inr (λ is. cc)

same_dict : (s t u w : Ty) → (s ≡ u) ⊎ (s ≢ u) → (t ≡ w) ⊎ (t ≢ w) → (DictOf s t ≡ DictOf u w) ⊎ (DictOf s t ≢ DictOf u w)
same_dict s t u w (inl is) (inl it) = inl (λ i. DictOf (is i) (it i))
same_dict s t u w (inr apart) also = inr (λ is. let same : s ≡ u = cc in apart same)
same_dict s t u w is (inr apart) = inr (λ it. let same : t ≡ w = cc in apart same)

-- a layer whose types are decided
same_layer : (x : Ty-F ((t : Ty) × IsDecided t)) (z : Ty-F Ty) → (map-Ty ((t : Ty) × IsDecided t) Ty (λ e. e.0) x ≡ z) ⊎ (map-Ty ((t : Ty) × IsDecided t) Ty (λ e. e.0) x ≢ z)
same_layer Variant Variant = inl refl
same_layer Nil Nil = inl refl
same_layer Bool Bool = inl refl
same_layer Int Int = inl refl
same_layer Str Str = inl refl
same_layer Callable Callable = inl refl
same_layer Signal Signal = inl refl
same_layer Dict Dict = inl refl
same_layer (DictOf k v) (DictOf l w) = same_dict k.0 v.0 l w (k.1 l) (v.1 w)
same_layer Array Array = inl refl
same_layer (ArrayOf t) (ArrayOf u) = formed {Y = Ty-F Ty} (λ e. ArrayOf e) t.0 u (λ is. cc) (t.1 u)
same_layer (Class c) (Class d) = formed {Y = Ty-F Ty} (λ e. Class e) c d (λ is. cc) (same_number c d)
same_layer Void Void = inl refl
same_layer (Meta c) (Meta d) = formed {Y = Ty-F Ty} (λ e. Meta e) c d (λ is. cc) (same_number c d)
same_layer Bad Bad = inl refl
same_layer _ _ = inr (λ is. cc)

-- from layers to the types
rolled : (x : Ty-F Ty) (u : Ty) → (x ≡ out-Ty u) ⊎ (x ≢ out-Ty u) → (roll-Ty x ≡ u) ⊎ (roll-Ty x ≢ u)
rolled x u (inl is) = inl (ap roll-Ty is ∙ roll-out-Ty u)
rolled x u (inr apart) = inr (λ is. apart (sym (out-roll-Ty x) ∙ ap out-Ty is))

pub same_or_apart : (t u : Ty) → (t ≡ u) ⊎ (t ≢ u)
same_or_apart = ind-Ty IsDecided (λ x y is. λ u. rolled x u (subst (λ (z : Ty-F Ty). (z ≡ out-Ty u) ⊎ (z ≢ out-Ty u)) is (same_layer y (out-Ty u))))

abbrev is_one : {A B : Type 0} → A ⊎ B → Truth
is_one (inl a) = true
is_one (inr b) = false

-- whether two types are one
pub same_type : Ty → Ty → Truth
same_type t u = is_one (same_or_apart t u)

decides : {A : Type 0} → (d : A ⊎ (A → ⊥)) → Decides (is_one d) A
decides (inl a) = (λ e. a, λ a. refl)
decides (inr apart) = (λ e. absurd (true≢false (sym e)), λ a. absurd (apart a))

pub same_type-Decides : (t u : Ty) → Decides (same_type t u) (t ≡ u)
unfolding same_type
same_type-Decides t u = decides (same_or_apart t u)

-- what decides whether two types are one is that test
pub by_deciding : (b : Truth) (t u : Ty) → IsTrue b ↔ (t ≡ u) → b ≡ same_type t u
by_deciding b t u d = one_answer b (same_type t u) (λ e. d.0 e, λ e. d.1 e) (same_type-Decides t u)
