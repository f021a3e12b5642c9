-- Comparing refuses only what is too deep.
use Rattle.std.proofs.Common.{◌≡◌, ℕ, zero, suc, ◌+◌, Bool, true, false, List, [], ◌∷◌, length, nat_eq, ◌==◌, Option, None, Some, Result, Ok, Err, refl, ap, sym, ◌∙◌, if◌then◌else◌}
use Rattle.gd_model.specs.declared.fault.RunFault.{RunFault}
use Rattle.gd_model.specs.declared.fault.RunFault.TheVariants.{TooDeepToCompare}
use Rattle.gd_model.specs.Datum as d
use Rattle.gd_model.specs.Datum.{Datum}
use Rattle.gd_model.specs.Store.{Store, ArrayThing, DictThing, array_at, dict_at, value_at}
use Rattle.value_semantics.specs.Answer.{and_then}
use Rattle.value_semantics.specs.Equality.{Comparing, and_also, same_items, same_at, same_pairs, same_arrays, same_dicts, arrays_by, dicts_by, same_by, inside, same}
use Rattle.value_semantics.specs.Methods.{count_from, first_key}
use Rattle.value_semantics.specs.Operators.{first_place}

-- whether a meaning is no refusal, or that of what is too deep
abbrev pub deep_only : {A : Type 0} → Result A RunFault → Bool
deep_only (Err TooDeepToCompare) = true
deep_only (Err f) = false
deep_only (Ok x) = true

deep_then : {A B : Type 0} → (more : A → Result B RunFault) (m : Result A RunFault) → deep_only m ≡ true → ((x : A) → deep_only (more x) ≡ true) → deep_only (and_then m more) ≡ true
deep_then more (Err TooDeepToCompare) f g = refl
deep_then more (Err _) f g = cc
deep_then more (Ok x) f g = g x

deep_if : {A : Type 0} → (b : Bool) (m n : Result A RunFault) → deep_only m ≡ true → deep_only n ≡ true → deep_only (if b then m else n) ≡ true
deep_if true m n f g = f
deep_if false m n f g = g

deep_also : (m n : Result Bool RunFault) → deep_only m ≡ true → deep_only n ≡ true → deep_only (and_also m n) ≡ true
deep_also m n f g = deep_then (λ yes. if yes then n else Ok false) m f (λ yes. deep_if yes n (Ok false) g refl)

module _ (eq : Comparing) (f : (x y : Datum) → deep_only (eq x y) ≡ true) where
  deep_items : (xs ys : List Datum) → deep_only (same_items eq xs ys) ≡ true
  deep_items [] ys = refl
  deep_items (x ∷ xs) [] = refl
  deep_items (x ∷ xs) (y ∷ ys) = deep_also (eq x y) (same_items eq xs ys) (f x y) (deep_items xs ys)

  deep_at : (x : Datum) (o : Option Datum) → deep_only (same_at eq x o) ≡ true
  deep_at x None = refl
  deep_at x (Some w) = f x w

  deep_pairs : (ps others : List (Datum × Datum)) → deep_only (same_pairs eq ps others) ≡ true
  deep_pairs [] others = refl
  deep_pairs (p ∷ ps) others = deep_also (same_at eq p.1 (value_at others p.0)) (same_pairs eq ps others) (deep_at p.1 (value_at others p.0)) (deep_pairs ps others)

  deep_arrays : (x y : ArrayThing) → deep_only (same_arrays eq x y) ≡ true
  deep_arrays x y = deep_if (length x.items == length y.items) (same_items eq x.items y.items) (Ok false) (deep_items x.items y.items) refl

  deep_dicts : (x y : DictThing) → deep_only (same_dicts eq x y) ≡ true
  deep_dicts x y = deep_if (length x.pairs == length y.pairs) (same_pairs eq x.pairs y.pairs) (Ok false) (deep_pairs x.pairs y.pairs) refl

-- how what lies inside is compared refuses only that, where it is compared
abbrev DeepInside : Option Comparing → Type 0
DeepInside i = (f : Comparing) → i ≡ Some f → (x y : Datum) → deep_only (f x y) ≡ true

module _ (store : Store) where
  deep_arrays_by : (i : Option Comparing) → DeepInside i → (s t : ℕ) → deep_only (arrays_by store i s t) ≡ true
  deep_arrays_by None f s t = refl
  deep_arrays_by (Some eq) f s t = deep_arrays eq (f eq refl) (array_at store s) (array_at store t)

  deep_dicts_by : (i : Option Comparing) → DeepInside i → (s t : ℕ) → deep_only (dicts_by store i s t) ≡ true
  deep_dicts_by None f s t = refl
  deep_dicts_by (Some eq) f s t = deep_dicts eq (f eq refl) (dict_at store s) (dict_at store t)

  deep_by : (i : Option Comparing) → DeepInside i → (a b : Datum) → deep_only (same_by store i a b) ≡ true
  deep_by i f (d.array s) (d.array t) = deep_if (nat_eq s t) (Ok true) (arrays_by store i s t) refl (deep_arrays_by i f s t)
  deep_by i f (d.dictionary s) (d.dictionary t) = deep_if (nat_eq s t) (Ok true) (dicts_by store i s t) refl (deep_dicts_by i f s t)
  deep_by i f _ _ = refl

  deep_inside : (room : ℕ) → DeepInside (inside store room)
  unfolding inside
  deep_inside zero f e x y = cc
  deep_inside (suc room) f e x y =
      let same : same_by store (inside store room) ≡ f = cc in
      ap (λ (eq : Comparing). deep_only (eq x y)) (sym same) ∙ deep_by (inside store room) (deep_inside room) x y

  pub deep_same : (a b : Datum) → deep_only (same store a b) ≡ true
  deep_same a b = deep_by (inside store 64) (deep_inside 64) a b

module _ (test : Datum → Result Bool RunFault) (f : (x : Datum) → deep_only (test x) ≡ true) where
  pub deep_place : (place : ℕ) (xs : List Datum) → deep_only (first_place test place xs) ≡ true
  deep_place place [] = refl
  deep_place place (x ∷ xs) =
      deep_then (λ yes. if yes then Ok (Some place) else first_place test (place + 1) xs) (test x) (f x)
      (λ yes. deep_if yes (Ok (Some place)) (first_place test (place + 1) xs) refl (deep_place (place + 1) xs))

  pub deep_count : (n : ℕ) (xs : List Datum) → deep_only (count_from test n xs) ≡ true
  deep_count n [] = refl
  deep_count n (x ∷ xs) = deep_then (λ yes. count_from test (n + (if yes then 1 else 0)) xs) (test x) (f x) (λ yes. deep_count (n + (if yes then 1 else 0)) xs)

  pub deep_key : (ps : List (Datum × Datum)) → deep_only (first_key test ps) ≡ true
  deep_key [] = refl
  deep_key (p ∷ ps) =
      deep_then (λ yes. if yes then Ok p.0 else first_key test ps) (test p.1) (f p.1)
      (λ yes. deep_if yes (Ok p.0) (first_key test ps) refl (deep_key ps))
