-- What is read and cut at a place, and a pair by its parts.
use Rattle.std.proofs.Common.{◌≡◌, ℕ, ◌-◌, ◌<◌, min, Bool, true, false, cond, List, [], ◌∷◌, length, take, drop, get_or, Option, None, Some, option_map, ℤ, option_and_then, slice_get, sym, ap, ◌∙◌, subst, refl, inl, inr, arith, to_z, of_z, w64, SFits}
use Rattle.std.specs.List.{slice_range}
use Rattle.std.specs.Map.{lookup, lookup_key, lookup_entry}
use Rattle.std.proofs.lemmas.Option.{slice_get_read}
use Rattle.std.proofs.lemmas.Bool.{cases_lt}
use Rattle.std.proofs.lemmas.Int.{to_z-of_z}
use Rattle.gd_model.specs.declared.value.Value.{Value}
use Rattle.gd_model.specs.Place.{place, clamped}
use Rattle.gd_containers.specs.Answers.{item_at}

-- an element that was read at the place that a number names
pub item_at-read : (xs ys : List Value) (at : ℤ) (n i : ℕ) (x : Value) → SFits w64 at → xs ≡ ys → Some i ≡ place (to_z w64 (of_z w64 at)) n → n ≡ length xs → i < n → x ≡ get_or xs i x → item_at ys at ≡ Some x
item_at-read xs ys at n i x fits same passed len within read =
    let found : Some i ≡ place at n = subst (λ (z : ℤ). Some i ≡ place z n) (to_z-of_z w64 at fits) passed in
    let e : item_at xs at ≡ Some x =
    ap (λ m. option_and_then (λ j. slice_get xs j) (place at m)) (sym len) ∙ ap (option_and_then (λ j. slice_get xs j)) (sym found) ∙ slice_get_read xs n i x len within read in
    subst (λ zs. item_at zs at ≡ Some x) same e

past : {X : Type 0} (xs : List X) (a b m : ℕ) → m ≡ b → b < a → slice_range xs m b ≡ slice_range xs a b
past xs a b m e lt =
    let none : b - m ≡ 0 = omega arith in
    let void : 0 ≡ b - a = omega arith in
    ap (λ k. take k (drop m xs)) none ∙ ap (λ k. take k (drop a xs)) void

-- a range that would end before it begins is empty
pub slice_range-min : {X : Type 0} (xs : List X) (a b : ℕ) → slice_range xs (min a b) b ≡ slice_range xs a b
slice_range-min xs a b =
    elim (cases_lt b a) [
      | inl lt ↦ past xs a b (min a b) (omega arith) lt
      | inr ge ↦ ap (λ m. slice_range xs m b) (omega arith)
    ]

-- what is copied between two clamped places
pub slice_range-clamped : (xs ys out : List Value) (from to : ℤ) (n o a b m : ℕ) → SFits w64 from → SFits w64 to → xs ≡ ys → n ≡ length xs → o ≡ length xs → a ≡ clamped (to_z w64 (of_z w64 from)) n → b ≡ clamped (to_z w64 (of_z w64 to)) o → m ≡ min a b → out ≡ slice_range xs m b → out ≡ slice_range ys (clamped from (length ys)) (clamped to (length ys))
slice_range-clamped xs ys out from to n o a b m f t same len len' first end least made =
    let a-is : a ≡ clamped from (length xs) = first ∙ ap (λ (z : ℤ). clamped z n) (to_z-of_z w64 from f) ∙ ap (clamped from) len in
    let b-is : b ≡ clamped to (length xs) = end ∙ ap (λ (z : ℤ). clamped z o) (to_z-of_z w64 to t) ∙ ap (clamped to) len' in
    made ∙ ap (λ k. slice_range xs k b) least ∙ slice_range-min xs a b ∙ ap (λ k. slice_range xs k b) a-is ∙ ap (slice_range xs (clamped from (length xs))) b-is
    ∙ ap (λ (zs : List Value). slice_range zs (clamped from (length zs)) (clamped to (length zs))) same

module _ {K X : Type 0} where
  one_key : (b : Bool) (e : K × X) (k : Option K) (s : Option (K × X)) → k ≡ option_map (λ p. p.0) s → cond b (Some e.0) k ≡ option_map (λ p. p.0) (cond b (Some e) s)
  one_key true e k s h = refl
  one_key false e k s h = h

  one_value : (b : Bool) (e : K × X) (x : Option X) (s : Option (K × X)) → x ≡ option_map (λ p. p.1) s → cond b (Some e.1) x ≡ option_map (λ p. p.1) (cond b (Some e) s)
  one_value true e x s h = refl
  one_value false e x s h = h

  key-of_entry : (test : K → Bool) (es : List (K × X)) → lookup_key test es ≡ option_map (λ p. p.0) (lookup_entry test es)
  key-of_entry test [] = refl
  key-of_entry test (e ∷ es) = one_key (test e.0) e _ _ (key-of_entry test es)

  value-of_entry : (test : K → Bool) (es : List (K × X)) → lookup test es ≡ option_map (λ p. p.1) (lookup_entry test es)
  value-of_entry test [] = refl
  value-of_entry test (e ∷ es) = one_value (test e.0) e _ _ (value-of_entry test es)

  same_parts : (r s : Option (K × X)) → option_map (λ p. p.0) r ≡ option_map (λ p. p.0) s → option_map (λ p. p.1) r ≡ option_map (λ p. p.1) s → r ≡ s
  same_parts None None e f = refl
  same_parts (Some p) (Some q) e f = let k : p.0 ≡ q.0 = cc in let v : p.1 ≡ q.1 = cc in λ i. Some (k i, v i)
  same_parts None (Some q) e f = cc
  same_parts (Some p) None e f = cc

  -- an entry that was found, by its key and its value
  pub entry-from_parts : (test : K → Bool) (es : List (K × X)) (r : Option (K × X)) → option_map (λ p. p.0) r ≡ lookup_key test es → option_map (λ p. p.1) r ≡ lookup test es → r ≡ lookup_entry test es
  entry-from_parts test es r e f = same_parts r (lookup_entry test es) (e ∙ key-of_entry test es) (f ∙ value-of_entry test es)
