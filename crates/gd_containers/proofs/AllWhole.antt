-- What lies in lists of whole values is whole.
use Rattle.std.proofs.Common.{◌≡◌, ℕ, zero, suc, ◌-◌, List, [], ◌∷◌, length, take, drop, Option, Some, sym, subst}
use Rattle.std.specs.List.{AllByRecursion, slice_get}
use Rattle.std.proofs.lemmas.List.{take_rest}
use Rattle.slot_arena.specs.declared.handle.Handle.{Handle}
use Rattle.gd_model.specs.declared.key.Key.{Key}
use Rattle.gd_model.specs.declared.value.Value.{Value}
use Rattle.gd_model.specs.Store.{Names}
use Rattle.gd_model.specs.View.{ThingView}
use Rattle.gd_model.specs.Whole.{WholeFor, Whole, AllWhole, key_value, pair_values}

one_of : {X : Type 0} → (P : X → Type 0) (xs : List X) (i : ℕ) (x : X) → slice_get xs i ≡ Some x → AllByRecursion P xs → P x
one_of P [] i x e h = cc
one_of P (y ∷ ys) zero x e h = let same : y ≡ x = cc in subst P same h.0
one_of P (y ∷ ys) (suc i) x e h = one_of P ys i x e h.1

without_first : {X : Type 0} → (P : X → Type 0) (xs : List X) → AllByRecursion P xs → AllByRecursion P (drop 1 xs)
without_first P [] h = tt
without_first P (x ∷ xs) h = h.1

pair_of : (P : Value → Type 0) (ps : List (Key × Value)) (i : ℕ) (p : Key × Value) → slice_get ps i ≡ Some p → AllByRecursion P (pair_values ps) → P (key_value p.0) × P p.1
pair_of P [] i p e h = cc
pair_of P (q ∷ qs) zero p e h = let same : q ≡ p = cc in subst (λ (r : Key × Value). P (key_value r.0) × P r.1) same (h.0, h.1.0)
pair_of P (q ∷ qs) (suc i) p e h = pair_of P qs i p e h.1.1

module _ (things : Handle → Option ThingView) (names : Names) where
  -- the value at a place
  pub whole_at : (xs : List Value) (i : ℕ) (x : Value) → slice_get xs i ≡ Some x → AllWhole things names xs → Whole things names x
  whole_at xs i x e h = λ n. one_of (WholeFor things names n) xs i x e (h n)

  -- the values behind the first
  pub whole_rest : (xs : List Value) → AllWhole things names xs → AllWhole things names (take (length xs - 1) (drop 1 xs))
  whole_rest xs h = λ n. subst (AllByRecursion (WholeFor things names n)) (sym (take_rest xs 1)) (without_first (WholeFor things names n) xs (h n))

  -- the key and the value of the pair at a place
  pub whole_pair : (ps : List (Key × Value)) (i : ℕ) (p : Key × Value) → slice_get ps i ≡ Some p → AllWhole things names (pair_values ps) → Whole things names (key_value p.0) × Whole things names p.1
  whole_pair ps i p e h = (λ n. (pair_of (WholeFor things names n) ps i p e (h n)).0, λ n. (pair_of (WholeFor things names n) ps i p e (h n)).1)
