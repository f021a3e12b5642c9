-- A walk along the bases of a class.
use Rattle.std.proofs.Common.{◌≡◌, ℕ, zero, suc, ◌+◌, ◌-◌, ◌<◌, List, [], ◌∷◌, ◌++◌, sym, subst, arith}
use Rattle.std.specs.Prelude.{Bool}
use Rattle.std.proofs.lemmas.Bool.Decides.{nat_tests}
use Rattle.assignability.specs.Assign.{is_among}
use Rattle.gd_vm.specs.Parents.{parent_of, up}

-- whether the base is among the next so many, or RefCounted
abbrev pub left : List ℕ → ℕ → ℕ → ℕ → Bool
left ps base m at = is_among (up m ps at ++ 0 ∷ []) base

one_left : (n k : ℕ) → k < n → n - k ≡ suc (n - (k + 1))
one_left n k h = omega arith

next_of : (m : ℕ) (ps : List ℕ) (at base : ℕ) → 0 < at → (at ≡ base → ⊥) →
    left ps base m (parent_of ps at) ≡ left ps base (suc m) at
next_of m ps zero base h other = absurd (omega arith)
next_of m ps (suc c) base h other = grind (arith, nat_tests)

-- a class that is not the base, and not RefCounted
pub passed : (n k : ℕ) (ps : List ℕ) (at base : ℕ) → k < n → 0 < at → (at ≡ base → ⊥) →
    left ps base (n - (k + 1)) (parent_of ps at) ≡ left ps base (n - k) at
passed n k ps at base h some other =
    subst (λ (m : ℕ). left ps base (n - (k + 1)) (parent_of ps at) ≡ left ps base m at) (sym (one_left n k h))
    (next_of (n - (k + 1)) ps at base some other)
