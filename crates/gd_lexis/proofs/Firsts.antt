-- A file has at most one first fault.
use Rattle.std.proofs.Common.{◌≡◌, ℕ, ◌≤◌, List, subst, arith, inl, inr}
use Rattle.std.specs.Prelude.{◌⊎◌}
use Rattle.gd_syntax.specs.declared.pos.Pos.{Pos}
use Rattle.gd_rules.specs.declared.rule.Rule.{Rule}
use Rattle.gd_lexis.specs.Faults.{FirstFault, IsBefore, number}

not_both : (p q : Pos) → IsBefore p q → IsBefore q p → ⊥
not_both p q (inl a) (inl b) = omega arith
not_both p q (inl a) (inr b) = omega arith
not_both p q (inr a) (inl b) = omega arith
not_both p q (inr a) (inr b) = omega arith

not_self : (p q : Pos) → p ≡ q → IsBefore p q → ⊥
not_self p q e h = let P : Pos → Type 0 = λ t. IsBefore t q in let same : IsBefore q q = subst P e h in not_both q q same same

agree : (p q : Pos) (m n : ℕ) → IsBefore p q ⊎ ((q ≡ p) × (m ≤ n)) → IsBefore q p ⊎ ((p ≡ q) × (n ≤ m)) → (p ≡ q) × (m ≡ n)
agree p q m n (inl a) (inl b) = absurd (not_both p q a b)
agree p q m n (inl a) (inr b) = absurd (not_self p q b.0 a)
agree p q m n (inr a) (inl b) = absurd (not_self q p a.0 b)
agree p q m n (inr a) (inr b) = (b.0, omega arith)

pub one_first_fault : (file : ℕ) (bytes : List ℕ) (at place : Pos) (rule other : Rule) → FirstFault file bytes at rule → FirstFault file bytes place other
    → (at ≡ place) × (number rule ≡ number other)
one_first_fault file bytes at place rule other h k = agree at place (number rule) (number other) (h.first other place k.broken) (k.first rule at h.broken)
