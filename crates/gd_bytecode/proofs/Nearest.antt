-- The nearest `test`, as a loop comes to it.
use Rattle.std.proofs.Common.{◌≡◌, ◌<◌, ◌≤◌, ◌+◌, ◌-◌, ℕ, suc, Option, None, ap, arith}
use Rattle.gd_bytecode.specs.declared.program.Program.{Program}
use Rattle.gd_bytecode.specs.MainClass.{nearest_test, test_from, class_at}

pub nearest_more : (n k : ℕ) (p : Program) (at : Option ℕ) → k < n
    → nearest_test (n - k) p at ≡ test_from p (nearest_test (n - (k + 1)) p) (class_at p at)
nearest_more n k p at lt = let e : n - k ≡ suc (n - (k + 1)) = omega arith in ap (λ m. nearest_test m p at) e

pub nearest_end : (n k : ℕ) (p : Program) (at : Option ℕ) → n ≤ k → nearest_test (n - k) p at ≡ None
nearest_end n k p at le = let e : n - k ≡ 0 = omega arith in ap (λ m. nearest_test m p at) e
