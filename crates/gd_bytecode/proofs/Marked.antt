-- The marks of functions before any is marked.
use Rattle.std.proofs.Common.{◌≡◌, ℕ, zero, suc, false, [], ◌++◌, take, get_or, replicate, refl}

none : (m k : ℕ) → get_or (replicate m false) k false ≡ false
none zero k = refl
none (suc m) zero = refl
none (suc m) (suc k) = none m k

pub unmarked : (n m k : ℕ) → get_or (take n [] ++ replicate m false) k false ≡ false
unmarked zero m k = none m k
unmarked (suc n) m k = none m k
