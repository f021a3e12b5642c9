-- The bases of classes by their numbers.
use Rattle.std.specs.Prelude.{ℕ, zero, suc, List, [], ◌∷◌, ◌++◌, length, slice_get, unwrap_or}

-- the base of a class, 0 being RefCounted
abbrev pub parent_of : List ℕ → ℕ → ℕ
parent_of parents k = unwrap_or (slice_get parents k) 0

-- the class, its base, that one's base and so on, up to so many
abbrev pub up : ℕ → List ℕ → ℕ → List ℕ
up zero parents k = []
up (suc n) parents zero = []
up (suc n) parents (suc c) = suc c ∷ up n parents (parent_of parents (suc c))

-- all bases of a class, itself first and RefCounted last
abbrev pub bases_of : List ℕ → ℕ → List ℕ
bases_of parents k = up (length parents) parents k ++ 0 ∷ []
