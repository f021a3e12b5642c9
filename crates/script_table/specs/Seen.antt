-- What contracts see of a table.
use Rattle.std.specs.Prelude.{ℕ, ◌<◌, ◌==◌, List, [], ◌∷◌, if◌then◌else◌, Option, None, slice_get, unwrap_or}
use Prim.Native.Nat.{zero, suc}
use Rattle.gd_names.specs.Trees.{Project}

-- the files that the table was built from, and the base of each class by its number; that of RefCounted does not count
pub record Seen : Type 0 where
  pub project : Project
  pub bases : List ℕ

-- the base of a class, which RefCounted has not
abbrev pub base_of : List ℕ → ℕ → Option ℕ
base_of bases class = if class == 0 then None else slice_get bases class

-- the base, or RefCounted
abbrev pub next : List ℕ → ℕ → ℕ
next bases class = unwrap_or (slice_get bases class) 0

-- the class, its base, that one's base and so on, down to RefCounted; at most so many
abbrev pub line : ℕ → List ℕ → ℕ → List ℕ
line zero bases class = []
line (suc steps) bases class = class ∷ (if class == 0 then [] else line steps bases (next bases class))

-- all of them, where each base has a lower number
abbrev pub line_of : List ℕ → ℕ → List ℕ
line_of bases class = line (suc class) bases class

-- each base has a lower number
abbrev pub IsFalling : List ℕ → Type 0
IsFalling bases = (class : ℕ) → 0 < class → next bases class < class
