-- Which bytes name a file of a project.
use Rattle.std.specs.Prelude.{ℕ, ◌≤◌, ◌==◌, ◌||◌, Bool, not, List, [], ◌∷◌, length, bytes_eq}
use Rattle.std.specs.List.{AllPass, slice_split}

-- the parts of a path round each `/` (47), the first and the last part included
abbrev pub segments : List ℕ → List (List ℕ)
segments bytes = slice_split (λ b. b == 47) bytes

-- a part names a file or a folder unless it is empty, `.` or `..`
abbrev pub is_segment : List ℕ → Bool
is_segment part = not (bytes_eq part [] || bytes_eq part (46 ∷ []) || bytes_eq part (46 ∷ 46 ∷ []))

-- at most 1,024 bytes, and each part is a name; the empty text has one part, which is empty
pub record IsPath (bytes : List ℕ) : Type 0 where
  pub not_long : length bytes ≤ 1024
  pub names : AllPass is_segment (segments bytes)
