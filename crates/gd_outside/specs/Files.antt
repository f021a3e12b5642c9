-- The files that a shelf tells, as a list of pairs: the bytes of a path and the bytes of the file.
use Rattle.std.specs.Prelude.{◌≡◌, ℕ, ◌+◌, List, map, take, Option, Some, bytes_eq}
use Rattle.std.specs.Ordering.{nat_cmp}
use Rattle.std.specs.Cmp.Lexicographic.{slice_cmp}
use Rattle.std.specs.List.Sorted.{IsStrictlySortedBy}
use Rattle.std.specs.List.{position_or_len}
use Rattle.std.specs.Map.{lookup}

-- the bytes of a path and those of the file
abbrev pub File : Type 0
File = List ℕ × List ℕ

-- the paths of the files, in their order
abbrev pub paths_of : List File → List (List ℕ)
paths_of files = map (λ file. file.0) files

-- each path is below all those after it, by its bytes; so no two are equal
abbrev pub IsRising : List (List ℕ) → Type 0
IsRising paths = IsStrictlySortedBy (slice_cmp nat_cmp) paths

-- the bytes of the file with this path
abbrev pub bytes_at : List File → List ℕ → Option (List ℕ)
bytes_at files path = lookup (λ name. bytes_eq name path) files

-- the place of the file with this path, counted from 0; the number of the files where there is none
abbrev pub place_of : List File → List ℕ → ℕ
place_of files path = position_or_len (λ file. bytes_eq file.0 path) files

-- a read of this path found the first most + 1 bytes of the file, or all of them
abbrev pub Reads : List File → List ℕ → ℕ → List ℕ → Type 0
Reads files path most found = (bytes : List ℕ) × (bytes_at files path ≡ Some bytes) × (found ≡ take (most + 1) bytes)
