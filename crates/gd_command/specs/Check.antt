-- What reading and judging the scripts of a project answers.
use Rattle.std.specs.Prelude.{◌≡◌, ◌≤◌, ◌<◌, ℕ, List, ◌∷◌, ◌++◌, map, length, take, Some, All, Vec}
use Rattle.std.specs.declared.alloc.Global.{Global}
use Rattle.gd_outside.specs.Files.{File, bytes_at, place_of}
use Rattle.gd_outside.specs.declared.shelf.FailedCall.{FailedCall}
use Rattle.gd_outside.specs.declared.shelf.FailedCall.TheVariants.{Read}
use Rattle.gd_command.specs.Output.{FitsLimits, IsShort, sources_of, total}
use Rattle.gd_command.specs.declared.check.Unread.{Unread}
use Rattle.gd_command.specs.declared.check.Unread.TheVariants as unread

-- the bytes of what was read
abbrev pub bytes_of : List (Vec ℕ Global) → List (List ℕ)
bytes_of sources = map (λ source. source.items) sources

-- a script's bytes are within the limit of one
abbrev pub IsShortSource : Vec ℕ Global → Type 0
IsShortSource source = length source.items ≤ 1048576

-- the reading ended because the shelf failed
abbrev pub IsFailed : Unread → Type 0
IsFailed (unread.Failed _) = Unit {0}
IsFailed _ = ⊥

-- what kept the file with this path from being read
abbrev pub Hinders : List File → FailedCall → List ℕ → Unread → Type 0
Hinders files failed path (unread.Failed named) = (named ≡ path) × (failed ≡ Read (place_of files path))
Hinders files failed path (unread.LongFile named) = (named ≡ path) × (bytes : List ℕ) × (bytes_at files path ≡ Some bytes) × (1048576 < length bytes)
Hinders files failed path unread.LongProject = ⊥
Hinders files failed path unread.NoMemory = Unit {0}

-- each of these files is the one at its path
abbrev pub AreAt : List File → List File → Type 0
AreAt files read = All (λ file. bytes_at files file.0 ≡ Some file.1) read

-- the first n files are short, have so many bytes together, and were kept while these are within the limit
pub record AddUp (read : List File) (n bytes : ℕ) (kept : List (Vec ℕ Global)) : Type 0 where
  pub short : All IsShort (take n read)
  pub together : bytes ≡ total (take n read)
  pub sources : bytes ≤ 4194304 → bytes_of kept ≡ sources_of (take n read)

-- these files were read
pub record AreRead (read : List File) (sources : List (Vec ℕ Global)) : Type 0 where
  pub fits : FitsLimits read
  pub bytes : bytes_of sources ≡ sources_of read

-- the file at this path stands behind these, which are short
abbrev pub Stands : List File → List ℕ → List File → List ℕ → List File → Type 0
Stands read path before bytes after = (read ≡ before ++ ((path, bytes) ∷ after)) × All IsShort before

-- what kept these files from being read
abbrev pub Stops : List File → List File → FailedCall → Unread → Type 0
Stops files read failed (unread.Failed path) = (failed ≡ Read (place_of files path)) × (before : List File) × (bytes : List ℕ) × (after : List File) × Stands read path before bytes after
Stops files read failed (unread.LongFile path) = (before : List File) × (bytes : List ℕ) × (after : List File) × Stands read path before bytes after × (1048576 < length bytes)
Stops files read failed unread.LongProject = All IsShort read × (4194304 < total read)
Stops files read failed unread.NoMemory = Unit {0}
