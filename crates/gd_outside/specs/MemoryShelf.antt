-- What a shelf in memory answers, exactly.
use Rattle.std.specs.Prelude.{ℕ, ◌==◌, Bool, List, map, if◌then◌else◌, Result}
use Rattle.std.specs.List.{list_any, IsDistinct}
use Rattle.std.specs.Prelude.{bytes_eq, Vec}
use Rattle.gd_outside.specs.Cause.{next_count}
use Rattle.gd_outside.specs.Files.{File, paths_of}
use Rattle.gd_outside.specs.Shelf.{failed_after, has_failed}
use Rattle.gd_outside.specs.declared.shelf.FailedCall.{FailedCall}
use Rattle.gd_outside.specs.declared.shelf.ShelfFault.{ShelfFault}

-- the files as the shelf holds them, each a path and the bytes of the file
abbrev pub files_of : {A : Type 0} → List (List ℕ × Vec ℕ A) → List File
files_of files = map (λ file. (file.0, file.1.items)) files

-- no two files have the same path
abbrev pub AreDistinct : List File → Type 0
AreDistinct files = IsDistinct bytes_eq (paths_of files)

-- a shelf in memory: its files by rising path bytes, the numbers of the calls that fail, how many calls there were,
-- how many of them failed, and the one that failed last
pub record ShelfState : Type 0 where
  pub files : List File
  pub fails : List ℕ
  pub calls : ℕ
  pub faults : ℕ
  pub failed : FailedCall

-- the number of the next call is a listed one; the first call is 1
abbrev pub next_fails : ShelfState → Bool
next_fails shelf = list_any (λ number. number == next_count shelf.calls) shelf.fails

-- the shelf after a call that gave this answer
abbrev pub after_call : {T : Type 0} → ShelfState → Result T ShelfFault → FailedCall → ShelfState
after_call shelf result call = record {
  files = shelf.files;
  fails = shelf.fails;
  calls = next_count shelf.calls;
  faults = if has_failed result then next_count shelf.faults else shelf.faults;
  failed = failed_after result shelf.failed call;
}
