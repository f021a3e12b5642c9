-- Where the file with a path stands in a list of files.
use Rattle.std.proofs.Common.{◌≡◌, ◌≤◌, ◌+◌, ◌==◌, ℕ, zero, suc, List, [], ◌∷◌, Bool, true, false, not, cond, length, refl, sym, ◌∙◌, ap, arith, bytes_eq, Vec, Option, Some, None, is_none, slice_get, unwrap_or, ltb, ◌<◌, ◌++◌, take, get_or}
use Rattle.std.specs.List.{position_or_len}
use Rattle.std.proofs.lemmas.List.{length-map, take_more}
use Rattle.gd_outside.specs.Files.{File, bytes_at, paths_of, place_of}
use Rattle.gd_outside.specs.MemoryShelf.{files_of}

-- the place among the files as the shelf holds them
pub place_of-files_of : {A : Type 0} (files : List (List ℕ × Vec ℕ A)) (path : List ℕ) → position_or_len (λ file. bytes_eq file.0 path) files ≡ place_of (files_of files) path
place_of-files_of [] path = refl
place_of-files_of (file ∷ files) path = ap (λ n. cond (not (bytes_eq file.0 path)) (1 + n) 0) (place_of-files_of files path)

pub place_of-bound : (files : List File) (path : List ℕ) → place_of files path ≤ length files
place_of-bound [] path = omega arith
place_of-bound (file ∷ files) path = by (bytes_eq file.0 path) _ _ (place_of-bound files path)
  where
    by : (found : Bool) (place count : ℕ) → place ≤ count → cond (not found) (1 + place) 0 ≤ suc count
    by true place count le = omega arith
    by false place count le = omega arith

-- a path that is not there has the number of the files for its place
pub bytes_at-missing : (files : List File) (path : List ℕ) → is_none (bytes_at files path) ≡ (place_of files path == length files)
bytes_at-missing [] path = refl
bytes_at-missing (file ∷ files) path = by (bytes_eq file.0 path) file.1 _ _ _ (bytes_at-missing files path)
  where
    by : (found : Bool) (bytes : List ℕ) (rest : Option (List ℕ)) (place count : ℕ) → is_none rest ≡ (place == count) → is_none (cond found (Some bytes) rest) ≡ (cond (not found) (1 + place) 0 == suc count)
    by true bytes rest place count e = grind arith
    by false bytes rest place count e = grind arith

-- the file at the place of a path has the bytes
pub bytes_at-found : (files : List File) (path : List ℕ) (file : File) → slice_get files (place_of files path) ≡ Some file → bytes_at files path ≡ Some file.1
bytes_at-found [] path file e = grind arith
bytes_at-found (first ∷ files) path file e = by (bytes_eq first.0 path) first files _ file (bytes_at-found files path file) e
  where
    by : (found : Bool) (first : File) (files : List File) (place : ℕ) (file : File) → {rest : Option (List ℕ)} → (slice_get files place ≡ Some file → rest ≡ Some file.1) → slice_get (first ∷ files) (cond (not found) (1 + place) 0) ≡ Some file → cond found (Some first.1) rest ≡ Some file.1
    by true first files place file below e = grind arith
    by false first files place file below e = grind (arith, below)

-- an element of the files as the shelf holds them is a file of the list
pub slice_get-files_of : {A : Type 0} (files : List (List ℕ × Vec ℕ A)) (place : ℕ) (file : List ℕ × Vec ℕ A) → slice_get files place ≡ Some file → slice_get (files_of files) place ≡ Some (file.0, file.1.items)
slice_get-files_of [] place file e = grind arith
slice_get-files_of (first ∷ files) zero file e = grind arith
slice_get-files_of (first ∷ files) (suc place) file e = slice_get-files_of files place file e

-- a place that is within a list, or else its length, out of what `position` answers
within : (place count : ℕ) → place ≤ count → unwrap_or (cond (ltb place count) (Some place) None) count ≡ place
within place count le = grind arith

pub length-files_of : {A : Type 0} (files : List (List ℕ × Vec ℕ A)) → length (files_of files) ≡ length files
length-files_of files = length-map files _

pub place_of-position : {A : Type 0} (files : List (List ℕ × Vec ℕ A)) (path : List ℕ) (position : Option ℕ) (place : ℕ) → position ≡ cond (ltb (position_or_len (λ file. bytes_eq file.0 path) files) (length files)) (Some (position_or_len (λ file. bytes_eq file.0 path) files)) None → place ≡ unwrap_or position (length files) → place ≡ place_of (files_of files) path
place_of-position files path position place answer chosen =
    let same = place_of-files_of files path in
    let le : position_or_len (λ file. bytes_eq file.0 path) files ≤ length files = rw (same, ← length-files_of files) (place_of-bound (files_of files) path) in
    chosen ∙ ap (λ o. unwrap_or o (length files)) answer ∙ within _ _ le ∙ same

path-at : {A : Type 0} (files : List (List ℕ × Vec ℕ A)) (place : ℕ) (file : List ℕ × Vec ℕ A) → get_or (paths_of (files_of files)) place file.0 ≡ (get_or files place file).0
path-at [] place file = refl
path-at (first ∷ files) zero file = refl
path-at (first ∷ files) (suc place) file = path-at files place file

-- one more path than before
pub take-paths_of : {A : Type 0} (files : List (List ℕ × Vec ℕ A)) (place : ℕ) (file : List ℕ × Vec ℕ A) → place < length files → file ≡ get_or files place file → take (place + 1) (paths_of (files_of files)) ≡ take place (paths_of (files_of files)) ++ file.0 ∷ []
take-paths_of {A = A} files place file lt item =
    let count : length (paths_of (files_of files)) ≡ length files = length-map (files_of files) _ ∙ length-files_of files in
    let path : get_or (paths_of (files_of files)) place file.0 ≡ file.0 = path-at files place file ∙ ap fst (sym item) in
    take_more _ place file.0 (rw count lt) ∙ ap (λ p. take place (paths_of (files_of files)) ++ p ∷ []) path
  where
    fst : List ℕ × Vec ℕ A → List ℕ
    fst file = file.0
