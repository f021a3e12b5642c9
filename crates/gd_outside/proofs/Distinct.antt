-- When the paths of files are distinct.
use Rattle.std.proofs.Common.{◌≡◌, ◌<◌, ◌≤◌, ◌+◌, ◌==◌, ℕ, zero, suc, List, [], ◌∷◌, Bool, true, false, length, drop, get_or, refl, sym, ◌∙◌, ap, subst, arith, bytes_eq, Vec, Option, Some, is_none, cond, add-one, drop-cons}
use Rattle.std.proofs.lemmas.Bool.{true≢false}
use Rattle.std.proofs.lemmas.Bool.Decides.{nat_tests}
use Rattle.std.specs.List.{AllByRecursion, IsDistinct}
use Rattle.std.specs.Cmp.Lexicographic.{nat_list_eq_equiv}
use Rattle.std.proofs.lemmas.Map.Keys.{IsDistinct-cons, IsDistinct-head, IsDistinct-tail}
use Rattle.gd_outside.specs.Files.{File, bytes_at, paths_of}
use Rattle.gd_outside.specs.MemoryShelf.{AreDistinct, files_of}

-- where a path is that of no file, each file has another
pub differs-absent : (files : List File) (path : List ℕ) → is_none (bytes_at files path) ≡ true → AllByRecursion (λ other. bytes_eq path other ≡ false) (paths_of files)
differs-absent [] path none = tt
differs-absent (file ∷ files) path none =
    let split = by (bytes_eq file.0 path) (Some file.1) (bytes_at files path) refl none in
    (nat_list_eq_equiv.symm path file.0 ∙ split.0, differs-absent files path split.1)
  where
    by : (same : Bool) (here rest : Option (List ℕ)) → is_none here ≡ false → is_none (cond same here rest) ≡ true → (same ≡ false) × (is_none rest ≡ true)
    by true here rest some none = absurd (true≢false (sym none ∙ some))
    by false here rest some none = (refl, none)

pub absent-differs : (files : List File) (path : List ℕ) → AllByRecursion (λ other. bytes_eq path other ≡ false) (paths_of files) → is_none (bytes_at files path) ≡ true
absent-differs [] path differs = refl
absent-differs (file ∷ files) path differs = rw (nat_list_eq_equiv.symm file.0 path, differs.0) (absent-differs files path differs.1)

-- distinct files stay so where those in front are left out
pub distinct-drop : {A : Type 0} (files : List (List ℕ × Vec ℕ A)) (n : ℕ) → AreDistinct (files_of files) → AreDistinct (files_of (drop n files))
distinct-drop files zero distinct = distinct
distinct-drop [] (suc n) distinct = distinct
distinct-drop (file ∷ files) (suc n) distinct = distinct-drop files n (IsDistinct-tail bytes_eq file.0 _ distinct)

-- no file is left past the end
pub distinct-end : {A : Type 0} (files : List (List ℕ × Vec ℕ A)) → AreDistinct (files_of (drop (length files) files))
unfolding IsDistinct
distinct-end [] = tt
distinct-end (file ∷ files) = distinct-end files

-- one file more in front
front : {A : Type 0} (files : List (List ℕ × Vec ℕ A)) (n from : ℕ) (file : List ℕ × Vec ℕ A) → from ≡ n + 1 → n < length files → file ≡ get_or files n file → drop n files ≡ file ∷ drop from files
front files n from file e lt item = rw (e, add-one) (drop-cons files n file lt ∙ ap (λ f. f ∷ drop (suc n) files) (sym item))

pub distinct-more : {A : Type 0} (files : List (List ℕ × Vec ℕ A)) (n from : ℕ) (file : List ℕ × Vec ℕ A) → from ≡ n + 1 → n < length files → file ≡ get_or files n file → is_none (bytes_at (files_of (drop from files)) file.0) ≡ true → AreDistinct (files_of (drop from files)) → AreDistinct (files_of (drop n files))
distinct-more files n from file e lt item none distinct =
    rw (front files n from file e lt item) (IsDistinct-cons bytes_eq file.0 (paths_of (files_of (drop from files))) (differs-absent (files_of (drop from files)) file.0 none) distinct)

pub distinct-absent : {A : Type 0} (files : List (List ℕ × Vec ℕ A)) (n from : ℕ) (file : List ℕ × Vec ℕ A) → from ≡ n + 1 → n < length files → file ≡ get_or files n file → AreDistinct (files_of (drop n files)) → is_none (bytes_at (files_of (drop from files)) file.0) ≡ true
distinct-absent {A = A} files n from file e lt item distinct =
    let whole : AreDistinct (files_of (file ∷ drop from files)) = subst (λ (xs : List (List ℕ × Vec ℕ A)). AreDistinct (files_of xs)) (front files n from file e lt item) distinct in
    absent-differs (files_of (drop from files)) file.0 (IsDistinct-head bytes_eq file.0 (paths_of (files_of (drop from files))) whole)

-- A place past the end says that no file has the path, and one before it that some file has.
pub past-end : {A : Type 0} (seen rest : List (List ℕ × Vec ℕ A)) (file found : List ℕ × Vec ℕ A) (place : ℕ) → file ≡ found → seen ≡ rest → is_none (bytes_at (files_of seen) found.0) ≡ (place == length seen) → place ≤ length seen → length seen ≤ place → is_none (bytes_at (files_of rest) file.0) ≡ true
past-end {A = A} seen rest file found place is same e le ge =
    let at-end : (place == length seen) ≡ true = grind (arith, nat_tests) in
    subst (λ (xs : List (List ℕ × Vec ℕ A)). is_none (bytes_at (files_of xs) file.0) ≡ true) same (rw is (e ∙ at-end))

pub before-end : {A : Type 0} (seen rest : List (List ℕ × Vec ℕ A)) (file found : List ℕ × Vec ℕ A) (place : ℕ) → file ≡ found → seen ≡ rest → is_none (bytes_at (files_of seen) found.0) ≡ (place == length seen) → place < length seen → is_none (bytes_at (files_of rest) file.0) ≡ false
before-end {A = A} seen rest file found place is same e lt =
    let inside : (place == length seen) ≡ false = grind (arith, nat_tests) in
    subst (λ (xs : List (List ℕ × Vec ℕ A)). is_none (bytes_at (files_of xs) file.0) ≡ false) same (rw is (e ∙ inside))
