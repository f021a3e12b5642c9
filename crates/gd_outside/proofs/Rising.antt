-- Sorted lists of distinct paths rise.
use Rattle.std.proofs.Common.{◌≡◌, ℕ, ◌+◌, ◌<◌, List, [], ◌∷◌, Bool, false, map, length, refl, ◌∙◌, ap, subst, arith, bytes_eq, Vec}
use Rattle.std.specs.List.{IsDistinct, dedup, dedup_from}
use Rattle.std.specs.List.Sorted.{IsSorted, IsSortedByKey, IsPermutation}
use Rattle.std.specs.Ordering.{nat_cmp}
use Rattle.std.specs.Cmp.Lexicographic.{slice_cmp, texts_ties, nat_list_cmp_total, nat_list_eq_equiv}
use Rattle.std.proofs.lemmas.List.{get_or-map, length-map}
use Rattle.std.proofs.lemmas.List.Kept.{IsStrictlySortedBy-dedup}
use Rattle.std.proofs.lemmas.List.Sorted.{IsPermutation-map}
use Rattle.std.proofs.lemmas.Map.Keys.{IsDistinct-IsPermutation, IsDistinct-head, IsDistinct-tail}
use Rattle.gd_outside.specs.Files.{IsRising, paths_of}
use Rattle.gd_outside.specs.MemoryShelf.{AreDistinct, files_of}

-- `dedup` leaves a list as it is whose elements are distinct
dedup_from-distinct : {X : Type 0} (same : X → X → Bool) → ((x y : X) → same x y ≡ same y x) → (x : X) (xs : List X) → IsDistinct same (x ∷ xs) → dedup_from same x xs ≡ x ∷ xs
dedup_from-distinct same flips x [] distinct = refl
dedup_from-distinct same flips x (y ∷ ys) distinct =
    let differs : same y x ≡ false = flips y x ∙ (IsDistinct-head same x (y ∷ ys) distinct).0 in
    rw differs (ap (λ rest. x ∷ rest) (dedup_from-distinct same flips y ys (IsDistinct-tail same x (y ∷ ys) distinct)))

dedup-distinct : {X : Type 0} (same : X → X → Bool) → ((x y : X) → same x y ≡ same y x) → (xs : List X) → IsDistinct same xs → dedup same xs ≡ xs
dedup-distinct same flips [] distinct = refl
dedup-distinct same flips (x ∷ xs) distinct = dedup_from-distinct same flips x xs distinct

-- paths that are sorted and distinct rise
pub IsRising-sorted : (paths : List (List ℕ)) → IsSorted (slice_cmp nat_cmp) paths → IsDistinct bytes_eq paths → IsRising paths
IsRising-sorted paths sorted distinct =
    subst IsRising (dedup-distinct bytes_eq nat_list_eq_equiv.symm paths distinct) (IsStrictlySortedBy-dedup nat_list_cmp_total texts_ties paths sorted)

-- the keys of a list that is sorted by its keys are sorted
IsSorted-map : {X : Type 0} (key : X → List ℕ) (xs : List X) → IsSortedByKey key (slice_cmp nat_cmp) xs → IsSorted (slice_cmp nat_cmp) (map key xs)
IsSorted-map key [] sorted = λ k d low high. absurd (omega (arith, high))
IsSorted-map key (x ∷ xs) sorted = λ k d low high.
    let next : k + 1 < length (x ∷ xs) = rw (← length-map (x ∷ xs) key) high in
    let this : k < length (x ∷ xs) = omega arith in
    rw (get_or-map key (x ∷ xs) (k + 1) x d next, get_or-map key (x ∷ xs) k x d this) (sorted k x low next)

-- files that are sorted by their paths, and have the paths of files that are distinct, rise
pub IsRising-files : {A : Type 0} (old new : List (List ℕ × Vec ℕ A)) → IsPermutation old new → IsSortedByKey (λ file. file.0) (slice_cmp nat_cmp) new → AreDistinct (files_of old) → IsRising (paths_of (files_of new))
IsRising-files {A = A} old new moved sorted distinct =
    let paths : IsPermutation (paths_of (files_of old)) (paths_of (files_of new)) = IsPermutation-map (λ file. file.0) _ _ (IsPermutation-map (λ file. (file.0, file.1.items)) _ _ moved) in
    let keys : map (λ file. file.0) new ≡ paths_of (files_of new) = paths-are new in
    IsRising-sorted _ (subst (IsSorted (slice_cmp nat_cmp)) keys (IsSorted-map (λ file. file.0) new sorted)) (IsDistinct-IsPermutation bytes_eq nat_list_eq_equiv.symm _ _ paths distinct)
  where
    paths-are : (files : List (List ℕ × Vec ℕ A)) → map (λ file. file.0) files ≡ paths_of (files_of files)
    paths-are [] = refl
    paths-are (file ∷ files) = ap (λ rest. file.0 ∷ rest) (paths-are files)
