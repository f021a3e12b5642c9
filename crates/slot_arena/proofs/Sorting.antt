-- Lists of things sorted by serial number: what a filter, a map and a greatest one leave.
use Rattle.std.proofs.Common.{◌≡◌, ℕ, ◌+◌, ◌<◌, ◌≤◌, Bool, true, false, cond, ltb, List, [], ◌∷◌, ◌++◌, length, map, Option, Some, None, refl, sym, ap, ◌∙◌, arith}
use Rattle.std.specs.Prelude.{filter, find}
use Rattle.std.proofs.lemmas.Bool.{cond_both, lt-ltb, le-ltb, ltb-true, ltb-false, cond-true, cond-false}
use Rattle.slot_arena.specs.Slots.{Entry}
use Rattle.slot_arena.specs.SlabSlots.{insert_by_serial, by_serial}

-- the first that passes a test is the first of those that pass it
abbrev pub first : {X : Type 0} → List X → Option X
first [] = None
first (x ∷ xs) = Some x

pub find-filter : {X : Type 0} (p : X → Bool) (xs : List X) → find p xs ≡ first (filter p xs)
find-filter p [] = refl
find-filter p (x ∷ xs) =
    cond_both (p x) (x ∷ filter p xs) (filter p xs)
    (λ l. find p (x ∷ xs) ≡ first l)
    (λ passes. cond-true _ _ _ passes)
    (λ fails. cond-false _ _ _ fails ∙ find-filter p xs)

module _ {T : Type 0} where
  -- no serial number is below n
  abbrev pub FromSerial : ℕ → List (Entry T) → Type 0
  FromSerial n [] = Unit {0}
  FromSerial n (x ∷ xs) = (n ≤ x.serial) × FromSerial n xs

  -- each serial number is below n
  abbrev pub BelowSerial : ℕ → List (Entry T) → Type 0
  BelowSerial n [] = Unit {0}
  BelowSerial n (x ∷ xs) = (x.serial < n) × BelowSerial n xs

  -- no serial number is below an earlier one
  abbrev pub Rises : List (Entry T) → Type 0
  Rises [] = Unit {0}
  Rises (x ∷ xs) = FromSerial x.serial xs × Rises xs

  FromSerial-less : (m n : ℕ) (xs : List (Entry T)) → m ≤ n → FromSerial n xs → FromSerial m xs
  FromSerial-less m n [] le from = tt
  FromSerial-less m n (x ∷ xs) le from = (omega (arith, from.0), FromSerial-less m n xs le from.1)

  FromSerial-insert : (n : ℕ) (e : Entry T) (xs : List (Entry T)) → n ≤ e.serial → FromSerial n xs → FromSerial n (insert_by_serial e xs)
  FromSerial-insert n e [] le from = (le, tt)
  FromSerial-insert n e (x ∷ xs) le from =
      cond_both (ltb e.serial x.serial) (e ∷ (x ∷ xs)) (x ∷ insert_by_serial e xs) (FromSerial n)
      (λ _. (le, from))
      (λ _. (from.0, FromSerial-insert n e xs le from.1))

  Rises-insert : (e : Entry T) (xs : List (Entry T)) → Rises xs → Rises (insert_by_serial e xs)
  Rises-insert e [] rises = (tt, tt)
  Rises-insert e (x ∷ xs) rises =
      cond_both (ltb e.serial x.serial) (e ∷ (x ∷ xs)) (x ∷ insert_by_serial e xs) Rises
      (λ less. let lt = ltb-true e.serial x.serial less in
      ((omega (arith, lt), FromSerial-less e.serial x.serial xs (omega (arith, lt)) rises.0), rises))
      (λ more. (FromSerial-insert x.serial e xs (ltb-false e.serial x.serial more) rises.0, Rises-insert e xs rises.1))

  pub Rises-by_serial : (es : List (Entry T)) → Rises (by_serial es)
  Rises-by_serial [] = tt
  Rises-by_serial (e ∷ es) = Rises-insert e (by_serial es) (Rises-by_serial es)

  insert-first : (e : Entry T) (n : ℕ) (xs : List (Entry T)) → e.serial < n → FromSerial n xs → insert_by_serial e xs ≡ e ∷ xs
  insert-first e n [] lt from = refl
  insert-first e n (x ∷ xs) lt from = cond-true _ _ _ (lt-ltb e.serial x.serial (omega (arith, from.0)))

  FromSerial-filter : (q : Entry T → Bool) (n : ℕ) (xs : List (Entry T)) → FromSerial n xs → FromSerial n (filter q xs)
  FromSerial-filter q n [] from = tt
  FromSerial-filter q n (x ∷ xs) from =
      cond_both (q x) (x ∷ filter q xs) (filter q xs) (FromSerial n)
      (λ _. (from.0, FromSerial-filter q n xs from.1))
      (λ _. FromSerial-filter q n xs from.1)

  filter-insert_yes : (q : Entry T → Bool) (e : Entry T) (xs : List (Entry T)) → q e ≡ true → Rises xs → filter q (insert_by_serial e xs) ≡ insert_by_serial e (filter q xs)
  filter-insert_yes q e [] passes rises = cond-true _ _ _ passes
  filter-insert_yes q e (x ∷ xs) passes rises =
      cond_both (ltb e.serial x.serial) (e ∷ (x ∷ xs)) (x ∷ insert_by_serial e xs)
      (λ l. filter q l ≡ insert_by_serial e (filter q (x ∷ xs)))
      (λ less.
      let lt = ltb-true e.serial x.serial less in
      cond-true _ _ _ passes ∙ sym (insert-first e x.serial (filter q (x ∷ xs)) lt (FromSerial-filter q x.serial (x ∷ xs) (omega arith, rises.0))))
      (λ more.
      cond_both (q x) (x ∷ filter q xs) (filter q xs)
      (λ l. filter q (x ∷ insert_by_serial e xs) ≡ insert_by_serial e l)
      (λ here. cond-true _ _ _ here ∙ ap (λ l. x ∷ l) (filter-insert_yes q e xs passes rises.1) ∙ sym (cond-false _ _ _ more))
      (λ gone. cond-false _ _ _ gone ∙ filter-insert_yes q e xs passes rises.1))

  filter-insert_no : (q : Entry T → Bool) (e : Entry T) (xs : List (Entry T)) → q e ≡ false → filter q (insert_by_serial e xs) ≡ filter q xs
  filter-insert_no q e [] fails = cond-false _ _ _ fails
  filter-insert_no q e (x ∷ xs) fails =
      cond_both (ltb e.serial x.serial) (e ∷ (x ∷ xs)) (x ∷ insert_by_serial e xs)
      (λ l. filter q l ≡ filter q (x ∷ xs))
      (λ _. cond-false _ _ _ fails)
      (λ _. ap (λ l. cond (q x) (x ∷ l) l) (filter-insert_no q e xs fails))

  -- a filter of the sorted list is the filter's sorted list
  pub filter-by_serial : (q : Entry T → Bool) (es : List (Entry T)) → filter q (by_serial es) ≡ by_serial (filter q es)
  filter-by_serial q [] = refl
  filter-by_serial q (e ∷ es) =
      cond_both (q e) (e ∷ filter q es) (filter q es)
      (λ l. filter q (insert_by_serial e (by_serial es)) ≡ by_serial l)
      (λ passes. filter-insert_yes q e (by_serial es) passes (Rises-by_serial es) ∙ ap (insert_by_serial e) (filter-by_serial q es))
      (λ fails. filter-insert_no q e (by_serial es) fails ∙ filter-by_serial q es)

  map-insert : (f : Entry T → Entry T) → ((e : Entry T) → (f e).serial ≡ e.serial) → (e : Entry T) (xs : List (Entry T)) → map f (insert_by_serial e xs) ≡ insert_by_serial (f e) (map f xs)
  map-insert f keeps e [] = refl
  map-insert f keeps e (x ∷ xs) =
      cond_both (ltb e.serial x.serial) (e ∷ (x ∷ xs)) (x ∷ insert_by_serial e xs)
      (λ l. map f l ≡ insert_by_serial (f e) (map f (x ∷ xs)))
      (λ less. sym (cond-true _ _ _ (lt-ltb (f e).serial (f x).serial (omega (arith, keeps e, keeps x, ltb-true e.serial x.serial less)))))
      (λ more. ap (λ l. f x ∷ l) (map-insert f keeps e xs) ∙ sym (cond-false _ _ _ (le-ltb (f e).serial (f x).serial (omega (arith, keeps e, keeps x, ltb-false e.serial x.serial more)))))

  -- so is a map that keeps serial numbers
  pub map-by_serial : (f : Entry T → Entry T) → ((e : Entry T) → (f e).serial ≡ e.serial) → (es : List (Entry T)) → map f (by_serial es) ≡ by_serial (map f es)
  map-by_serial f keeps [] = refl
  map-by_serial f keeps (e ∷ es) = map-insert f keeps e (by_serial es) ∙ ap (insert_by_serial (f e)) (map-by_serial f keeps es)

  length-insert : (e : Entry T) (xs : List (Entry T)) → length (insert_by_serial e xs) ≡ length xs + 1
  length-insert e [] = refl
  length-insert e (x ∷ xs) =
      cond_both (ltb e.serial x.serial) (e ∷ (x ∷ xs)) (x ∷ insert_by_serial e xs)
      (λ l. length l ≡ length (x ∷ xs) + 1)
      (λ _. omega arith)
      (λ _. omega (arith, length-insert e xs))

  pub length-by_serial : (es : List (Entry T)) → length (by_serial es) ≡ length es
  length-by_serial [] = refl
  length-by_serial (e ∷ es) = omega (arith, length-insert e (by_serial es), length-by_serial es)

  BelowSerial-insert : (n : ℕ) (e : Entry T) (xs : List (Entry T)) → e.serial < n → BelowSerial n xs → BelowSerial n (insert_by_serial e xs)
  BelowSerial-insert n e [] lt below = (lt, tt)
  BelowSerial-insert n e (x ∷ xs) lt below =
      cond_both (ltb e.serial x.serial) (e ∷ (x ∷ xs)) (x ∷ insert_by_serial e xs) (BelowSerial n)
      (λ _. (lt, below))
      (λ _. (below.0, BelowSerial-insert n e xs lt below.1))

  pub BelowSerial-by_serial : (n : ℕ) (es : List (Entry T)) → BelowSerial n es → BelowSerial n (by_serial es)
  BelowSerial-by_serial n [] below = tt
  BelowSerial-by_serial n (e ∷ es) below = BelowSerial-insert n e (by_serial es) below.0 (BelowSerial-by_serial n es below.1)

  -- the one with the greatest serial number goes to the end
  pub insert-last : (e : Entry T) (xs : List (Entry T)) → BelowSerial e.serial xs → insert_by_serial e xs ≡ xs ++ e ∷ []
  insert-last e [] below = refl
  insert-last e (x ∷ xs) below =
      cond-false _ _ _ (le-ltb e.serial x.serial (omega (arith, below.0))) ∙ ap (λ l. x ∷ l) (insert-last e xs below.1)

  pub insert-append : (e last : Entry T) (xs : List (Entry T)) → e.serial < last.serial → insert_by_serial e (xs ++ last ∷ []) ≡ insert_by_serial e xs ++ last ∷ []
  insert-append e last [] lt = cond-true _ _ _ (lt-ltb e.serial last.serial lt)
  insert-append e last (x ∷ xs) lt =
      cond_both (ltb e.serial x.serial) (e ∷ (x ∷ xs)) (x ∷ insert_by_serial e xs)
      (λ l. cond (ltb e.serial x.serial) (e ∷ (x ∷ (xs ++ last ∷ []))) (x ∷ insert_by_serial e (xs ++ last ∷ [])) ≡ l ++ last ∷ [])
      (λ less. cond-true _ _ _ less)
      (λ more. cond-false _ _ _ more ∙ ap (λ l. x ∷ l) (insert-append e last xs lt))
