-- The things before and after the one that a handle names.
use Rattle.std.proofs.Common.{◌≡◌, ℕ, ◌+◌, ◌≤◌, Bool, true, false, not, cond, eqb, ◌&&◌, List, [], ◌∷◌, ◌++◌, map, Some, refl, sym, ap, ◌∙◌, arith}
use Rattle.std.specs.Prelude.{filter, count_by}
use Rattle.std.proofs.lemmas.Bool.{cond_both, cond-true, cond-false, ne_eqb, eqb-true, and_parts, and_left, and_right, and_from, not_from_true, not_from_false}
use Rattle.std.proofs.lemmas.List.Sums.{sum_by-append, sum_by-cons, sum_by_push}
use Rattle.slot_arena.specs.declared.handle.Handle.{Handle}
use Rattle.slot_arena.specs.Slots.{Entry, is_at, is_unheld_at, find_at, with_count, without}
use Rattle.counted_heap.specs.Heap.{RisesFrom, serials, same_handle, times}

pub times-push : (h : Handle) (xs : List Handle) (x : Handle) → times h (xs ++ x ∷ []) ≡ times h xs + cond (same_handle h x) 1 0
times-push h xs x = sum_by_push (λ y. cond (same_handle h y) 1 0) xs x

module _ {T : Type 0} where
  -- the handle names none of these
  abbrev pub NoneAt : Handle → List (Entry T) → Type 0
  NoneAt h [] = Unit {0}
  NoneAt h (x ∷ xs) = (is_at h x ≡ false) × NoneAt h xs

  -- the handle names this thing, and none before or after it
  pub record SplitAt (h : Handle) (es : List (Entry T)) (e : Entry T) : Type 0 where
    pub front : List (Entry T)
    pub back : List (Entry T)
    pub whole : es ≡ front ++ e ∷ back
    pub here : is_at h e ≡ true
    pub before : NoneAt h front
    pub after : NoneAt h back

  pub later_none : (h : Handle) (n : ℕ) (xs : List (Entry T)) → h.serial ≤ n → RisesFrom n (serials xs) → NoneAt h xs
  later_none h n [] le rises = tt
  later_none h n (x ∷ xs) le rises = (
    and_right (eqb x.index h.index) _ (ne_eqb x.serial h.serial (λ same. omega (arith, same, rises.0))),
    later_none h x.serial xs (omega (arith, rises.0)) rises.1,
  )

  pub serial_at : (h : Handle) (e : Entry T) → is_at h e ≡ true → e.serial ≡ h.serial
  serial_at h e here = eqb-true e.serial h.serial (and_parts (eqb e.index h.index) _ here).1

  pub index_at : (h : Handle) (e : Entry T) → is_at h e ≡ true → e.index ≡ h.index
  index_at h e here = eqb-true e.index h.index (and_parts (eqb e.index h.index) _ here).0

  pub split : (h : Handle) (n : ℕ) (es : List (Entry T)) (e : Entry T) → RisesFrom n (serials es) → find_at es h ≡ Some e → SplitAt h es e
  split h n [] e rises found = absurd (cc)
  split h n (x ∷ xs) e rises found =
      cond_both (is_at h x) (Some x) (find_at xs h)
      (λ o. o ≡ Some e → SplitAt h (x ∷ xs) e)
      (λ here is.
      let same : x ≡ e = cc in
      record {
        front = [];
        back = xs;
        whole = ap (λ y. y ∷ xs) same;
        here = ap (is_at h) (sym same) ∙ here;
        before = tt;
        after = later_none h x.serial xs (omega (arith, serial_at h x here)) rises.1;
      })
      (λ other is.
      let rest = split h x.serial xs e rises.1 is in
      record {
        front = x ∷ rest.front;
        back = rest.back;
        whole = ap (λ l. x ∷ l) rest.whole;
        here = rest.here;
        before = (other, rest.before);
        after = rest.after;
      })
      found

  map-append' : (f : Entry T → Entry T) (xs ys : List (Entry T)) → map f (xs ++ ys) ≡ map f xs ++ map f ys
  map-append' f [] ys = refl
  map-append' f (x ∷ xs) ys = ap (λ l. f x ∷ l) (map-append' f xs ys)

  filter-append' : (p : Entry T → Bool) (xs ys : List (Entry T)) → filter p (xs ++ ys) ≡ filter p xs ++ filter p ys
  filter-append' p [] ys = refl
  filter-append' p (x ∷ xs) ys =
      cond_both (p x) (x ∷ filter p xs) (filter p xs)
      (λ l. cond (p x) (x ∷ filter p (xs ++ ys)) (filter p (xs ++ ys)) ≡ l ++ filter p ys)
      (λ passes. cond-true _ _ _ passes ∙ ap (λ l. x ∷ l) (filter-append' p xs ys))
      (λ fails. cond-false _ _ _ fails ∙ filter-append' p xs ys)

  with_count-none : (f : ℕ → ℕ) (h : Handle) (xs : List (Entry T)) → NoneAt h xs → with_count f xs h ≡ xs
  with_count-none f h [] none = refl
  with_count-none f h (x ∷ xs) none =
      ap (λ e. e ∷ with_count f xs h) (cond-false (is_at h x) (record x { count = f x.count }) x none.0)
      ∙ ap (λ l. x ∷ l) (with_count-none f h xs none.1)

  without-none : (h : Handle) (xs : List (Entry T)) → NoneAt h xs → without xs h ≡ xs
  without-none h [] none = refl
  without-none h (x ∷ xs) none =
      cond-true _ _ _ (not_from_false _ (and_left _ (eqb x.count 0) none.0))
      ∙ ap (λ l. x ∷ l) (without-none h xs none.1)

  -- another count for the one that the handle names
  pub with_count-split : (f : ℕ → ℕ) (h : Handle) (es : List (Entry T)) (e : Entry T) (s : SplitAt h es e) → with_count f es h ≡ s.front ++ record e { count = f e.count } ∷ s.back
  with_count-split f h es e s =
      ap (λ l. with_count f l h) s.whole
      ∙ map-append' (λ x. cond (is_at h x) (record x { count = f x.count }) x) s.front (e ∷ s.back)
      ∙ ap (λ l. l ++ with_count f (e ∷ s.back) h) (with_count-none f h s.front s.before)
      ∙ ap (λ l. s.front ++ l)
      (ap (λ x. x ∷ with_count f s.back h) (cond-true (is_at h e) (record e { count = f e.count }) e s.here)
      ∙ ap (λ l. record e { count = f e.count } ∷ l) (with_count-none f h s.back s.after))

  -- the others, where nothing holds it
  pub without-split : (h : Handle) (es : List (Entry T)) (e : Entry T) (s : SplitAt h es e) → e.count ≡ 0 → without es h ≡ s.front ++ s.back
  without-split h es e s none =
      let test = λ (x : Entry T). not (is_unheld_at h x) in
      let gone : is_unheld_at h e ≡ true = and_from _ _ s.here (ap (λ n. eqb n 0) none) in
      ap (λ l. without l h) s.whole
      ∙ filter-append' test s.front (e ∷ s.back)
      ∙ ap (λ l. l ++ filter test (e ∷ s.back)) (without-none h s.front s.before)
      ∙ ap (λ l. s.front ++ l)
      (cond-false _ _ _ (not_from_true _ gone) ∙ without-none h s.back s.after)

  -- a count over a list in three parts
  pub count-middle : (p : Entry T → Bool) (front : List (Entry T)) (e : Entry T) (back : List (Entry T)) → count_by p (front ++ e ∷ back) ≡ count_by p front + (cond (p e) 1 0 + count_by p back)
  count-middle p front e back =
      sum_by-append (λ x. cond (p x) 1 0) front (e ∷ back)
      ∙ ap (λ n. count_by p front + n) (sum_by-cons (λ x. cond (p x) 1 0) e back)

  pub count-both : (p : Entry T → Bool) (front back : List (Entry T)) → count_by p (front ++ back) ≡ count_by p front + count_by p back
  count-both p front back = sum_by-append (λ x. cond (p x) 1 0) front back

  -- another handle names it exactly where the handles are one
  pub is_at-same : (other h : Handle) (e : Entry T) → is_at h e ≡ true → is_at other e ≡ same_handle other h
  is_at-same other h e here =
      ap (λ n. eqb n other.index && eqb e.serial other.serial) (index_at h e here)
      ∙ ap (λ n. eqb h.index other.index && eqb n other.serial) (serial_at h e here)
