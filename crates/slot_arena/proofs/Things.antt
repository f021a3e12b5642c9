-- What a slab's slots give as things: a look-up, a change of one slot, one slot more and one less.
use Rattle.std.proofs.Common.{◌≡◌, ◌≢◌, ℕ, zero, suc, ◌+◌, ◌<◌, Bool, true, false, not, cond, eqb, ◌&&◌, List, [], ◌∷◌, ◌++◌, length, map, Option, Some, None, is_some, IsSome, option_to_list, count_by, get_or, set, refl, sym, ap, ◌∙◌, inl, inr, subst, arith, add-zero, zero-add}
use Rattle.std.specs.Prelude.{filter, find}
use Rattle.std.proofs.lemmas.Bool.{cond_both, cond-true, cond-false, ne_eqb, eq-eqb, and_left, not_from_true, not_from_false, cases_eq}
use Rattle.std.proofs.lemmas.List.{get_or-set_other}
use Rattle.std.proofs.lemmas.List.Sums.{sum_by-cons}
use Rattle.slot_arena.specs.declared.slab_slots.Slot.{Slot}
use Rattle.slot_arena.specs.declared.handle.Handle.{Handle}
use Rattle.slot_arena.specs.Slots.{Entry, is_at, find_at, Arena}
use Rattle.slot_arena.specs.SlabSlots.{entry, things_from, by_serial, insert_by_serial}
use Rattle.slot_arena.proofs.Sorting.{BelowSerial, filter-by_serial, map-by_serial, find-filter, first, insert-last, insert-append, BelowSerial-by_serial}

module _ {T : Type 0} where
  -- the test passes at one index at most
  abbrev pub OnlyAt : (Entry T → Bool) → ℕ → Type 0
  OnlyAt p at = (e : Entry T) → e.index ≢ at → p e ≡ false

  -- the thing of this slot, if it passes
  abbrev pub chosen : (Entry T → Bool) → ℕ → Option (Slot T) → Option (Entry T)
  chosen p at None = None
  chosen p at (Some slot) = cond (p (entry at slot)) (Some (entry at slot)) None

  filter_later : (p : Entry T → Bool) (at i : ℕ) (slots : List (Option (Slot T))) → OnlyAt p at → at < i → filter p (things_from i slots) ≡ []
  filter_later p at i [] only lt = refl
  filter_later p at i (None ∷ rest) only lt = filter_later p at (i + 1) rest only (omega arith)
  filter_later p at i (Some slot ∷ rest) only lt =
      cond-false _ _ _ (only (entry i slot) (λ same. omega (arith, same))) ∙ filter_later p at (i + 1) rest only (omega arith)

  filter_things : (p : Entry T → Bool) (at i k : ℕ) (slots : List (Option (Slot T))) → OnlyAt p at → at ≡ i + k → filter p (things_from i slots) ≡ option_to_list (chosen p at (get_or slots k None))
  filter_things p at i k [] only is = refl
  filter_things p at i zero (None ∷ rest) only is = filter_later p at (i + 1) rest only (omega (arith, is))
  filter_things p at i zero (Some slot ∷ rest) only is =
      let here : at ≡ i = omega (arith, is) in
      let later = filter_later p at (i + 1) rest only (omega (arith, is)) in
      rw here (cond_both (p (entry i slot)) (Some (entry i slot)) None
      (λ o. filter p (entry i slot ∷ things_from (i + 1) rest) ≡ option_to_list o)
      (λ here_passes. cond-true _ _ _ here_passes ∙ ap (λ l. entry i slot ∷ l) later)
      (λ fails. cond-false _ _ _ fails ∙ later))
  filter_things p at i (suc k) (None ∷ rest) only is = filter_things p at (i + 1) k rest only (omega (arith, is))
  filter_things p at i (suc k) (Some slot ∷ rest) only is =
      cond-false _ _ _ (only (entry i slot) (λ same. omega (arith, same, is))) ∙ filter_things p at (i + 1) k rest only (omega (arith, is))

  -- a look-up by a test that passes at one index reads that slot
  pub find-things : (p : Entry T → Bool) (at : ℕ) (slots : List (Option (Slot T))) → OnlyAt p at → find p (by_serial (things_from 0 slots)) ≡ chosen p at (get_or slots at None)
  find-things p at slots only =
      find-filter p (by_serial (things_from 0 slots))
      ∙ ap first (filter-by_serial p (things_from 0 slots))
      ∙ ap (λ l. first (by_serial l)) (filter_things p at 0 at slots only (sym (zero-add at)))
      ∙ first_of (chosen p at (get_or slots at None))
    where
      first_of : (o : Option (Entry T)) → first (by_serial (option_to_list o)) ≡ o
      first_of None = refl
      first_of (Some e) = refl

  kept_later : (p : Entry T → Bool) (at i : ℕ) (slots : List (Option (Slot T))) → OnlyAt p at → at < i → filter (λ e. not (p e)) (things_from i slots) ≡ things_from i slots
  kept_later p at i [] only lt = refl
  kept_later p at i (None ∷ rest) only lt = kept_later p at (i + 1) rest only (omega arith)
  kept_later p at i (Some slot ∷ rest) only lt =
      cond-true _ _ _ (not_from_false _ (only (entry i slot) (λ same. omega (arith, same))))
      ∙ ap (λ l. entry i slot ∷ l) (kept_later p at (i + 1) rest only (omega arith))

  removed_things : (p : Entry T → Bool) (at i k : ℕ) (slot : Slot T) (slots : List (Option (Slot T))) → OnlyAt p at → at ≡ i + k → get_or slots k None ≡ Some slot → p (entry at slot) ≡ true → filter (λ e. not (p e)) (things_from i slots) ≡ things_from i (set slots k None)
  removed_things p at i k slot [] only is found passes = absurd (cc)
  removed_things p at i zero slot (None ∷ rest) only is found passes = absurd (cc)
  removed_things p at i zero slot (Some other ∷ rest) only is found passes =
      let here : at ≡ i = omega (arith, is) in
      let same : other ≡ slot = cc in
      let there : p (entry i other) ≡ true = rw (same, ← here) passes in
      cond-false _ _ _ (not_from_true _ there) ∙ kept_later p at (i + 1) rest only (omega (arith, is))
  removed_things p at i (suc k) slot (None ∷ rest) only is found passes =
      removed_things p at (i + 1) k slot rest only (omega (arith, is)) found passes
  removed_things p at i (suc k) slot (Some other ∷ rest) only is found passes =
      cond-true _ _ _ (not_from_false _ (only (entry i other) (λ same. omega (arith, same, is))))
      ∙ ap (λ l. entry i other ∷ l) (removed_things p at (i + 1) k slot rest only (omega (arith, is)) found passes)

  -- without the thing that passes, its slot is empty
  pub without-things : (p : Entry T → Bool) (at : ℕ) (slot : Slot T) (slots : List (Option (Slot T))) → OnlyAt p at → get_or slots at None ≡ Some slot → p (entry at slot) ≡ true → filter (λ e. not (p e)) (by_serial (things_from 0 slots)) ≡ by_serial (things_from 0 (set slots at None))
  without-things p at slot slots only found passes =
      filter-by_serial _ (things_from 0 slots)
      ∙ ap by_serial (removed_things p at 0 at slot slots only (sym (zero-add at)) found passes)

  none_removed : (p : Entry T → Bool) (xs : List (Entry T)) → filter p xs ≡ [] → filter (λ e. not (p e)) xs ≡ xs
  none_removed p [] none = refl
  none_removed p (x ∷ xs) none =
      cond_both (p x) (x ∷ filter p xs) (filter p xs)
      (λ l. l ≡ [] → filter (λ e. not (p e)) (x ∷ xs) ≡ x ∷ xs)
      (λ _ other. absurd (cc))
      (λ fails other. cond-true _ _ _ (not_from_false _ fails) ∙ ap (λ l. x ∷ l) (none_removed p xs other))
      none

  -- where the slot does not pass, nothing goes
  pub without-none : (p : Entry T → Bool) (at : ℕ) (slots : List (Option (Slot T))) → OnlyAt p at → chosen p at (get_or slots at None) ≡ None → filter (λ e. not (p e)) (by_serial (things_from 0 slots)) ≡ by_serial (things_from 0 slots)
  without-none p at slots only none =
      none_removed p (by_serial (things_from 0 slots))
      (filter-by_serial p (things_from 0 slots) ∙ ap by_serial (filter_things p at 0 at slots only (sym (zero-add at)) ∙ ap option_to_list none))

  -- a change of things at one index alone
  abbrev pub ChangesAt : (Entry T → Entry T) → ℕ → Type 0
  ChangesAt f at = (e : Entry T) → e.index ≢ at → f e ≡ e

  same_later : (f : Entry T → Entry T) (at i : ℕ) (slots : List (Option (Slot T))) → ChangesAt f at → at < i → map f (things_from i slots) ≡ things_from i slots
  same_later f at i [] only lt = refl
  same_later f at i (None ∷ rest) only lt = same_later f at (i + 1) rest only (omega arith)
  same_later f at i (Some slot ∷ rest) only lt =
      ap (λ e. e ∷ map f (things_from (i + 1) rest)) (only (entry i slot) (λ same. omega (arith, same)))
      ∙ ap (λ l. entry i slot ∷ l) (same_later f at (i + 1) rest only (omega arith))

  changed_things : (f : Entry T → Entry T) (at i k : ℕ) (old new : Slot T) (slots : List (Option (Slot T))) → ChangesAt f at → at ≡ i + k → get_or slots k None ≡ Some old → f (entry at old) ≡ entry at new → map f (things_from i slots) ≡ things_from i (set slots k (Some new))
  changed_things f at i k old new [] only is found changes = absurd (cc)
  changed_things f at i zero old new (None ∷ rest) only is found changes = absurd (cc)
  changed_things f at i zero old new (Some other ∷ rest) only is found changes =
      let here : at ≡ i = omega (arith, is) in
      let same : other ≡ old = cc in
      let there : f (entry i other) ≡ entry i new = rw (same, ← here) changes in
      ap (λ e. e ∷ map f (things_from (i + 1) rest)) there
      ∙ ap (λ l. entry i new ∷ l) (same_later f at (i + 1) rest only (omega (arith, is)))
  changed_things f at i (suc k) old new (None ∷ rest) only is found changes =
      changed_things f at (i + 1) k old new rest only (omega (arith, is)) found changes
  changed_things f at i (suc k) old new (Some other ∷ rest) only is found changes =
      ap (λ e. e ∷ map f (things_from (i + 1) rest)) (only (entry i other) (λ same. omega (arith, same, is)))
      ∙ ap (λ l. entry i other ∷ l) (changed_things f at (i + 1) k old new rest only (omega (arith, is)) found changes)

  -- a change of one slot changes its thing
  pub map-things : (f : Entry T → Entry T) (at : ℕ) (old new : Slot T) (slots : List (Option (Slot T))) → ((e : Entry T) → (f e).serial ≡ e.serial) → ChangesAt f at → get_or slots at None ≡ Some old → f (entry at old) ≡ entry at new → map f (by_serial (things_from 0 slots)) ≡ by_serial (things_from 0 (set slots at (Some new)))
  map-things f at old new slots keeps only found changes =
      map-by_serial f keeps (things_from 0 slots)
      ∙ ap by_serial (changed_things f at 0 at old new slots only (sym (zero-add at)) found changes)

  -- one thing for each slot with a value
  pub length-things_from : (i : ℕ) (slots : List (Option (Slot T))) → length (things_from i slots) ≡ count_by is_some slots
  length-things_from i [] = refl
  length-things_from i (None ∷ rest) = omega (arith, length-things_from (i + 1) rest, sum_by-cons (λ o. cond (is_some o) 1 0) None rest)
  length-things_from i (Some slot ∷ rest) = omega (arith, length-things_from (i + 1) rest, sum_by-cons (λ o. cond (is_some o) 1 0) (Some slot) rest)

  -- slots that read alike give the same things
  pub things-same : (i : ℕ) (xs ys : List (Option (Slot T))) → ((k : ℕ) → get_or xs k None ≡ get_or ys k None) → things_from i xs ≡ things_from i ys
  things-same i [] [] same = refl
  things-same i [] (None ∷ ys) same = things-same (i + 1) [] ys (λ k. same (suc k))
  things-same i [] (Some y ∷ ys) same = let here = same 0 in absurd (cc)
  things-same i (None ∷ xs) [] same = things-same (i + 1) xs [] (λ k. same (suc k))
  things-same i (Some x ∷ xs) [] same = let here = same 0 in absurd (cc)
  things-same i (None ∷ xs) (None ∷ ys) same = things-same (i + 1) xs ys (λ k. same (suc k))
  things-same i (None ∷ xs) (Some y ∷ ys) same = let here = same 0 in absurd (cc)
  things-same i (Some x ∷ xs) (None ∷ ys) same = let here = same 0 in absurd (cc)
  things-same i (Some x ∷ xs) (Some y ∷ ys) same =
      let here = same 0 in
      let equal : x ≡ y = cc in
      rw equal (ap (λ l. entry i y ∷ l) (things-same (i + 1) xs ys (λ k. same (suc k))))

  BelowSerial-things : (n i : ℕ) (slots : List (Option (Slot T))) → ((k : ℕ) (slot : Slot T) → get_or slots k None ≡ Some slot → slot.serial < n) → BelowSerial n (things_from i slots)
  BelowSerial-things n i [] below = tt
  BelowSerial-things n i (None ∷ rest) below = BelowSerial-things n (i + 1) rest (λ k. below (suc k))
  BelowSerial-things n i (Some slot ∷ rest) below = (below 0 slot refl, BelowSerial-things n (i + 1) rest (λ k. below (suc k)))

  grown_things : (i k : ℕ) (slot : Slot T) (slots : List (Option (Slot T))) → get_or slots k None ≡ Some slot → ((j : ℕ) (other : Slot T) → get_or (set slots k None) j None ≡ Some other → other.serial < slot.serial) → by_serial (things_from i slots) ≡ by_serial (things_from i (set slots k None)) ++ entry (i + k) slot ∷ []
  grown_things i k slot [] found below = absurd (cc)
  grown_things i zero slot (None ∷ rest) found below = absurd (cc)
  grown_things i zero slot (Some other ∷ rest) found below =
      let same : other ≡ slot = cc in
      rw (same, add-zero) (insert-last (entry i slot) (by_serial (things_from (i + 1) rest))
      (BelowSerial-by_serial slot.serial (things_from (i + 1) rest) (BelowSerial-things slot.serial (i + 1) rest (λ j. below (suc j)))))
  grown_things i (suc k) slot (None ∷ rest) found below =
      let shift : i + suc k ≡ i + 1 + k = omega arith in
      rw shift (grown_things (i + 1) k slot rest found (λ j. below (suc j)))
  grown_things i (suc k) slot (Some other ∷ rest) found below =
      let shift : i + suc k ≡ i + 1 + k = omega arith in
      rw shift (ap (insert_by_serial (entry i other)) (grown_things (i + 1) k slot rest found (λ j. below (suc j)))
      ∙ insert-append (entry i other) (entry (i + 1 + k) slot) (by_serial (things_from (i + 1) (set rest k None))) (below 0 other refl))

  -- a slot filled with the greatest serial number gives one thing more, at the end
  pub insert-things : (at : ℕ) (slot : Slot T) (old new : List (Option (Slot T))) → get_or old at None ≡ None → get_or new at None ≡ Some slot → ((k : ℕ) → k ≢ at → get_or new k None ≡ get_or old k None) → ((k : ℕ) (other : Slot T) → get_or old k None ≡ Some other → other.serial < slot.serial) → by_serial (things_from 0 new) ≡ by_serial (things_from 0 old) ++ entry at slot ∷ []
  insert-things at slot old new empty filled others below =
      let cleared : (k : ℕ) → get_or (set new at None) k None ≡ get_or old k None = λ k.
      elim (cases_eq k at) [
        | inl same ↦ rw same (reads_none at new ∙ sym empty)
        | inr differs ↦ get_or-set_other new at k None None differs ∙ others k differs
      ] in
      grown_things 0 at slot new filled (λ k other found. below k other (sym (cleared k) ∙ found))
      ∙ ap (λ n. by_serial (things_from 0 (set new at None)) ++ entry n slot ∷ []) (zero-add at)
      ∙ ap (λ l. by_serial l ++ entry at slot ∷ []) (things-same 0 (set new at None) old cleared)
    where
      reads_none : (k : ℕ) (xs : List (Option (Slot T))) → get_or (set xs k None) k None ≡ None
      reads_none k [] = refl
      reads_none zero (x ∷ xs) = refl
      reads_none (suc k) (x ∷ xs) = reads_none k xs

  -- what a handle finds in the slot at its index
  abbrev pub reads : Handle → Option (Slot T) → Option (Entry T)
  reads h None = None
  reads h (Some slot) = cond (eqb slot.serial h.serial) (Some (entry h.index slot)) None

  is_at-only : (h : Handle) → OnlyAt (is_at h) h.index
  is_at-only h e differs = and_left _ _ (ne_eqb e.index h.index differs)

  is_at-entry : (h : Handle) (slot : Slot T) → is_at h (entry h.index slot) ≡ eqb slot.serial h.serial
  is_at-entry h slot = ap (λ b. b && eqb slot.serial h.serial) (eq-eqb h.index h.index refl)

  -- Below, `seen` is what a contract sees of these slots.

  -- a handle finds what it reads in its slot
  pub find_seen : (h : Handle) (slots : List (Option (Slot T))) (seen : List (Entry T)) → by_serial (things_from 0 slots) ≡ seen → find_at seen h ≡ reads h (get_or slots h.index None)
  find_seen h slots seen is = ap (λ l. find_at l h) (sym is) ∙ find-things (is_at h) h.index slots (is_at-only h) ∙ is_reads (get_or slots h.index None)
    where
      is_reads : (o : Option (Slot T)) → chosen (is_at h) h.index o ≡ reads h o
      is_reads None = refl
      is_reads (Some slot) = ap (λ b. cond b (Some (entry h.index slot)) None) (is_at-entry h slot)

  -- a handle that finds a thing has a slot with its serial number
  pub slot_seen : (h : Handle) (slots : List (Option (Slot T))) (seen : List (Entry T)) → by_serial (things_from 0 slots) ≡ seen → IsSome (find_at seen h) → (slot : Slot T) × (get_or slots h.index None ≡ Some slot) × (eqb slot.serial h.serial ≡ true)
  slot_seen h slots seen is alive =
      let found = find_seen h slots seen is in
      of_reads (get_or slots h.index None) (subst (λ o. IsSome o) found alive)
    where
      passes : (b : Bool) (e : Entry T) → IsSome (cond b (Some e) None) → b ≡ true
      passes true e some = refl
      passes false e some = absurd (cc)

      of_reads : (o : Option (Slot T)) → IsSome (reads h o) → (slot : Slot T) × (o ≡ Some slot) × (eqb slot.serial h.serial ≡ true)
      of_reads None some = absurd (cc)
      of_reads (Some slot) some = (slot, refl, passes (eqb slot.serial h.serial) (entry h.index slot) some)

  -- the same where the slot is known
  pub serial_seen : (h : Handle) (slots : List (Option (Slot T))) (seen : List (Entry T)) (slot : Slot T) → by_serial (things_from 0 slots) ≡ seen → IsSome (find_at seen h) → get_or slots h.index None ≡ Some slot → eqb slot.serial h.serial ≡ true
  serial_seen h slots seen slot is alive found =
      let was = slot_seen h slots seen is alive in
      let same : was.0 ≡ slot = cc (was.1, found) in
      ap (λ (x : Slot T). eqb x.serial h.serial) (sym same) ∙ was.2

  -- a change of what one handle names is a change of its slot
  pub change_seen : (upd : Entry T → Entry T) (h : Handle) (old new : Slot T) (slots : List (Option (Slot T))) (seen : List (Entry T)) → by_serial (things_from 0 slots) ≡ seen → ((e : Entry T) → (upd e).serial ≡ e.serial) → get_or slots h.index None ≡ Some old → eqb old.serial h.serial ≡ true → upd (entry h.index old) ≡ entry h.index new → by_serial (things_from 0 (set slots h.index (Some new))) ≡ map (λ e. cond (is_at h e) (upd e) e) seen
  change_seen upd h old new slots seen is keeps found serial changes =
      sym (map-things (λ e. cond (is_at h e) (upd e) e) h.index old new slots
      (λ e. cond_both (is_at h e) (upd e) e (λ x. x.serial ≡ e.serial) (λ _. keeps e) (λ _. refl))
      (λ e differs. cond-false _ _ _ (is_at-only h e differs))
      found
      (cond-true _ _ _ (is_at-entry h old ∙ serial) ∙ changes))
      ∙ ap (map (λ e. cond (is_at h e) (upd e) e)) is

  pub same_arena : (a b : Arena T) → a.things ≡ b.things → a.spare ≡ b.spare → a.last ≡ b.last → a ≡ b
  same_arena a b things spare last =
      ap (λ (l : List (Entry T)). record { things = l; spare = a.spare; last = a.last }) things
      ∙ ap (λ (n : ℕ). record { things = b.things; spare = n; last = a.last }) spare
      ∙ ap (λ (n : ℕ). record { things = b.things; spare = b.spare; last = n }) last
