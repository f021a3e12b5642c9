-- The handles of all things: from the slab's entries, and in order.
use Rattle.std.proofs.Common.{◌≡◌, ℕ, ◌+◌, ltb, List, [], ◌∷◌, map, Option, Some, None, refl, ap, arith}
use Rattle.std.specs.List.Sorted.{IsPermutation}
use Rattle.std.proofs.lemmas.Bool.{cond_both}
use Rattle.std.proofs.lemmas.List.Sorted.{IsPermutation-refl, IsPermutation-cons, IsPermutation-trans, IsPermutation-swap}
use Rattle.slab.specs.Slab.{entries_from}
use Rattle.slot_arena.specs.declared.handle.Handle.{Handle}
use Rattle.slot_arena.specs.declared.slab_slots.Slot.{Slot}
use Rattle.slot_arena.specs.Slots.{Entry, handle_of}
use Rattle.slot_arena.specs.SlabSlots.{things_from, by_serial, insert_by_serial}

module _ {T : Type 0} where
  -- the handle of a slab's entry
  abbrev pub of_pair : ℕ × Slot T → Handle
  of_pair p = record { index = p.0; serial = p.1.serial }

  pub handles_from : (i : ℕ) (slots : List (Option (Slot T))) → map of_pair (entries_from i slots) ≡ map handle_of (things_from i slots)
  handles_from i [] = refl
  handles_from i (None ∷ rest) = handles_from (i + 1) rest
  handles_from i (Some slot ∷ rest) = ap (λ l. record { index = i; serial = slot.serial } ∷ l) (handles_from (i + 1) rest)

  IsPermutation-insert_by_serial : (e : Entry T) (xs : List (Entry T)) → IsPermutation (e ∷ xs) (insert_by_serial e xs)
  IsPermutation-insert_by_serial e [] = IsPermutation-refl (e ∷ [])
  IsPermutation-insert_by_serial e (x ∷ xs) =
      cond_both (ltb e.serial x.serial) (e ∷ (x ∷ xs)) (x ∷ insert_by_serial e xs) (IsPermutation (e ∷ (x ∷ xs)))
      (λ _. IsPermutation-refl (e ∷ (x ∷ xs)))
      (λ _. IsPermutation-trans (e ∷ (x ∷ xs)) (x ∷ (e ∷ xs)) (x ∷ insert_by_serial e xs)
      (IsPermutation-swap (e ∷ (x ∷ xs)) (x ∷ (e ∷ xs)) 0 1 (omega arith) (omega arith) refl)
      (IsPermutation-cons x (e ∷ xs) (insert_by_serial e xs) (IsPermutation-insert_by_serial e xs)))

  -- sorting moves things and no more
  pub IsPermutation-by_serial : (es : List (Entry T)) → IsPermutation es (by_serial es)
  IsPermutation-by_serial [] = IsPermutation-refl []
  IsPermutation-by_serial (e ∷ es) =
      IsPermutation-trans (e ∷ es) (e ∷ by_serial es) (by_serial (e ∷ es))
      (IsPermutation-cons e es (by_serial es) (IsPermutation-by_serial es))
      (IsPermutation-insert_by_serial e (by_serial es))
