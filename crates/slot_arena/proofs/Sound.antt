-- What keeps a slab's slots sound: a write of one slot, one more and one less.
use Rattle.std.proofs.Common.{◌≡◌, ℕ, zero, suc, ◌+◌, ◌<◌, cond, List, [], ◌∷◌, length, Option, Some, None, is_some, count_by, get_or, set, refl, sym, ap, ◌∙◌, inl, inr, arith}
use Rattle.std.proofs.lemmas.Bool.{cases_eq}
use Rattle.std.proofs.lemmas.List.{get_or_past, get_or-set_same, get_or-set_other}
use Rattle.std.proofs.lemmas.List.Sums.{sum_by-cons}
use Rattle.slab.specs.Slab.{Slab, get, with_value}
use Rattle.slot_arena.specs.declared.slab_slots.Slot.{Slot}
use Rattle.slot_arena.specs.SlabSlots.{IsSound}

module _ {T : Type 0} where
  count-write : (k : ℕ) (old new : Slot T) (slots : List (Option (Slot T))) → get_or slots k None ≡ Some old → count_by is_some (set slots k (Some new)) ≡ count_by is_some slots
  count-write k old new [] found = absurd (cc)
  count-write zero old new (None ∷ rest) found = absurd (cc)
  count-write zero old new (Some slot ∷ rest) found =
      sum_by-cons (λ o. cond (is_some o) 1 0) (Some new) rest ∙ sym (sum_by-cons (λ o. cond (is_some o) 1 0) (Some slot) rest)
  count-write (suc k) old new (o ∷ rest) found =
      sum_by-cons (λ o. cond (is_some o) 1 0) o (set rest k (Some new))
      ∙ ap (λ n. cond (is_some o) 1 0 + n) (count-write k old new rest found)
      ∙ sym (sum_by-cons (λ o. cond (is_some o) 1 0) o rest)

  -- what a slot has after a write that keeps the serial number, it had before
  before_write : (s : Slab (Slot T)) (at : ℕ) (old new : Slot T) → get s at ≡ Some old → new.serial ≡ old.serial → (k : ℕ) (slot : Slot T) → get (with_value s at new) k ≡ Some slot → (was : Slot T) × (get s k ≡ Some was) × (was.serial ≡ slot.serial)
  before_write s at old new found same k slot read =
      elim (cases_eq k at) [
        | inl here ↦
            let within : at < length s.slots = grind (arith, get_or_past) in
            let now : get (with_value s at new) at ≡ Some new = get_or-set_same s.slots at (Some new) None within in
            let is : new ≡ slot = cc in
            (old, ap (get s) here ∙ found, sym same ∙ ap (λ x. x.serial) is)
        | inr differs ↦ (slot, sym (get_or-set_other s.slots at k (Some new) None differs) ∙ read, refl)
      ]

  pub IsSound-write : (s : Slab (Slot T)) (last spare at : ℕ) (old new : Slot T) → get s at ≡ Some old → new.serial ≡ old.serial → IsSound s last spare → IsSound (with_value s at new) last spare
  IsSound-write s last spare at old new found same sound =
      let before = before_write s at old new found same in
      record {
        below = λ k slot read. let was = before k slot read in omega (arith, was.2, sound.below k was.0 was.1);
        distinct = λ j k a b ra rb serials.
            let x = before j a ra in
            let y = before k b rb in
            sound.distinct j k x.0 y.0 x.1 y.1 (x.2 ∙ serials ∙ sym y.2);
        room = omega (arith, count-write at old new s.slots found, sound.room);
      }
