-- The count that a handle finds.
use Rattle.std.proofs.Common.{◌≡◌, cond, List, Option, Some, None, IsSome, get_or, ap, ◌∙◌}
use Rattle.std.specs.Option.{option_map}
use Rattle.slot_arena.specs.declared.handle.Handle.{Handle}
use Rattle.slot_arena.specs.declared.slab_slots.Slot.{Slot}
use Rattle.slot_arena.specs.Slots.{Entry, find_at, count_at}
use Rattle.slot_arena.specs.SlabSlots.{entry, things_from, by_serial}
use Rattle.slot_arena.proofs.Things.{find_seen, serial_seen, reads}

module _ {T : Type 0} where
  -- a handle finds the count of its slot
  pub count_seen : (h : Handle) (slots : List (Option (Slot T))) (seen : List (Entry T)) (slot : Slot T) → by_serial (things_from 0 slots) ≡ seen → IsSome (find_at seen h) → get_or slots h.index None ≡ Some slot → count_at seen h ≡ Some slot.count
  count_seen h slots seen slot is alive found =
      let serial = serial_seen h slots seen slot is alive found in
      ap (option_map (λ e. e.count)) (find_seen h slots seen is ∙ ap (reads h) found)
      ∙ ap (λ b. option_map (λ e. e.count) (cond b (Some (entry h.index slot)) None)) serial
