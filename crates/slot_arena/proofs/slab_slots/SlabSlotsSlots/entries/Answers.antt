use Rattle.std.proofs.Common.{List, subst}
use Rattle.std.specs.List.Sorted.{IsPermutation}
use Rattle.std.proofs.lemmas.List.Sorted.{IsPermutation-map, IsPermutation-sym, IsPermutation-trans}
use Rattle.slot_arena.specs.declared.handle.Handle.{Handle}
use Rattle.slot_arena.specs.Slots.{handle_of}
use Rattle.slot_arena.specs.SlabSlots.{things_from, by_serial}
use Rattle.slot_arena.proofs.Listing.{IsPermutation-by_serial}
use Rattle.slot_arena.proofs.slab_slots.SlabSlotsSlots.entries.Goals as goal

pub returns-clause-all : goal.returns-clause-all
returns-clause-all g c =
    let slots = c.self.inside.slots.slots in
    let sorted = IsPermutation-map handle_of (by_serial (things_from 0 slots)) (things_from 0 slots) (IsPermutation-sym _ _ (IsPermutation-by_serial (things_from 0 slots))) in
    let listed = subst (λ (l : List Handle). IsPermutation l c.sort_by_serial.new.handles.items) c.in_ok-handles.ensures c.sort_by_serial.ensures.all in
    rw (← c.self.view_is) (IsPermutation-trans _ _ _ sorted listed)
