use Rattle.std.proofs.Common.{◌≡◌, ◌++◌, map}
use Rattle.slot_arena.proofs.Listing.{of_pair}
use Rattle.slot_arena.specs.Slots.{handle_of}
use Rattle.slot_arena.specs.SlabSlots.{things_from}
use Rattle.slot_arena.proofs.slab_slots.handles_of.Given as goal

-- the handles so far and those of the entries that are left are all
abbrev pub invariant-loop-index : goal.invariant-loop-index
invariant-loop-index g l = l.handles.items ++ map of_pair l.index-iterator ≡ map handle_of (things_from 0 l.slots.slots)
