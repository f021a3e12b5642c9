use Rattle.std.proofs.Common.{length, ap, sym, ◌∙◌}
use Rattle.slot_arena.proofs.Sorting.{length-by_serial}
use Rattle.slot_arena.proofs.Things.{length-things_from}
use Rattle.slot_arena.specs.SlabSlots.{things_from}
use Rattle.slot_arena.proofs.slab_slots.SlabSlotsSlots.len.Goals as goal

pub returns : goal.returns
returns g c =
    c.len.ensures
    ∙ sym (length-by_serial (things_from 0 c.self.inside.slots.slots) ∙ length-things_from 0 c.self.inside.slots.slots)
    ∙ ap (λ a. length a.things) c.self.view_is
