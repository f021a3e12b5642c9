use Rattle.std.proofs.Common.{ap, ◌∙◌, arith, [], ◌∷◌, ◌++◌}
use Rattle.slot_arena.proofs.Things.{insert-things}
use Rattle.slot_arena.specs.SlabSlots.{entry}
use Rattle.slot_arena.proofs.slab_slots.SlabSlotsSlots.insert.Goals as goal

pub returns-clause-things : goal.returns-clause-things
returns-clause-things g c =
    let last = ap (λ a. a.last) c.self.view_is in
    insert-things c.insert_reserved-index.result (record { serial = c.args.serial; count = 1; value = c.args.value }) c.self.inside.slots.slots c.insert_reserved-index.new.self.slots
    c.insert_reserved-index.ensures.was_vacant
    c.insert_reserved-index.ensures.updates.changed
    c.insert_reserved-index.ensures.updates.others
    (λ k other found. omega (arith, last, c.requires.later, c.self.invariant.below k other found))
    ∙ ap (λ l. l ++ entry c.insert_reserved-index.result (record { serial = c.args.serial; count = 1; value = c.args.value }) ∷ []) (ap (λ a. a.things) c.self.view_is)
