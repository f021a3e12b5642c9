use Rattle.std.proofs.Common.{ap, sym, ◌∙◌, refl, rules}
use Rattle.slot_arena.proofs.Things.{slot_seen, serial_seen, find_seen, reads}
use Rattle.slot_arena.proofs.slab_slots.SlabSlotsSlots.value.Goals as goal

pub index-requires : goal.index-requires
index-requires g c =
    let alive = slot_seen c.args.h c.self.inside.slots.slots c.args.self.now.things (ap (λ a. a.things) c.self.view_is) c.requires in
    rw alive.1 (search rules)

pub returns : goal.returns
returns g c =
    let seen = ap (λ a. a.things) c.self.view_is in
    let found = find_seen c.args.h _ _ seen ∙ ap (reads c.args.h) c.index.ensures in
    let serial = serial_seen c.args.h _ _ c.index.result.now seen c.requires c.index.ensures in
    rw (found, serial) refl
