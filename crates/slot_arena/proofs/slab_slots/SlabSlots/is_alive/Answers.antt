use Rattle.std.proofs.Common.{ap, sym, ◌∙◌, rules}
use Rattle.slot_arena.proofs.Things.{find_seen, reads}
use Rattle.slot_arena.proofs.slab_slots.SlabSlots.is_alive.Goals as goal

pub returns-in-Some : goal.returns-in-Some
returns-in-Some g c =
    let found = find_seen c.args.h _ _ (ap (λ a. a.things) c.self.view_is) ∙ ap (reads c.args.h) (sym c.get.ensures) in
    rw (found, c.in-Some.is) (search rules)

pub returns-in-None : goal.returns-in-None
returns-in-None g c =
    let found = find_seen c.args.h _ _ (ap (λ a. a.things) c.self.view_is) ∙ ap (reads c.args.h) (sym c.get.ensures) in
    rw (found, c.in-None.is) (search rules)
