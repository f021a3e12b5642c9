use Rattle.std.proofs.Common.{ap, sym, ◌∙◌, rules}
use Rattle.std.proofs.lemmas.Bool.{eq-eqb, ne_eqb}
use Rattle.slot_arena.proofs.Things.{find_seen, reads}
use Rattle.slot_arena.proofs.slab_slots.SlabSlotsSlots.count.Goals as goal

pub returns-in-Some : goal.returns-in-Some
returns-in-Some g c =
    let found = find_seen c.args.h _ _ (ap (λ a. a.things) c.self.view_is) ∙ ap (reads c.args.h) (sym c.get.ensures) in
    let same = eq-eqb c.in-Some.slot.now.serial c.args.h.serial c.if-slot-h.true in
    rw (found, c.in-Some.is, same) (search rules)

pub returns-in_default : goal.returns-in_default
returns-in_default g c =
    let found = find_seen c.args.h _ _ (ap (λ a. a.things) c.self.view_is) ∙ ap (reads c.args.h) (sym c.get.ensures) in
    let differs = ne_eqb c.in-Some.slot.now.serial c.args.h.serial c.if-slot-h.false in
    rw (found, c.in-Some.is, differs) (search rules)

pub returns-in_default-2 : goal.returns-in_default-2
returns-in_default-2 g c =
    let found = find_seen c.args.h _ _ (ap (λ a. a.things) c.self.view_is) ∙ ap (reads c.args.h) (sym c.get.ensures) in
    rw (found, c.in_default.is) (search rules)
