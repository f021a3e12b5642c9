use Rattle.std.proofs.Common.{ap, ◌∙◌, refl, rules}
use Rattle.slot_arena.proofs.Things.{slot_seen, serial_seen, find_seen, change_seen, same_arena, reads}
use Rattle.slot_arena.proofs.Sound.{IsSound-write}
use Rattle.slot_arena.proofs.slab_slots.SlabSlots.lent.Goals as goal

pub index_mut-slot-requires : goal.index_mut-slot-requires
index_mut-slot-requires g c =
    let alive = slot_seen c.args.h c.self.inside.slots.slots c.args.self.now.things (ap (λ a. a.things) c.self.view_is) c.requires in
    rw alive.1 (search rules)

pub invariant_of-self-lent : goal.invariant_of-self-lent
invariant_of-self-lent g c w =
    IsSound-write c.self.inside.slots _ _ c.args.h.index c.index_mut-slot.result.now _ c.index_mut-slot.ensures.value refl c.self.invariant

pub returns : goal.returns
returns g c =
    let seen = ap (λ a. a.things) c.self.view_is in
    let found = find_seen c.args.h _ _ seen ∙ ap (reads c.args.h) c.index_mut-slot.ensures.value in
    let serial = serial_seen c.args.h _ _ c.index_mut-slot.result.now seen c.requires c.index_mut-slot.ensures.value in (
      (
        refl,
        λ w. same_arena _ _
            (change_seen (λ e. record e { value = w }) c.args.h c.index_mut-slot.result.now _ _ _ seen (λ e. refl) c.index_mut-slot.ensures.value serial refl)
            (ap (λ a. a.spare) c.self.view_is)
            (ap (λ a. a.last) c.self.view_is),
      ),
      record { writes_back = tt; value = rw (found, serial) refl },
    )
