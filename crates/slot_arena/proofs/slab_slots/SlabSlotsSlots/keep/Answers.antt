use Rattle.std.proofs.Common.{◌+◌, ap, refl, rules, arith}
use Rattle.slot_arena.proofs.Things.{slot_seen, serial_seen, change_seen}
use Rattle.slot_arena.proofs.Sound.{IsSound-write}
use Rattle.slot_arena.proofs.Counts.{count_seen}
use Rattle.slot_arena.proofs.slab_slots.SlabSlotsSlots.keep.Goals as goal

pub index_mut-slot-requires : goal.index_mut-slot-requires
index_mut-slot-requires g c =
    let alive = slot_seen c.args.h c.self.inside.slots.slots c.args.self.now.things (ap (λ a. a.things) c.self.view_is) c.requires.alive in
    rw alive.1 (search rules)

pub overflow_add-slot : goal.overflow_add-slot
overflow_add-slot g c =
    let count = count_seen c.args.h _ _ c.index_mut-slot.result.now (ap (λ a. a.things) c.self.view_is) c.requires.alive c.index_mut-slot.ensures.value in
    omega (arith, c.requires.below _ count)

pub invariant_of-self : goal.invariant_of-self
invariant_of-self g c =
    IsSound-write c.self.inside.slots _ _ c.args.h.index c.index_mut-slot.result.now _ c.index_mut-slot.ensures.value refl c.self.invariant

pub returns-clause-things : goal.returns-clause-things
returns-clause-things g c =
    let seen = ap (λ a. a.things) c.self.view_is in
    let serial = serial_seen c.args.h _ _ c.index_mut-slot.result.now seen c.requires.alive c.index_mut-slot.ensures.value in
    change_seen (λ e. record e { count = e.count + 1 }) c.args.h c.index_mut-slot.result.now _ _ _ seen (λ e. refl) c.index_mut-slot.ensures.value serial refl
