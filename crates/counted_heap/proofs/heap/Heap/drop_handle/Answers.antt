use Rattle.std.proofs.Common.{◌-◌, List, ◌∷◌, ap, sym, subst, arith, rules}
use Rattle.slot_arena.specs.Slots.{Entry}
use Rattle.gd_holding.specs.Holding.{HeldBy, filled}
use Rattle.counted_heap.proofs.Changes.{found_from_count, sound_changed, sound_freed, sound_room}
use Rattle.counted_heap.proofs.Holders.{held_dropped}
use Rattle.counted_heap.proofs.heap.Heap.drop_handle.Goals as goal

pub push_reserved-requires : goal.push_reserved-requires
push_reserved-requires g c =
    let found = found_from_count (g.S.Slots.things c.self.inside.slots) c.args.h _ c.drop_one.ensures.left in
    let room = sound_room c.self.invariant c.args.h found.0 found.1 (omega (arith, found.2)) in
    search (rules, room)

pub invariant_of-self : goal.invariant_of-self
invariant_of-self g c =
    let found = found_from_count (g.S.Slots.things c.self.inside.slots) c.args.h _ c.drop_one.ensures.left in
    rw (c.drop_one.ensures.things, c.drop_one.ensures.last, c.push_reserved.ensures.items, c.push_reserved.ensures.capacity)
    (sound_freed c.self.invariant (λ n. n - 1) c.args.h found.0 found.1 (omega (arith, found.2)) (omega (arith, found.2, c.if-drop_one-eq0.true)))

pub invariant_of-self-else-drop_one-eq0 : goal.invariant_of-self-else-drop_one-eq0
invariant_of-self-else-drop_one-eq0 g c =
    let found = found_from_count (g.S.Slots.things c.self.inside.slots) c.args.h _ c.drop_one.ensures.left in
    rw (c.drop_one.ensures.things, c.drop_one.ensures.last)
    (sound_changed c.self.invariant (λ n. n - 1) c.args.h found.0 found.1 (omega (arith, found.2)) (omega (arith, found.2, c.if-drop_one-eq0.false)))

pub returns-then-drop_one-eq0-clause-holders : goal.returns-then-drop_one-eq0-clause-holders
returns-then-drop_one-eq0-clause-holders g c = λ hand held.
    subst (λ (es : List (Entry g.row.T.Denot)). HeldBy (λ t. filled (g.T.Holds.places t)) es hand) (sym c.drop_one.ensures.things)
    (held_dropped _ (g.S.Slots.things c.self.inside.slots) c.args.h hand c.self.invariant.rising
    (subst (λ (es : List (Entry g.row.T.Denot)). HeldBy (λ t. filled (g.T.Holds.places t)) es (c.args.h ∷ hand)) (sym (ap (λ v. v.things) c.self.view_is)) held))

pub returns-else-drop_one-eq0-clause-holders : goal.returns-else-drop_one-eq0-clause-holders
returns-else-drop_one-eq0-clause-holders g c = λ hand held.
    subst (λ (es : List (Entry g.row.T.Denot)). HeldBy (λ t. filled (g.T.Holds.places t)) es hand) (sym c.drop_one.ensures.things)
    (held_dropped _ (g.S.Slots.things c.self.inside.slots) c.args.h hand c.self.invariant.rising
    (subst (λ (es : List (Entry g.row.T.Denot)). HeldBy (λ t. filled (g.T.Holds.places t)) es (c.args.h ∷ hand)) (sym (ap (λ v. v.things) c.self.view_is)) held))
