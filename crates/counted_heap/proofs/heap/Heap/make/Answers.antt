use Rattle.std.proofs.Common.{◌≡◌, ℕ, ◌+◌, List, [], ◌∷◌, ◌++◌, subst, ap, sym, ◌∙◌, refl, arith}
use Rattle.slot_arena.specs.declared.handle.Handle.{Handle}
use Rattle.slot_arena.specs.Slots.{Entry, handle_of}
use Rattle.gd_holding.specs.Holding.{HeldBy, filled}
use Rattle.counted_heap.proofs.Changes.{sound_made, sound_roomy}
use Rattle.counted_heap.proofs.Holders.{held_made}
use Rattle.counted_heap.proofs.heap.Heap.make.Goals as goal

pub invariant_of-self-in_err-make_room : goal.invariant_of-self-in_err-make_room
invariant_of-self-in_err-make_room g c =
    rw (c.reserve.ensures.things, c.reserve.ensures.last, c.make_room.ensures.items)
    (sound_roomy c.self.invariant _ _ c.make_room.ensures.capacity (omega arith))

pub invariant_of-self-in_err-make_room-2 : goal.invariant_of-self-in_err-make_room-2
invariant_of-self-in_err-make_room-2 g c =
    rw (c.reserve.ensures.things, c.reserve.ensures.last, c.make_room.ensures.items, c.make_room-2.ensures.items)
    (sound_roomy c.self.invariant _ _ c.make_room.ensures.capacity c.make_room-2.ensures.capacity)

pub invariant_of-self-2 : goal.invariant_of-self-2
invariant_of-self-2 g c =
    let e : Entry g.row.T.Denot = record { index = c.insert.result.index; serial = c.self.inside.made + 1; count = 1; value = c.args.t } in
    rw (c.insert.ensures.things, c.insert.ensures.last, c.reserve.ensures.things, c.make_room.ensures.items, c.make_room-2.ensures.items)
    (sound_made c.self.invariant e refl (omega (arith, c.if-self-ge-MAX_MADE.false)) refl _ _ (omega (arith, c.in_ok-make_room.ensures.room, c.len-alive.ensures)) (omega (arith, c.in_ok-make_room-2.ensures.room, c.len-alive.ensures)))

pub returns-clause-holders : goal.returns-clause-holders
returns-clause-holders g c = λ hand held.
    let e : Entry g.row.T.Denot = record { index = c.insert.result.index; serial = c.self.inside.made + 1; count = 1; value = c.args.t } in
    let es = g.S.Slots.things c.self.inside.slots in
    let holds = λ (t : g.row.T.Denot). filled (g.T.Holds.places t) in
    let made = held_made holds es e hand c.self.inside.made c.self.invariant.up_to (omega arith) refl
    (subst (λ (xs : List (Entry g.row.T.Denot)). HeldBy holds xs (holds c.args.t ++ hand)) (sym (ap (λ v. v.things) c.self.view_is)) held) in
    let handle : handle_of e ≡ c.insert.result = ap (λ (n : ℕ). record { index = c.insert.result.index; serial = n }) (sym c.insert.ensures.serial) in
    subst (λ (xs : List (Entry g.row.T.Denot)). HeldBy holds xs (c.insert.result ∷ hand)) (sym (c.insert.ensures.things ∙ ap (λ (xs : List (Entry g.row.T.Denot)). xs ++ e ∷ []) c.reserve.ensures.things))
    (subst (λ (x : Handle). HeldBy holds (es ++ e ∷ []) (x ∷ hand)) handle made)
