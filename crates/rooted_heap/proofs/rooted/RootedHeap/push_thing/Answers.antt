use Rattle.std.proofs.Common.{◌≡◌, ℕ, ◌+◌, List, [], ◌∷◌, ◌++◌, length, take, ap, ◌∙◌, sym, subst}
use Rattle.std.proofs.Math.ListN.{set}
use Rattle.slot_arena.specs.declared.handle.Handle.{Handle}
use Rattle.slot_arena.specs.Slots.{Entry}
use Rattle.gd_model.specs.declared.fault.RunFault.TheVariants.{TooManyThings}
use Rattle.gd_model.specs.declared.value.Value.{Value}
use Rattle.gd_holding.specs.Holding.{AreCounted}
use Rattle.counted_heap.specs.declared.thing.Thing.{Thing}
use Rattle.counted_heap.specs.Thing.{thing_places}
use Rattle.counted_heap.specs.Heap.{RisesFrom, serials}
use Rattle.rooted_heap.specs.declared.making.ThingKind.{ThingKind}
use Rattle.rooted_heap.specs.Making.{kind_in, value_named, IsNamed}
use Rattle.rooted_heap.specs.Rooted.{handles, IsSound}
use Rattle.rooted_heap.proofs.Made.{nothing_inside, room_for_thing, sound_made}
use Rattle.rooted_heap.proofs.Values.{room_left}
use Rattle.rooted_heap.proofs.rooted.RootedHeap.push_thing.Goals as goal

pub invariant_of-self-2 : goal.invariant_of-self-2
invariant_of-self-2 c =
    let es = c.self.inside.heap.things in
    let names = c.self.inside.names in
    let slots = c.self.inside.slots.items in
    let top = c.self.inside.top in
    let h = c.in_ok-h.h in
    let e : Entry Thing = record { index = h.index; serial = h.serial; count = 1; value = c.args.thing } in
    let value : c.value_of.result ≡ value_named (kind_in c.args.thing) h = c.value_of.ensures ∙ ap (λ (k : ThingKind). value_named k h) c.kind_of-kind.ensures in
    let hand = handles (take top slots) in
    let counted = subst (λ (l : List (Entry Thing)). AreCounted thing_places l (h ∷ hand)) c.in_ok-h.ensures.things
    (c.in_ok-h.ensures.holders hand (subst (λ (hs : List Handle). AreCounted thing_places es (hs ++ hand)) (sym (nothing_inside c.args.thing c.requires.free)) c.self.invariant.held.counted)) in
    subst (λ (l : List (Entry Thing)). IsSound l names (set slots top c.value_of.result) (top + 1)) (sym c.in_ok-h.ensures.things)
    (subst (λ (x : Value). IsSound (es ++ e ∷ []) names (set slots top x) (top + 1)) (sym value)
    (sound_made c.self.invariant
    (room_left slots c.args.self.now.values c.args.self.now.slots (ap (λ w. w.values) c.self.view_is) (ap (λ w. w.slots) c.self.view_is) c.self.invariant.within c.requires.room)
    e c.rising_law.ensures
    (subst (λ (l : List (Entry Thing)). RisesFrom 0 (serials l)) c.in_ok-h.ensures.things c.rising_law-2.ensures)
    (room_for_thing (length es) c.self.inside.heap.made TooManyThings c.in_ok-h.ensures.faults)
    c.requires.free
    (subst (λ (ns : List (List ℕ)). IsNamed ns c.args.thing) (sym (ap (λ w. w.names) c.self.view_is)) c.requires.named)
    counted))
