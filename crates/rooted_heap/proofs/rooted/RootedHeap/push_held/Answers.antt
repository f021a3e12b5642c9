use Rattle.std.proofs.Common.{refl, ap, ◌∙◌, sym, arith, map, take, subst, ◌<◌, ℕ, List, Some, ◌≡◌}
use Rattle.std.proofs.lemmas.List.{length-set}
use Rattle.slot_arena.specs.declared.handle.Handle.{Handle}
use Rattle.gd_model.specs.declared.value.Value.{Value}
use Rattle.gd_holding.specs.Handles.{value_handle}
use Rattle.counted_heap.specs.declared.thing.Thing.{Thing}
use Rattle.rooted_heap.specs.Rooted.{bare, handles, IsThere, count_in}
use Rattle.rooted_heap.proofs.Counting.{bare-kept}
use Rattle.rooted_heap.proofs.There.{can_hold_held}
use Rattle.rooted_heap.proofs.Values.{below, sound_pushed, room_left, next_view, pushed_values}
use Rattle.rooted_heap.proofs.rooted.RootedHeap.push_held.Goals as goal

pub keep-requires-clause-held : goal.keep-requires-clause-held
keep-requires-clause-held c =
    let values = take c.self.inside.top c.self.inside.slots.items in
    can_hold_held c.self.inside.heap.things c.self.inside.names values c.args.value c.self.invariant.held.counted
    (subst (λ (bs : List (Handle × Thing)). IsThere bs c.self.inside.names c.args.value) (sym (ap (λ w. w.things) c.self.view_is))
    (subst (λ (ns : List (List ℕ)). IsThere c.args.self.now.things ns c.args.value) (sym (ap (λ w. w.names) c.self.view_is)) c.requires.held.there))
    (subst (λ (bs : List (Handle × Thing)). (h : Handle) → value_handle c.args.value ≡ Some h → 0 < count_in bs values h.serial) (sym (ap (λ w. w.things) c.self.view_is))
    (subst (λ (vs : List Value). (h : Handle) → value_handle c.args.value ≡ Some h → 0 < count_in c.args.self.now.things vs h.serial) (sym (ap (λ w. w.values) c.self.view_is)) c.requires.held.held))

pub keep-requires-clause-below : goal.keep-requires-clause-below
keep-requires-clause-below c = λ h _. below c.self.invariant (omega arith) h

pub invariant_of-self : goal.invariant_of-self
invariant_of-self c =
    sound_pushed c.self.invariant
    (room_left c.self.inside.slots.items c.args.self.now.values c.args.self.now.slots (ap (λ w. w.values) c.self.view_is) (ap (λ w. w.slots) c.self.view_is) c.self.invariant.within c.requires.room)
    c.args.value
    (ap (λ h. map bare h.things) c.keep.ensures.counted ∙ bare-kept c.self.inside.heap.things (value_handle c.args.value))
    (c.keep.ensures.holders (handles (take c.self.inside.top c.self.inside.slots.items)) c.self.invariant.held.counted)
    (subst (λ (bs : List (Handle × Thing)). IsThere bs c.self.inside.names c.args.value) (sym (ap (λ w. w.things) c.self.view_is))
    (subst (λ (ns : List (List ℕ)). IsThere c.args.self.now.things ns c.args.value) (sym (ap (λ w. w.names) c.self.view_is)) c.requires.held.there))

pub returns : goal.returns
returns c =
    next_view c.self.inside.heap c.keep.new.heap c.self.inside.names c.self.inside.slots.items _ c.self.inside.top _ c.args.self.now c.self.view_is
    (ap (λ h. map bare h.things) c.keep.ensures.counted ∙ bare-kept c.self.inside.heap.things (value_handle c.args.value))
    (ap (λ h. h.round) c.keep.ensures.counted)
    (ap (λ h. h.made) c.keep.ensures.counted)
    (length-set c.self.inside.slots.items c.self.inside.top c.args.value)
    _
    (pushed_values c.self.inside.slots.items c.self.inside.top c.args.self.now.values c.args.value _ (ap (λ w. w.values) c.self.view_is)
    (room_left c.self.inside.slots.items c.args.self.now.values c.args.self.now.slots (ap (λ w. w.values) c.self.view_is) (ap (λ w. w.slots) c.self.view_is) c.self.invariant.within c.requires.room)
    refl)
