use Rattle.std.proofs.Common.{◌≡◌, ap, ◌∙◌, sym, arith, map, get_or, subst, take}
use Rattle.std.proofs.lemmas.List.{length-set}
use Rattle.gd_model.specs.declared.value.Value.{Value}
use Rattle.gd_model.specs.declared.value.Value.TheVariants as v
use Rattle.gd_holding.specs.Handles.{value_handle}
use Rattle.rooted_heap.specs.Rooted.{bare, handles}
use Rattle.rooted_heap.proofs.Counting.{bare-kept}
use Rattle.rooted_heap.proofs.Values.{held_at, below, there_at, sound_pushed, place_of, room_left, value_is, next_view, pushed_values}
use Rattle.rooted_heap.proofs.rooted.RootedHeap.push_copy.Goals as goal

pub keep-requires-clause-held : goal.keep-requires-clause-held
keep-requires-clause-held c =
    let values = ap (λ w. w.values) c.self.view_is in
    let x : c.in_ok-copy.copy ≡ get_or c.self.inside.slots.items c.args.i c.in_ok-copy.copy = subst (λ (y : Value). y ≡ get_or c.self.inside.slots.items c.args.i y) (sym c.in_ok-copy.ensures) c.index.ensures in
    held_at c.self.invariant c.args.i (place_of c.self.inside.slots.items c.args.self.now.values c.args.i values c.self.invariant.within c.requires.there) c.in_ok-copy.copy x

pub keep-requires-clause-below : goal.keep-requires-clause-below
keep-requires-clause-below c = λ h _. below c.self.invariant (omega arith) h

pub invariant_of-self : goal.invariant_of-self
invariant_of-self c =
    let values = ap (λ w. w.values) c.self.view_is in
    let x : c.in_ok-copy.copy ≡ get_or c.self.inside.slots.items c.args.i c.in_ok-copy.copy = subst (λ (y : Value). y ≡ get_or c.self.inside.slots.items c.args.i y) (sym c.in_ok-copy.ensures) c.index.ensures in
    sound_pushed c.self.invariant
    (room_left c.self.inside.slots.items c.args.self.now.values c.args.self.now.slots values (ap (λ w. w.slots) c.self.view_is) c.self.invariant.within c.requires.room)
    c.in_ok-copy.copy
    (ap (λ h. map bare h.things) c.keep.ensures.counted ∙ bare-kept c.self.inside.heap.things (value_handle c.in_ok-copy.copy))
    (c.keep.ensures.holders (handles (take c.self.inside.top c.self.inside.slots.items)) c.self.invariant.held.counted)
    (there_at c.self.invariant c.args.i (place_of c.self.inside.slots.items c.args.self.now.values c.args.i values c.self.invariant.within c.requires.there) c.in_ok-copy.copy x)

pub returns-clause-ok : goal.returns-clause-ok
returns-clause-ok c =
    let values = ap (λ w. w.values) c.self.view_is in
    let x : c.in_ok-copy.copy ≡ get_or c.self.inside.slots.items c.args.i c.in_ok-copy.copy = subst (λ (y : Value). y ≡ get_or c.self.inside.slots.items c.args.i y) (sym c.in_ok-copy.ensures) c.index.ensures in
    let lt = place_of c.self.inside.slots.items c.args.self.now.values c.args.i values c.self.invariant.within c.requires.there in
    next_view c.self.inside.heap c.keep.new.heap c.self.inside.names c.self.inside.slots.items _ c.self.inside.top _ c.args.self.now c.self.view_is
    (ap (λ h. map bare h.things) c.keep.ensures.counted ∙ bare-kept c.self.inside.heap.things (value_handle c.in_ok-copy.copy))
    (ap (λ h. h.round) c.keep.ensures.counted)
    (ap (λ h. h.made) c.keep.ensures.counted)
    (length-set c.self.inside.slots.items c.self.inside.top c.in_ok-copy.copy)
    _
    (pushed_values c.self.inside.slots.items c.self.inside.top c.args.self.now.values c.in_ok-copy.copy _ values
    (room_left c.self.inside.slots.items c.args.self.now.values c.args.self.now.slots values (ap (λ w. w.slots) c.self.view_is) c.self.invariant.within c.requires.room)
    (value_is c.self.inside.slots.items c.self.inside.top c.args.self.now.values c.args.i c.in_ok-copy.copy v.Nil values c.self.invariant.within lt x))
