use Rattle.std.proofs.Common.{◌≡◌, ap, ◌∙◌, sym, map, get_or, subst, take, arith}
use Rattle.std.proofs.Math.ListN.{set}
use Rattle.std.proofs.Math.Seq.{take-set-lt}
use Rattle.std.proofs.lemmas.List.{length-set}
use Rattle.gd_model.specs.declared.value.Value.{Value}
use Rattle.gd_holding.specs.Handles.{value_handle}
use Rattle.rooted_heap.specs.Rooted.{bare, handles, IsSound}
use Rattle.rooted_heap.proofs.Counting.{bare-kept, bare-dropped}
use Rattle.rooted_heap.proofs.Holding.{apart_held}
use Rattle.rooted_heap.proofs.Moved.{given_apart, sound_given}
use Rattle.rooted_heap.proofs.There.{can_hold_here, can_hold_held}
use Rattle.rooted_heap.proofs.Values.{below, place_of, next_view}
use Rattle.rooted_heap.proofs.rooted.RootedHeap.set_held.Goals as goal

pub keep-requires-clause-held : goal.keep-requires-clause-held
keep-requires-clause-held c =
    let here = can_hold_here c.self.inside.heap c.self.inside.names c.self.inside.slots.items c.self.inside.top c.args.self.now c.self.view_is c.args.value c.requires.held in
    can_hold_held c.self.inside.heap.things c.self.inside.names (take c.self.inside.top c.self.inside.slots.items) c.args.value c.self.invariant.held.counted here.there here.held

pub keep-requires-clause-below : goal.keep-requires-clause-below
keep-requires-clause-below c = λ h _. below c.self.invariant (omega arith) h

pub give_up-requires : goal.give_up-requires
give_up-requires c =
    let slots = c.self.inside.slots.items in
    let lt = place_of slots c.args.self.now.values c.args.i (ap (λ w. w.values) c.self.view_is) c.self.invariant.within c.requires.there in
    let old : c.replace-old.result ≡ get_or slots c.args.i c.replace-old.result = subst (λ (y : Value). y ≡ get_or slots c.args.i y) (sym c.replace-old.ensures.value) c.index_mut.ensures.value in
    let here = can_hold_here c.self.inside.heap c.self.inside.names slots c.self.inside.top c.args.self.now c.self.view_is c.args.value c.requires.held in
    record {
      held = apart_held c.replace-old.result (set (take c.self.inside.top slots) c.args.i c.args.value)
          (given_apart c.self.invariant c.args.i lt c.replace-old.result c.args.value old here.there
          (ap (λ h. map bare h.things) c.keep.ensures.counted ∙ bare-kept c.self.inside.heap.things (value_handle c.args.value))
          (c.keep.ensures.holders (handles (take c.self.inside.top slots)) c.self.invariant.held.counted));
    }

pub invariant_of-self : goal.invariant_of-self
invariant_of-self c =
    let slots = c.self.inside.slots.items in
    let lt = place_of slots c.args.self.now.values c.args.i (ap (λ w. w.values) c.self.view_is) c.self.invariant.within c.requires.there in
    let old : c.replace-old.result ≡ get_or slots c.args.i c.replace-old.result = subst (λ (y : Value). y ≡ get_or slots c.args.i y) (sym c.replace-old.ensures.value) c.index_mut.ensures.value in
    let here = can_hold_here c.self.inside.heap c.self.inside.names slots c.self.inside.top c.args.self.now c.self.view_is c.args.value c.requires.held in
    let same = ap (λ h. map bare h.things) c.keep.ensures.counted ∙ bare-kept c.self.inside.heap.things (value_handle c.args.value) in
    let counted = c.keep.ensures.holders (handles (take c.self.inside.top slots)) c.self.invariant.held.counted in
    subst (λ (z : Value). IsSound c.give_up.new.heap.things c.self.inside.names (set slots c.args.i z) c.self.inside.top) (sym c.replace-old.ensures.after)
    (sound_given c.self.invariant c.args.i lt c.replace-old.result c.args.value old here.there same counted
    (ap (λ h. map bare h.things) c.give_up.ensures.counted ∙ bare-dropped c.keep.new.heap.things (value_handle c.replace-old.result))
    (c.give_up.ensures.holders (handles (set (take c.self.inside.top slots) c.args.i c.args.value))
    (given_apart c.self.invariant c.args.i lt c.replace-old.result c.args.value old here.there same counted)))

pub returns : goal.returns
returns c =
    let slots = c.self.inside.slots.items in
    let lt = place_of slots c.args.self.now.values c.args.i (ap (λ w. w.values) c.self.view_is) c.self.invariant.within c.requires.there in
    next_view c.self.inside.heap c.give_up.new.heap c.self.inside.names slots _ c.self.inside.top c.self.inside.top c.args.self.now c.self.view_is
    (ap (λ h. map bare h.things) c.give_up.ensures.counted ∙ bare-dropped c.keep.new.heap.things (value_handle c.replace-old.result)
    ∙ ap (λ h. map bare h.things) c.keep.ensures.counted ∙ bare-kept c.self.inside.heap.things (value_handle c.args.value))
    (ap (λ h. h.round) c.give_up.ensures.counted ∙ ap (λ h. h.round) c.keep.ensures.counted)
    (ap (λ h. h.made) c.give_up.ensures.counted ∙ ap (λ h. h.made) c.keep.ensures.counted)
    (length-set slots c.args.i c.replace-old.new.dest)
    _
    (ap (λ (z : Value). take c.self.inside.top (set slots c.args.i z)) c.replace-old.ensures.after
    ∙ take-set-lt c.self.inside.top slots c.args.i c.args.value lt
    ∙ ap (λ l. set l c.args.i c.args.value) (ap (λ w. w.values) c.self.view_is))
