use Rattle.std.proofs.Common.{◌≡◌, ◌+◌, ◌-◌, ap, ◌∙◌, sym, arith, take, get_or, subst, map}
use Rattle.std.proofs.lemmas.List.{length-set}
use Rattle.gd_model.specs.declared.value.Value.{Value}
use Rattle.gd_holding.specs.Handles.{value_handle}
use Rattle.rooted_heap.specs.Rooted.{bare, handles}
use Rattle.rooted_heap.proofs.Counting.{bare-dropped}
use Rattle.rooted_heap.proofs.Holding.{apart_held}
use Rattle.rooted_heap.proofs.Values.{last_apart, sound_popped, place_of, next_view, popped_values}
use Rattle.rooted_heap.proofs.rooted.RootedHeap.pop.Goals as goal

pub give_up-requires : goal.give_up-requires
give_up-requires c =
    let some = place_of c.self.inside.slots.items c.args.self.now.values 0 (ap (λ w. w.values) c.self.view_is) c.self.invariant.within c.requires in
    let i = c.self.inside.top - 1 in
    let top : c.self.inside.top ≡ i + 1 = omega arith in
    let x : c.replace-last.result ≡ get_or c.self.inside.slots.items i c.replace-last.result = subst (λ (y : Value). y ≡ get_or c.self.inside.slots.items i y) (sym c.replace-last.ensures.value) c.index_mut.ensures.value in
    record { held = apart_held c.replace-last.result (take i c.self.inside.slots.items) (last_apart c.self.invariant i top c.replace-last.result x) }

pub invariant_of-self : goal.invariant_of-self
invariant_of-self c =
    let some = place_of c.self.inside.slots.items c.args.self.now.values 0 (ap (λ w. w.values) c.self.view_is) c.self.invariant.within c.requires in
    let i = c.self.inside.top - 1 in
    let top : c.self.inside.top ≡ i + 1 = omega arith in
    let x : c.replace-last.result ≡ get_or c.self.inside.slots.items i c.replace-last.result = subst (λ (y : Value). y ≡ get_or c.self.inside.slots.items i y) (sym c.replace-last.ensures.value) c.index_mut.ensures.value in
    sound_popped c.self.invariant i top
    (ap (λ h. map bare h.things) c.give_up.ensures.counted ∙ bare-dropped c.self.inside.heap.things (value_handle c.replace-last.result))
    (c.give_up.ensures.holders (handles (take i c.self.inside.slots.items)) (last_apart c.self.invariant i top c.replace-last.result x))
    c.replace-last.new.dest

pub returns : goal.returns
returns c =
    let values = ap (λ w. w.values) c.self.view_is in
    next_view c.self.inside.heap c.give_up.new.heap c.self.inside.names c.self.inside.slots.items _ c.self.inside.top _ c.args.self.now c.self.view_is
    (ap (λ h. map bare h.things) c.give_up.ensures.counted ∙ bare-dropped c.self.inside.heap.things (value_handle c.replace-last.result))
    (ap (λ h. h.round) c.give_up.ensures.counted)
    (ap (λ h. h.made) c.give_up.ensures.counted)
    (length-set c.self.inside.slots.items (c.self.inside.top - 1) c.replace-last.new.dest)
    _
    (popped_values c.self.inside.slots.items c.self.inside.top c.args.self.now.values c.replace-last.new.dest values c.self.invariant.within)
