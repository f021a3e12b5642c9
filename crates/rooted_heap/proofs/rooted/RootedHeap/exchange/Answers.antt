use Rattle.std.proofs.Common.{List, ap, ◌∙◌, sym, refl, arith, swap, take, subst, length}
use Rattle.gd_model.specs.declared.value.Value.{Value}
use Rattle.gd_model.specs.declared.value.Value.TheVariants as v
use Rattle.rooted_heap.specs.Rooted.{IsSound}
use Rattle.rooted_heap.proofs.Moved.{sound_swapped, swapped_slots, take_swap, length_swap}
use Rattle.rooted_heap.proofs.Values.{next_view, place_of}
use Rattle.rooted_heap.proofs.rooted.RootedHeap.exchange.Goals as goal

pub invariant_of-self : goal.invariant_of-self
invariant_of-self c =
    let slots = c.self.inside.slots.items in
    let values = ap (λ w. w.values) c.self.view_is in
    let first = place_of slots c.args.self.now.values c.args.i values c.self.invariant.within c.requires.first in
    let second = place_of slots c.args.self.now.values c.args.j values c.self.invariant.within c.requires.second in
    subst (λ (l : List Value). IsSound c.self.inside.heap.things c.self.inside.names l c.self.inside.top)
    (sym (swapped_slots c.self.inside.slots.len slots c.as_mut_slice.result.now c.swap.new.self c.args.i c.args.j c.swap.ensures.after c.as_mut_slice.ensures.value c.as_mut_slice.ensures.len c.swap.ensures.len))
    (sound_swapped c.self.invariant c.args.i c.args.j first second)

pub returns : goal.returns
returns c =
    let slots = c.self.inside.slots.items in
    let values = ap (λ w. w.values) c.self.view_is in
    let first = place_of slots c.args.self.now.values c.args.i values c.self.invariant.within c.requires.first in
    let second = place_of slots c.args.self.now.values c.args.j values c.self.invariant.within c.requires.second in
    let new = swapped_slots c.self.inside.slots.len slots c.as_mut_slice.result.now c.swap.new.self c.args.i c.args.j c.swap.ensures.after c.as_mut_slice.ensures.value c.as_mut_slice.ensures.len c.swap.ensures.len in
    next_view c.self.inside.heap c.self.inside.heap c.self.inside.names slots _ c.self.inside.top c.self.inside.top c.args.self.now c.self.view_is refl refl refl
    (ap length new ∙ length_swap slots c.args.i c.args.j (omega (arith, c.self.invariant.within)) (omega (arith, c.self.invariant.within)))
    _
    (ap (λ (l : List Value). take c.self.inside.top l) new
    ∙ take_swap c.self.inside.top slots c.args.i c.args.j v.Nil first second c.self.invariant.within
    ∙ ap (λ (l : List Value). swap l c.args.i c.args.j) values)
