use Rattle.std.proofs.Common.{ap, ◌∙◌, sym}
use Rattle.gd_model.specs.declared.value.Value.TheVariants as v
use Rattle.gd_model.specs.View.{class_in}
use Rattle.rooted_heap.specs.Reading.{object_handle}
use Rattle.rooted_heap.proofs.Read.{object_named, alive_at, seen_read}
use Rattle.rooted_heap.proofs.Values.{place_of, value_is}
use Rattle.rooted_heap.proofs.rooted.RootedHeap.class_at.Goals as goal

pub thing-requires : goal.thing-requires
thing-requires c =
    let slots = c.self.inside.slots.items in
    let lt = place_of slots c.args.self.now.values c.args.i (ap (λ w. w.values) c.self.view_is) c.self.invariant.within c.requires in
    alive_at c.self.invariant c.args.i lt c.index.result.now c.index.ensures c.in-Some.h (object_named c.index.result.now c.in-Some.h (sym c.in-Some.ensures))

pub returns : goal.returns
returns c =
    let slots = c.self.inside.slots.items in
    let lt = place_of slots c.args.self.now.values c.args.i (ap (λ w. w.values) c.self.view_is) c.self.invariant.within c.requires in
    let at = value_is slots c.self.inside.top c.args.self.now.values c.args.i c.index.result.now v.Nil (ap (λ w. w.values) c.self.view_is) c.self.invariant.within lt c.index.ensures in
    let named = ap object_handle (sym at) ∙ sym c.in-Some.ensures in
    c.class_of.ensures ∙ sym (seen_read c.self.inside.heap c.self.inside.names c.self.inside.slots.items c.self.inside.top c.args.self.now c.self.view_is c.self.invariant.held c.in-Some.h c.thing.result.now c.thing.ensures class_in c.rising_law.ensures (object_handle _) named)
