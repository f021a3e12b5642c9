use Rattle.std.proofs.Common.{◌-◌, ap, ◌∙◌, sym, arith, map}
use Rattle.rooted_heap.specs.Rooted.{bare}
use Rattle.rooted_heap.proofs.Values.{there_at, place_of}
use Rattle.rooted_heap.proofs.Wholes.{whole_for, lent_whole}
use Rattle.rooted_heap.proofs.rooted.RootedHeap.last_two.Goals as goal

pub returns-clause-left_whole : goal.returns-clause-left_whole
returns-clause-left_whole c =
    let lt = place_of c.self.inside.slots.items c.args.self.now.values 1 (ap (λ w. w.values) c.self.view_is) c.self.invariant.within c.requires in
    lent_whole c.things.result (map bare c.self.inside.heap.things) c.self.inside.names c.index.result.now
    (c.things.ensures.things ∙ sym (ap (λ w. w.things) c.self.view_is))
    (c.things.ensures.names ∙ sym (ap (λ w. w.names) c.self.view_is))
    (λ n. whole_for c.self.invariant.held.whole n c.index.result.now (there_at c.self.invariant (c.self.inside.top - 2) (omega arith) c.index.result.now c.index.ensures))

pub returns-clause-right_whole : goal.returns-clause-right_whole
returns-clause-right_whole c =
    let lt = place_of c.self.inside.slots.items c.args.self.now.values 1 (ap (λ w. w.values) c.self.view_is) c.self.invariant.within c.requires in
    lent_whole c.things.result (map bare c.self.inside.heap.things) c.self.inside.names c.index-2.result.now
    (c.things.ensures.things ∙ sym (ap (λ w. w.things) c.self.view_is))
    (c.things.ensures.names ∙ sym (ap (λ w. w.names) c.self.view_is))
    (λ n. whole_for c.self.invariant.held.whole n c.index-2.result.now (there_at c.self.invariant (c.self.inside.top - 1) (omega arith) c.index-2.result.now c.index-2.ensures))
