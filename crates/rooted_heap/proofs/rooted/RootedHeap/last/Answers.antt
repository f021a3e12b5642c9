use Rattle.std.proofs.Common.{◌-◌, ap, ◌∙◌, sym, arith, map}
use Rattle.rooted_heap.specs.Rooted.{bare}
use Rattle.rooted_heap.proofs.Values.{there_at, place_of}
use Rattle.rooted_heap.proofs.Wholes.{whole_for, lent_whole}
use Rattle.rooted_heap.proofs.rooted.RootedHeap.last.Goals as goal

pub returns-clause-whole : goal.returns-clause-whole
returns-clause-whole c =
    let lt = place_of c.self.inside.slots.items c.args.self.now.values 0 (ap (λ w. w.values) c.self.view_is) c.self.invariant.within c.requires in
    lent_whole c.things.result (map bare c.self.inside.heap.things) c.self.inside.names c.index.result.now
    (c.things.ensures.things ∙ sym (ap (λ w. w.things) c.self.view_is))
    (c.things.ensures.names ∙ sym (ap (λ w. w.names) c.self.view_is))
    (λ n. whole_for c.self.invariant.held.whole n c.index.result.now (there_at c.self.invariant (c.self.inside.top - 1) (omega arith) c.index.result.now c.index.ensures))
