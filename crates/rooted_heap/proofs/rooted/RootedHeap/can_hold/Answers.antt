use Rattle.std.proofs.Common.{ap, ◌∙◌, sym, take}
use Rattle.rooted_heap.proofs.There.{can_hold_from}
use Rattle.rooted_heap.proofs.rooted.RootedHeap.can_hold.Goals as goal

pub returns-then-is_settled : goal.returns-then-is_settled
returns-then-is_settled c = λ passed.
    can_hold_from c.self.inside.heap c.self.inside.names (take c.self.inside.top c.self.inside.slots.items) c.args.self.now c.args.value.now
    (ap (λ w. w.things) c.self.view_is) (ap (λ w. w.names) c.self.view_is) (ap (λ w. w.values) c.self.view_is)
    c.self.invariant.held.counted (c.is_settled.ensures.0 c.if-is_settled.true) (sym c.is_there.ensures ∙ passed)
