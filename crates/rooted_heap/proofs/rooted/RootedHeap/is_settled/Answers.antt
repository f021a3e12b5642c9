use Rattle.std.proofs.Common.{ap, ◌∙◌, sym, take}
use Rattle.rooted_heap.proofs.Settled.{round_is}
use Rattle.rooted_heap.proofs.rooted.RootedHeap.is_settled.Goals as goal

pub returns : goal.returns
returns c =
    let e = round_is c.self.inside.heap (take c.self.inside.top c.self.inside.slots.items) c.args.self.now c.self.invariant.held.counted (ap (λ w. w.things) c.self.view_is) (ap (λ w. w.round) c.self.view_is) (ap (λ w. w.values) c.self.view_is) in
    (λ yes'. sym e ∙ c.is_settled.ensures.0 yes', λ none. c.is_settled.ensures.1 (e ∙ none))
