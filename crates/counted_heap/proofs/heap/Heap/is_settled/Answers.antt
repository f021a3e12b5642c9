use Rattle.std.proofs.Common.{◌≡◌, eqb, length, rules, ap, ◌∙◌}
use Rattle.counted_heap.proofs.Turn.{nothing, settled}
use Rattle.counted_heap.proofs.heap.Heap.is_settled.Goals as goal

pub returns-then-is_empty : goal.returns-then-is_empty
returns-then-is_empty g c =
    let none : length c.self.inside.round.items ≡ 0 = search rules in
    rw (← c.self.view_is)
    (settled c.self.invariant (nothing _ none) c.is_empty-then-is_empty.result (c.is_empty-then-is_empty.ensures ∙ ap (λ n. eqb n 0) c.self.inside.waiting.ok.0))
