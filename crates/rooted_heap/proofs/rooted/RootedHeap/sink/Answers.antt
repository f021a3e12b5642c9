use Rattle.std.proofs.Common.{◌≡◌, ℕ, ◌+◌, ◌-◌, List, ap, ◌∙◌, arith, swap}
use Rattle.gd_model.specs.declared.value.Value.{Value}
use Rattle.rooted_heap.specs.Rooted.{RootedView}
use Rattle.rooted_heap.specs.Moving.{sunk}
use Rattle.rooted_heap.proofs.Moved.{sunk_more}
use Rattle.rooted_heap.proofs.rooted.RootedHeap.sink.Goals as goal

pub steps-preserved : goal.steps-preserved
steps-preserved c =
    let values = c.args.self.now.values in
    let j = c.steps.j in
    let last = c.len-last.result - 1 in
    let m = last - j - 1 in
    let at : last - j ≡ m + 1 = omega (arith, c.len-last.ensures, c.requires, c.steps-test.true) in
    c.exchange.ensures
    ∙ ap (λ (w : RootedView). record w { values = swap w.values (last - j) m }) c.steps.invariant
    ∙ ap (λ (k : ℕ). record c.args.self.now { values = swap (sunk values j) k m }) at
    ∙ ap (λ (l : List Value). record c.args.self.now { values = l }) (sunk_more values j m (omega (arith, c.len-last.ensures, c.requires, c.steps-test.true)))
