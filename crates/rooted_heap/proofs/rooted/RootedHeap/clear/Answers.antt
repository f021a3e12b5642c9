use Rattle.std.proofs.Common.{ap, ◌∙◌, arith, List}
use Rattle.std.proofs.Math.ListN.{set}
use Rattle.gd_model.specs.declared.value.Value.{Value}
use Rattle.gd_model.specs.declared.value.Value.TheVariants as v
use Rattle.rooted_heap.specs.Rooted.{RootedView}
use Rattle.rooted_heap.proofs.Edits.{cleared_more}
use Rattle.rooted_heap.proofs.rooted.RootedHeap.clear.Goals as goal

pub loop-i-preserved : goal.loop-i-preserved
loop-i-preserved c =
    c.set_free.ensures
    ∙ ap (λ (w : RootedView). record w { values = set w.values c.loop-i.i v.Nil }) c.loop-i.invariant
    ∙ ap (λ (l : List Value). record c.args.self.now { values = l }) (cleared_more c.args.self.now.values c.args.from c.loop-i.i v.Nil (omega arith) (omega arith))
