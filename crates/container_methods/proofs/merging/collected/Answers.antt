use Rattle.std.proofs.Common.{sym, ◌∙◌, arith}
use Rattle.container_methods.proofs.Merged.{chosen_on, chosen_end}
use Rattle.container_methods.proofs.merging.collected.Goals as goal

pub loop-i-preserved : goal.loop-i-preserved
loop-i-preserved c =
    chosen_on c.args.over c.args.d.now.pairs c.loop-i.all.items c.collect.new.all.items c.args.other.now.pairs c.loop-i.i c.in-Some.key.now c.in-Some.value.now c.is_put.result c.in-Some.ensures c.is_put.ensures c.in_ok-collect.ensures
    ∙ c.loop-i.invariant

pub returns : goal.returns
returns c = sym (chosen_end c.args.over c.args.d.now.pairs c.loop-i.all.items c.args.other.now.pairs c.loop-i.i (omega arith)) ∙ c.loop-i.invariant
