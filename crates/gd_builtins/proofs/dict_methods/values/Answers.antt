use Rattle.std.proofs.Common.{ap, ◌∙◌, arith}
use Rattle.std.proofs.lemmas.List.{take_all}
use Rattle.gd_builtins.proofs.Pairs.{values_given, values_more, values_view}
use Rattle.gd_builtins.proofs.dict_methods.values.Goals as goal

pub loop-i-preserved : goal.loop-i-preserved
loop-i-preserved c =
    values_more c.args.d.now.pairs c.loop-i.i c.in-Some.field-0-0.now c.in-Some.value.now c.in_ok-share.field-0 c.loop-i.all c.push.new.array c.in-Some.ensures c.loop-i.invariant c.in_ok-share.ensures c.in_ok-push.ensures.ok

pub returns : goal.returns
returns c =
    let ps = c.args.d.now.pairs in
    values_given ps c.loop-i.all (c.loop-i.invariant ∙ ap values_view (take_all c.loop-i.i ps (omega arith)))
