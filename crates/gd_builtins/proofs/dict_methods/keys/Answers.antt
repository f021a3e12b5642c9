use Rattle.std.proofs.Common.{ap, ◌∙◌, arith}
use Rattle.std.proofs.lemmas.List.{take_all}
use Rattle.gd_builtins.proofs.Pairs.{keys_given, keys_more, keys_view}
use Rattle.gd_builtins.proofs.dict_methods.keys.Goals as goal

pub loop-i-preserved : goal.loop-i-preserved
loop-i-preserved c =
    keys_more c.args.d.now.pairs c.loop-i.i c.in-Some.key.now c.in-Some.field-0-1.now c.in_ok-value_of.field-0 c.loop-i.all c.push.new.array c.in-Some.ensures c.loop-i.invariant c.in_ok-value_of.ensures c.in_ok-push.ensures.ok

pub returns : goal.returns
returns c =
    let ps = c.args.d.now.pairs in
    keys_given ps c.loop-i.all (c.loop-i.invariant ∙ ap keys_view (take_all c.loop-i.i ps (omega arith)))
