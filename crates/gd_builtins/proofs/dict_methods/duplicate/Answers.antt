use Rattle.gd_builtins.proofs.Pairs.{copy_more}
use Rattle.gd_builtins.proofs.dict_methods.duplicate.Goals as goal

pub loop-i-preserved : goal.loop-i-preserved
loop-i-preserved c =
    copy_more c.args.d.now c.loop-i.all c.put.new.d c.loop-i.i c.in-Some.key.now c.in_ok-share.field-0 c.in-Some.value.now c.in_ok-share-2.field-0 c.keys_differ.ensures c.in-Some.ensures c.loop-i.invariant c.in_ok-share.ensures c.in_ok-share-2.ensures c.in_ok-put.ensures.ok
