use Rattle.std.proofs.Common.{None, Some}
use Rattle.gd_builtins.proofs.Keys.{value_given}
use Rattle.gd_builtins.proofs.dict_methods.value_or.Goals as goal

pub returns-in-Some : goal.returns-in-Some
returns-in-Some c =
    value_given c.args.d.now c.args.k.now c.in_ok-key.key (Some c.in-Some.v.now) c.in_ok-key.ensures.faults c.in_ok-key.ensures.meant c.in-Some.ensures c.args.default.now c.in_ok-share-in-Some.field-0 c.in_ok-share-in-Some.ensures

pub returns : goal.returns
returns c =
    value_given c.args.d.now c.args.k.now c.in_ok-key.key None c.in_ok-key.ensures.faults c.in_ok-key.ensures.meant c.in-None.ensures c.args.default.now c.in_ok-share-in-None.field-0 c.in_ok-share-in-None.ensures
