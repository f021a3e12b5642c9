use Rattle.std.proofs.Common.{arith}
use Rattle.gd_containers.proofs.AllWhole.{whole_rest}
use Rattle.gd_builtins.proofs.Arguments.{whole_first}
use Rattle.gd_builtins.proofs.methods.call_method.Goals as goal

pub call_on-requires-clause-called : goal.call_on-requires-clause-called
call_on-requires-clause-called g c =
    whole_first (g.K.Look.things c.args.look.now) (g.K.Look.names c.args.look.now) c.args.args.now c.receiver-item.result c.receiver-item.is (omega arith) c.requires.whole

pub call_on-requires-clause-whole : goal.call_on-requires-clause-whole
call_on-requires-clause-whole g c = whole_rest (g.K.Look.things c.args.look.now) (g.K.Look.names c.args.look.now) c.args.args.now c.requires.whole
