use Rattle.std.proofs.Common.{arith}
use Rattle.gd_builtins.proofs.Arguments.{whole_first}
use Rattle.gd_builtins.proofs.array_methods.call_has.Goals as goal

pub has-requires-clause-whole : goal.has-requires-clause-whole
has-requires-clause-whole g c = whole_first (g.K.Look.things c.args.look.now) (g.K.Look.names c.args.look.now) c.args.args.now c.v-item.result c.v-item.is (omega arith) c.requires.whole
