use Rattle.std.proofs.Common.{arith}
use Rattle.gd_builtins.proofs.Arguments.{whole_first}
use Rattle.gd_builtins.proofs.array_methods.call_count.Goals as goal

pub counted-requires-clause-whole : goal.counted-requires-clause-whole
counted-requires-clause-whole g c = whole_first (g.K.Look.things c.args.look.now) (g.K.Look.names c.args.look.now) c.args.args.now c.v-item.result c.v-item.is (omega arith) c.requires.whole
