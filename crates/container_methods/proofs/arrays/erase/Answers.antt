use Rattle.std.proofs.Common.{arith}
use Rattle.container_methods.proofs.Arguments.{whole_arg}
use Rattle.container_methods.proofs.arrays.erase.Goals as goal

pub erased-requires-clause-whole : goal.erased-requires-clause-whole
erased-requires-clause-whole g c = whole_arg (g.K.Look.things c.args.look.now) (g.K.Look.names c.args.look.now) c.args.args.now 0 c.v-item.result c.v-item.is (omega arith) c.requires.whole
