use Rattle.std.proofs.Common.{arith}
use Rattle.container_methods.proofs.Arguments.{whole_arg}
use Rattle.container_methods.proofs.arrays.fill.Goals as goal

pub filled-requires : goal.filled-requires
filled-requires g c = record { whole = whole_arg (g.K.Look.things c.args.look.now) (g.K.Look.names c.args.look.now) c.args.args.now 0 c.v-item.result c.v-item.is (omega arith) c.requires.whole }
