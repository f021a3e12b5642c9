use Rattle.std.proofs.Common.{arith}
use Rattle.container_methods.proofs.Arguments.{whole_arg}
use Rattle.container_methods.proofs.arrays.append_array.Goals as goal

pub append_other-requires : goal.append_other-requires
append_other-requires g c = record { whole = whole_arg (g.K.Look.things c.args.look.now) (g.K.Look.names c.args.look.now) c.args.args.now 0 c.other-item.result c.other-item.is (omega arith) c.requires.whole }
