use Rattle.std.proofs.Common.{arith}
use Rattle.gd_builtins.proofs.Arguments.{whole_first}
use Rattle.gd_builtins.proofs.functions.call_on_values.Goals as goal

pub length_of-requires : goal.length_of-requires
length_of-requires g c =
    record { whole = whole_first (g.K.Look.things c.args.look.now) (g.K.Look.names c.args.look.now) c.args.args.now c.v-item.result c.v-item.is (omega arith) c.requires.whole }
