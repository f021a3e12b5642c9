use Rattle.std.proofs.Common.{arith}
use Rattle.gd_builtins.proofs.Arguments.{whole_first}
use Rattle.gd_builtins.proofs.text_methods.join.Goals as goal

pub join_list-requires : goal.join_list-requires
join_list-requires g c =
    record { whole = whole_first (g.K.Look.things c.args.look.now) (g.K.Look.names c.args.look.now) c.args.args.now c.list-item.result c.list-item.is (omega arith) c.requires.whole }
