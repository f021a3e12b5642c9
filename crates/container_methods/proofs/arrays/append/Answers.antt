use Rattle.std.proofs.Common.{arith}
use Rattle.assignability.specs.Fits.{fits}
use Rattle.container_methods.proofs.Arguments.{whole_arg}
use Rattle.container_methods.proofs.Places.{append_refused, one_arg}
use Rattle.container_methods.proofs.arrays.append.Goals as goal

pub entering-requires : goal.entering-requires
entering-requires g c = record { whole = whole_arg (g.K.Look.things c.args.look.now) (g.K.Look.names c.args.look.now) c.args.args.now 0 c.v-item.result c.v-item.is (omega arith) c.requires.whole }

pub returns-in-Err-clause-meant : goal.returns-in-Err-clause-meant
returns-in-Err-clause-meant g c =
    append_refused c.args.a.now (fits (g.B.Bases.bases c.args.bases.now) (g.K.Look.store c.args.look.now) c.args.a.now.element) (g.K.Look.store c.args.look.now) c.args.args.now c.v-item.result
    (one_arg c.args.args.now c.v-item.result c.v-item.is (omega arith)) c.in-Err.fault c.in-Err.ensures.meant
