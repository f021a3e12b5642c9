use Rattle.std.proofs.Common.{◌<◌, length, arith}
use Rattle.container_methods.proofs.Arguments.{whole_arg}
use Rattle.container_methods.proofs.fitting.all_fit.Goals as goal

pub fits-requires : goal.fits-requires
fits-requires g c =
    let within : c.loop-i.i < length c.args.items.now = omega arith in
    record { whole = whole_arg (g.K.Look.things c.args.look.now) (g.K.Look.names c.args.look.now) c.args.items.now c.loop-i.i c.index-items-i.result c.index-items-i.is within c.requires.whole }
