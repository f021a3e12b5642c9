use Rattle.std.proofs.Common.{◌<◌, length, arith}
use Rattle.container_methods.proofs.Arguments.{whole_arg}
use Rattle.gd_vm.proofs.literals.all_fit.Goals as goal

pub fits_ty-requires : goal.fits_ty-requires
fits_ty-requires g c =
    let look = c.args.things.now in
    let values = c.args.values.now in
    let within : c.loop-k.k < length values = omega arith in
    whole_arg (g.K.Look.things look) (g.K.Look.names look) values c.loop-k.k c.index-values-k.result
    c.index-values-k.is within c.requires
