use Rattle.std.proofs.Common.{◌+◌, ◌*◌, ◌<◌, length, arith}
use Rattle.container_methods.proofs.Arguments.{whole_arg}
use Rattle.gd_vm.proofs.literals.add_pair.Goals as goal

pub fits_ty-requires : goal.fits_ty-requires
fits_ty-requires g c =
    let look = c.args.things.now in
    let values = c.args.values.now in
    let within : 2 * c.args.k < length values = omega arith in
    whole_arg (g.K.Look.things look) (g.K.Look.names look) values (2 * c.args.k) c.index-values-k.result
    c.index-values-k.is within c.requires.whole

pub fits_ty-requires-else-not-fits_ty : goal.fits_ty-requires-else-not-fits_ty
fits_ty-requires-else-not-fits_ty g c =
    let look = c.args.things.now in
    let values = c.args.values.now in
    whole_arg (g.K.Look.things look) (g.K.Look.names look) values (2 * c.args.k + 1) c.index-values-k-2.result
    c.index-values-k-2.is c.requires.there c.requires.whole
