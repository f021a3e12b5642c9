use Rattle.std.proofs.Common.{◌<◌, length, arith}
use Rattle.rooted_heap.specs.Lent.{behind, named_in}
use Rattle.container_methods.proofs.Arguments.{whole_arg}
use Rattle.gd_vm.proofs.subscripts.key_fits.Goals as goal

pub fits_ty-requires : goal.fits_ty-requires
fits_ty-requires c =
    let lent = c.last_values.result.1 in
    let values = c.last_values.result.0.now in
    let some : 0 < length values = omega arith in
    whole_arg (behind lent) (named_in lent) values 0 c.index-values-0.result c.index-values-0.is some
    c.last_values.ensures.whole
