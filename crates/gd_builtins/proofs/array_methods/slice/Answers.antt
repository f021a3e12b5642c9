use Rattle.std.proofs.Common.{w64}
use Rattle.std.proofs.lemmas.Int.{to_z-of_z}
use Rattle.gd_builtins.proofs.Items.{slice_given}
use Rattle.gd_builtins.proofs.array_methods.slice.Goals as goal

pub returns : goal.returns
returns c =
    slice_given c.args.a.now c.in_ok-slice.field-0 c.args.from c.args.to _ _ (to_z-of_z w64 c.args.from c.ranges.from) (to_z-of_z w64 c.args.to c.ranges.to) c.in_ok-slice.ensures.made
