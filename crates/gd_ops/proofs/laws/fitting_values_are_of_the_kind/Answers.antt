use Rattle.gd_ops.proofs.FitKinds.{fitting_is_of_kind}
use Rattle.gd_ops.proofs.laws.fitting_values_are_of_the_kind.Goals as goal

pub returns : goal.returns
returns c = fitting_is_of_kind
