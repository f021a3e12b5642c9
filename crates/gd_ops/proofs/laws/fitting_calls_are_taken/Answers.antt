use Rattle.gd_ops.proofs.Misfits.{fitting_taken}
use Rattle.gd_ops.proofs.laws.fitting_calls_are_taken.Goals as goal

pub returns : goal.returns
returns c = fitting_taken
