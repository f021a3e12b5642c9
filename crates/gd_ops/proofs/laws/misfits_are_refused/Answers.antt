use Rattle.gd_ops.proofs.Misfits.{misfits_refused}
use Rattle.gd_ops.proofs.laws.misfits_are_refused.Goals as goal

pub returns : goal.returns
returns c = misfits_refused
