use Rattle.std.proofs.Common.{refl}
use Rattle.source_semantics.proofs.Computing.{computes}
use Rattle.source_semantics.proofs.larger_trial.Goals as goal

pub returns : goal.returns
unfolding computes
returns c = record { shop = refl }
