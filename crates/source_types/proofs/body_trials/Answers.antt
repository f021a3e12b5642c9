use Rattle.std.proofs.Common.{refl}
use Rattle.source_types.proofs.Computing.{computes}
use Rattle.source_types.proofs.body_trials.Goals as goal

pub returns-clause-hides : goal.returns-clause-hides
unfolding computes
returns-clause-hides c = refl

pub returns-clause-binds : goal.returns-clause-binds
unfolding computes
returns-clause-binds c = refl
