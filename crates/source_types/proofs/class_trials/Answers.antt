use Rattle.std.proofs.Common.{refl}
use Rattle.source_types.proofs.Computing.{computes}
use Rattle.source_types.proofs.class_trials.Goals as goal

pub returns-clause-holds : goal.returns-clause-holds
unfolding computes
returns-clause-holds c = refl

pub returns-clause-derived : goal.returns-clause-derived
unfolding computes
returns-clause-derived c = refl

pub returns-clause-static_code : goal.returns-clause-static_code
unfolding computes
returns-clause-static_code c = refl
