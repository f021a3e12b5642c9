use Rattle.std.proofs.Common.{refl}
use Rattle.source_semantics.proofs.Computing.{computes}
use Rattle.source_semantics.proofs.order_trials.Goals as goal

pub returns-clause-turn : goal.returns-clause-turn
unfolding computes
returns-clause-turn c = (refl, refl)

pub returns-clause-range : goal.returns-clause-range
unfolding computes
returns-clause-range c = refl

pub returns-clause-key : goal.returns-clause-key
unfolding computes
returns-clause-key c = refl

pub returns-clause-guard : goal.returns-clause-guard
unfolding computes
returns-clause-guard c = refl

pub returns-clause-emits : goal.returns-clause-emits
unfolding computes
returns-clause-emits c = refl

pub returns-clause-base : goal.returns-clause-base
unfolding computes
returns-clause-base c = refl
