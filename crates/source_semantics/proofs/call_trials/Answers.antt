use Rattle.std.proofs.Common.{refl}
use Rattle.source_semantics.proofs.Computing.{computes}
use Rattle.source_semantics.proofs.call_trials.Goals as goal

pub returns-clause-returns : goal.returns-clause-returns
unfolding computes
returns-clause-returns c = refl

pub returns-clause-turns : goal.returns-clause-turns
unfolding computes
returns-clause-turns c = refl

pub returns-clause-defaulted : goal.returns-clause-defaulted
unfolding computes
returns-clause-defaulted c = refl

pub returns-clause-receiver : goal.returns-clause-receiver
unfolding computes
returns-clause-receiver c = refl

pub returns-clause-overridden : goal.returns-clause-overridden
unfolding computes
returns-clause-overridden c = refl

pub returns-clause-once : goal.returns-clause-once
unfolding computes
returns-clause-once c = refl

pub returns-clause-again : goal.returns-clause-again
unfolding computes
returns-clause-again c = refl

pub returns-clause-deep : goal.returns-clause-deep
unfolding computes
returns-clause-deep c = refl

pub returns-clause-target : goal.returns-clause-target
unfolding computes
returns-clause-target c = refl

pub returns-clause-old : goal.returns-clause-old
unfolding computes
returns-clause-old c = refl
