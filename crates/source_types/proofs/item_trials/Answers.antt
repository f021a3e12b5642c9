use Rattle.std.proofs.Common.{refl}
use Rattle.source_types.proofs.Computing.{computes}
use Rattle.source_types.proofs.item_trials.Goals as goal

pub returns-clause-count : goal.returns-clause-count
unfolding computes
returns-clause-count c = refl

pub returns-clause-types : goal.returns-clause-types
unfolding computes
returns-clause-types c = refl

pub returns-clause-steps : goal.returns-clause-steps
unfolding computes
returns-clause-steps c = refl

pub returns-clause-circle : goal.returns-clause-circle
unfolding computes
returns-clause-circle c = refl

pub returns-clause-cut : goal.returns-clause-cut
unfolding computes
returns-clause-cut c = refl

pub returns-clause-bases : goal.returns-clause-bases
unfolding computes
returns-clause-bases c = refl
