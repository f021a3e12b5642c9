use Rattle.std.proofs.Common.{refl}
use Rattle.source_semantics.proofs.Computing.{computes}
use Rattle.source_semantics.proofs.statement_trials.Goals as goal

pub returns-clause-prints : goal.returns-clause-prints
unfolding computes
returns-clause-prints c = refl

pub returns-clause-enters : goal.returns-clause-enters
unfolding computes
returns-clause-enters c = refl

pub returns-clause-counts : goal.returns-clause-counts
unfolding computes
returns-clause-counts c = refl

pub returns-clause-ends : goal.returns-clause-ends
unfolding computes
returns-clause-ends c = refl

pub returns-clause-enough : goal.returns-clause-enough
unfolding computes
returns-clause-enough c = refl

pub returns-clause-faults : goal.returns-clause-faults
unfolding computes
returns-clause-faults c = refl

pub returns-clause-takes : goal.returns-clause-takes
unfolding computes
returns-clause-takes c = refl

pub returns-clause-grows : goal.returns-clause-grows
unfolding computes
returns-clause-grows c = refl
