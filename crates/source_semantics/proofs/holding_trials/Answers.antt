use Rattle.std.proofs.Common.{refl}
use Rattle.source_semantics.proofs.Computing.{computes}
use Rattle.source_semantics.proofs.holding_trials.Goals as goal

pub returns-clause-operand : goal.returns-clause-operand
unfolding computes
returns-clause-operand c = refl

pub returns-clause-condition : goal.returns-clause-condition
unfolding computes
returns-clause-condition c = refl

pub returns-clause-repeats : goal.returns-clause-repeats
unfolding computes
returns-clause-repeats c = refl

pub returns-clause-leaves : goal.returns-clause-leaves
unfolding computes
returns-clause-leaves c = refl

pub returns-clause-returns : goal.returns-clause-returns
unfolding computes
returns-clause-returns c = refl

pub returns-clause-passes : goal.returns-clause-passes
unfolding computes
returns-clause-passes c = refl

pub returns-clause-callable : goal.returns-clause-callable
unfolding computes
returns-clause-callable c = refl

pub returns-clause-emits : goal.returns-clause-emits
unfolding computes
returns-clause-emits c = refl

pub returns-clause-holds : goal.returns-clause-holds
unfolding computes
returns-clause-holds c = refl
