use Rattle.std.proofs.Common.{refl}
use Rattle.source_semantics.proofs.Computing.{computes}
use Rattle.source_semantics.proofs.object_trials.Goals as goal

pub returns-clause-rounds : goal.returns-clause-rounds
unfolding computes
returns-clause-rounds c = refl

pub returns-clause-ring : goal.returns-clause-ring
unfolding computes
returns-clause-ring c = refl

pub returns-clause-leaves : goal.returns-clause-leaves
unfolding computes
returns-clause-leaves c = refl

pub returns-clause-freed : goal.returns-clause-freed
unfolding computes
returns-clause-freed c = refl

pub returns-clause-statics : goal.returns-clause-statics
unfolding computes
returns-clause-statics c = refl

pub returns-clause-turns : goal.returns-clause-turns
unfolding computes
returns-clause-turns c = refl

pub returns-clause-last : goal.returns-clause-last
unfolding computes
returns-clause-last c = refl

pub returns-clause-fixed : goal.returns-clause-fixed
unfolding computes
returns-clause-fixed c = refl

pub returns-clause-dictionary : goal.returns-clause-dictionary
unfolding computes
returns-clause-dictionary c = refl

pub returns-clause-signals : goal.returns-clause-signals
unfolding computes
returns-clause-signals c = refl
