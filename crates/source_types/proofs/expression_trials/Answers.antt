use Rattle.std.proofs.Common.{refl}
use Rattle.source_types.proofs.Computing.{computes}
use Rattle.source_types.proofs.expression_trials.Goals as goal

pub returns-clause-names : goal.returns-clause-names
unfolding computes
returns-clause-names c = refl

pub returns-clause-meanings : goal.returns-clause-meanings
unfolding computes
returns-clause-meanings c = refl

pub returns-clause-static_code : goal.returns-clause-static_code
unfolding computes
returns-clause-static_code c = (refl, refl)

pub returns-clause-calls : goal.returns-clause-calls
unfolding computes
returns-clause-calls c = refl

pub returns-clause-attributes : goal.returns-clause-attributes
unfolding computes
returns-clause-attributes c = refl

pub returns-clause-operators : goal.returns-clause-operators
unfolding computes
returns-clause-operators c = refl

pub returns-clause-builtins : goal.returns-clause-builtins
unfolding computes
returns-clause-builtins c = refl
