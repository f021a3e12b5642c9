use Rattle.std.proofs.Common.{refl}
use Rattle.source_semantics.specs.TrialsOfStatements.{counting, hello, matching, on_null, three_times}
use Rattle.emitted_code.proofs.Computing.{computes}
use Rattle.emitted_code.proofs.Runs.{alike}
use Rattle.emitted_code.proofs.statement_trials.Goals as goal
use Rattle.emitted_code.specs.Trials.{alone}
use Rattle.emitted_code.specs.TrialsOfStatements.{operating, picking}

pub returns-clause-text : goal.returns-clause-text
unfolding computes
returns-clause-text c = alike 400 (alone hello) 2 refl

pub returns-clause-no_turn : goal.returns-clause-no_turn
unfolding computes
returns-clause-no_turn c = alike 400 (alone hello) 1 refl

pub returns-clause-repeats : goal.returns-clause-repeats
unfolding computes
returns-clause-repeats c = alike 400 (alone counting) 5 refl

pub returns-clause-turns : goal.returns-clause-turns
unfolding computes
returns-clause-turns c = alike 400 (alone three_times) 4 refl

pub returns-clause-loops : goal.returns-clause-loops
unfolding computes
returns-clause-loops c = alike 400 (alone three_times) 5 refl

pub returns-clause-fault : goal.returns-clause-fault
unfolding computes
returns-clause-fault c = alike 400 (alone on_null) 9 refl

pub returns-clause-operators : goal.returns-clause-operators
unfolding computes
returns-clause-operators c = alike 400 (alone operating) 2 refl

pub returns-clause-subscript : goal.returns-clause-subscript
unfolding computes
returns-clause-subscript c = alike 400 (alone picking) 2 refl

pub returns-clause-matches : goal.returns-clause-matches
unfolding computes
returns-clause-matches c = alike 400 (alone matching) 9 refl
