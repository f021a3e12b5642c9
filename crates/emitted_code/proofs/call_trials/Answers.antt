use Rattle.std.proofs.Common.{refl}
use Rattle.source_semantics.specs.TrialsOfCalls.{doubling, faulty_target, faulty_value, in_order, overriding, own_setter, setter_through_function, summing}
use Rattle.emitted_code.proofs.Computing.{computes}
use Rattle.emitted_code.proofs.Runs.{alike}
use Rattle.emitted_code.proofs.call_trials.Goals as goal
use Rattle.emitted_code.specs.Trials.{alone}

pub returns-clause-result : goal.returns-clause-result
unfolding computes
returns-clause-result c = alike 400 (alone doubling) 3 refl

pub returns-clause-call_turn : goal.returns-clause-call_turn
unfolding computes
returns-clause-call_turn c = alike 400 (alone doubling) 2 refl

pub returns-clause-defaulted : goal.returns-clause-defaulted
unfolding computes
returns-clause-defaulted c = alike 400 (alone summing) 9 refl

pub returns-clause-receiver : goal.returns-clause-receiver
unfolding computes
returns-clause-receiver c = alike 400 (alone in_order) 9 refl

pub returns-clause-overridden : goal.returns-clause-overridden
unfolding computes
returns-clause-overridden c = alike 400 (alone overriding) 9 refl

pub returns-clause-setter : goal.returns-clause-setter
unfolding computes
returns-clause-setter c = alike 400 (alone own_setter) 3 refl

pub returns-clause-setter_turn : goal.returns-clause-setter_turn
unfolding computes
returns-clause-setter_turn c = alike 400 (alone setter_through_function) 20 refl

pub returns-clause-value : goal.returns-clause-value
unfolding computes
returns-clause-value c = alike 400 (alone faulty_value) 9 refl

pub returns-clause-target : goal.returns-clause-target
unfolding computes
returns-clause-target c = alike 400 (alone faulty_target) 9 refl
