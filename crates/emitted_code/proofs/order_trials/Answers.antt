use Rattle.std.proofs.Common.{refl}
use Rattle.source_semantics.specs.TrialsOfOrder.{changing, disconnecting, no_key, no_step, typed_loop}
use Rattle.emitted_code.proofs.Computing.{computes}
use Rattle.emitted_code.proofs.Runs.{alike}
use Rattle.emitted_code.proofs.order_trials.Goals as goal
use Rattle.emitted_code.specs.Trials.{alone}

pub returns-clause-turn_first : goal.returns-clause-turn_first
unfolding computes
returns-clause-turn_first c = alike 400 (alone typed_loop) 2 refl

pub returns-clause-type_behind : goal.returns-clause-type_behind
unfolding computes
returns-clause-type_behind c = alike 400 (alone typed_loop) 3 refl

pub returns-clause-range : goal.returns-clause-range
unfolding computes
returns-clause-range c = alike 400 (alone no_step) 9 refl

pub returns-clause-key : goal.returns-clause-key
unfolding computes
returns-clause-key c = alike 400 (alone no_key) 9 refl

pub returns-clause-emission : goal.returns-clause-emission
unfolding computes
returns-clause-emission c = alike 400 (alone disconnecting) 9 refl

pub returns-clause-guard : goal.returns-clause-guard
unfolding computes
returns-clause-guard c = alike 400 (alone changing) 9 refl
