use Rattle.std.proofs.Common.{refl}
use Rattle.source_semantics.specs.TrialsOfObjects.{breaking, chain, dictionary, freed_target, read_only, ring, signals, static_object, statics}
use Rattle.source_semantics.specs.TrialsOfHolding.{static_call}
use Rattle.emitted_code.proofs.Computing.{computes}
use Rattle.emitted_code.proofs.Runs.{alike}
use Rattle.emitted_code.proofs.object_trials.Goals as goal
use Rattle.emitted_code.specs.Trials.{alone}

pub returns-clause-freed : goal.returns-clause-freed
unfolding computes
returns-clause-freed c = alike 400 (alone freed_target) 9 refl

pub returns-clause-read_only : goal.returns-clause-read_only
unfolding computes
returns-clause-read_only c = alike 400 (alone read_only) 9 refl

pub returns-clause-signals : goal.returns-clause-signals
unfolding computes
returns-clause-signals c = alike 400 (alone signals) 9 refl

pub returns-clause-static_call : goal.returns-clause-static_call
unfolding computes
returns-clause-static_call c = alike 400 (alone static_call) 9 refl

pub returns-clause-rounds : goal.returns-clause-rounds
unfolding computes
returns-clause-rounds c = alike 400 (alone chain) 9 refl

pub returns-clause-ring : goal.returns-clause-ring
unfolding computes
returns-clause-ring c = alike 400 (alone ring) 9 refl

pub returns-clause-leaves : goal.returns-clause-leaves
unfolding computes
returns-clause-leaves c = alike 400 (alone breaking) 9 refl

pub returns-clause-statics : goal.returns-clause-statics
unfolding computes
returns-clause-statics c = alike 400 (alone statics) 3 refl

pub returns-clause-static_turn : goal.returns-clause-static_turn
unfolding computes
returns-clause-static_turn c = alike 400 (alone statics) 2 refl

pub returns-clause-static_object : goal.returns-clause-static_object
unfolding computes
returns-clause-static_object c = alike 400 (alone static_object) 9 refl

pub returns-clause-dictionary : goal.returns-clause-dictionary
unfolding computes
returns-clause-dictionary c = alike 400 (alone dictionary) 9 refl
