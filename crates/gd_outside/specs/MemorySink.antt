-- What a sink in memory answers, exactly.
use Rattle.std.specs.Prelude.{ℕ, ◌+◌, ◌-◌, ◌<◌, List, ◌++◌, length, take, Result}
use Rattle.std.specs.declared.result.Result.TheVariants.{Ok, Err}
use Rattle.gd_outside.specs.Cause.{next_count}
use Rattle.gd_outside.specs.declared.sink.SinkFault.{SinkFault}
use Rattle.gd_outside.specs.declared.sink.SinkFault.TheVariants.{Failed, NoMemory}

-- a sink in memory: the bytes that it took, how many it takes in all, and how often it failed
pub record SinkState : Type 0 where
  pub bytes : List ℕ
  pub room : ℕ
  pub faults : ℕ

-- the piece would pass the room
abbrev pub Passes : SinkState → List ℕ → Type 0
Passes sink piece = sink.room < length sink.bytes + length piece

-- the sink after a put of the piece with this answer: it took the piece, or what fits of it, or nothing
abbrev pub after_put : SinkState → List ℕ → Result (Unit {0}) SinkFault → SinkState
after_put sink piece (Ok _) = record { bytes = sink.bytes ++ piece; room = sink.room; faults = sink.faults }
after_put sink piece (Err Failed) = record { bytes = sink.bytes ++ take (sink.room - length sink.bytes) piece; room = sink.room; faults = next_count sink.faults }
after_put sink piece (Err NoMemory) = sink
