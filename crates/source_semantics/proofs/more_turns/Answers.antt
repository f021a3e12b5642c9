use Rattle.source_semantics.proofs.GrownRunning.{more_turns_go_on}
use Rattle.source_semantics.proofs.more_turns.Goals as goal

pub returns : goal.returns
returns c = record { goes_on = more_turns_go_on }
