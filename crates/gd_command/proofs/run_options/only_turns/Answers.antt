use Rattle.gd_command.proofs.RunWordsLemmas.{turns_alone}
use Rattle.gd_command.proofs.run_options.only_turns.Goals as goal

pub returns : goal.returns
returns c = turns_alone _ _ _ c.in_ok-turns.ensures
