use Rattle.gd_command.proofs.RunWordsLemmas.{no_words}
use Rattle.gd_command.proofs.run_options.read_run_options.Goals as goal

pub returns-in-empty : goal.returns-in-empty
returns-in-empty c = no_words _ _ c.in-empty.len_below c.usual.ensures
