use Rattle.std.proofs.Common.{codes, rules}
use Rattle.gd_command.proofs.RunWordsLemmas.{frees_alone, is_text}
use Rattle.gd_command.proofs.run_options.only_frees.Goals as goal

pub returns : goal.returns
returns c = frees_alone _ (is_text _ (codes "--frees") (search rules))
