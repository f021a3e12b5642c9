use Rattle.std.proofs.Common.{codes, rules}
use Rattle.gd_command.proofs.RunWordsLemmas.{frees_first, frees_last, is_text}
use Rattle.gd_command.proofs.run_options.both_options.Goals as goal

pub returns-in_ok-turns : goal.returns-in_ok-turns
returns-in_ok-turns c = frees_first _ _ _ _ (is_text _ (codes "--frees") (search rules)) c.in_ok-turns.ensures

pub returns-in_ok-turns-2 : goal.returns-in_ok-turns-2
returns-in_ok-turns-2 c = frees_last _ _ _ _ (is_text _ (codes "--frees") (search rules)) c.in_ok-turns-2.ensures
