use Rattle.std.proofs.Common.{codes, rules}
use Rattle.gd_command.proofs.RunWordsLemmas.{is_text}
use Rattle.gd_command.proofs.WordsLemmas.{run_of, run_words}
use Rattle.gd_command.proofs.words.read_run.Goals as goal

pub returns-in-Ok-clause-means : goal.returns-in-Ok-clause-means
returns-in-Ok-clause-means c =
    let parts = run_words c.args.words.now _ _ c.in-len2-up.len_at_least c.run-item.is c.main-item.is in
    let path = c.in-Ok.ensures in
    run_of _ _ _ _ _ _ _ parts (is_text _ (codes "run") (search rules)) c.as_str.ensures.value path.path path.good c.in-Some.ensures
