use Rattle.std.proofs.Common.{[], ◌∷◌}
use Rattle.gd_command.proofs.PutsLemmas.{Puts-then, Puts-err, AppendsPrefix-more}
use Rattle.gd_command.proofs.print_run.print_text_line.Goals as goal

pub returns-in_err-print_text-clause-puts : goal.returns-in_err-print_text-clause-puts
returns-in_err-print_text-clause-puts g c = Puts-err _ _ _ _ c.from_residual.ensures.0 (AppendsPrefix-more _ _ _ (10 ∷ []) c.in_err-print_text.ensures.puts)

pub returns-clause-puts : goal.returns-clause-puts
returns-clause-puts g c = Puts-then _ _ _ _ (10 ∷ []) _ c.in_ok-print_text.ensures.puts c.put.ensures.puts
