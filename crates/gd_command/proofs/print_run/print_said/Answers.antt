use Rattle.std.proofs.Common.{codes}
use Rattle.gd_command.proofs.PutsLemmas.{Puts-then, Puts-err, AppendsPrefix-more}
use Rattle.gd_command.proofs.print_run.print_said.Goals as goal

pub returns-in_err-put-clause-puts : goal.returns-in_err-put-clause-puts
returns-in_err-put-clause-puts g c = Puts-err _ _ _ _ c.from_residual.ensures.0 (AppendsPrefix-more _ _ (codes ": ") _ c.in_err-put.ensures.puts)

pub returns-clause-puts : goal.returns-clause-puts
returns-clause-puts g c = Puts-then _ _ _ (codes ": ") _ _ c.in_ok-put.ensures.puts c.print_text_line.ensures.puts
