use Rattle.gd_command.proofs.PutsLemmas.{Puts-err}
use Rattle.gd_command.proofs.print.say.Goals as goal

pub returns-in_err-put-clause-puts : goal.returns-in_err-put-clause-puts
returns-in_err-put-clause-puts g c = Puts-err _ _ _ _ c.from_residual.ensures.0 c.in_err-put.ensures.puts
