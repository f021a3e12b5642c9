use Rattle.gd_command.proofs.PutsLemmas.{AppendsPrefix-none}
use Rattle.gd_command.proofs.print_run.print_text.Goals as goal

pub returns-in-Err-clause-puts : goal.returns-in-Err-clause-puts
returns-in-Err-clause-puts g c = AppendsPrefix-none _ _
