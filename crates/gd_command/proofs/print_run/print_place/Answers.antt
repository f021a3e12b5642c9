use Rattle.std.proofs.Common.{[]}
use Rattle.gd_command.proofs.PutsLemmas.{AppendsPrefix-none}
use Rattle.gd_command.proofs.print_run.print_place.Goals as goal

pub returns-in_default-clause-puts : goal.returns-in_default-clause-puts
returns-in_default-clause-puts g c = ([], AppendsPrefix-none _ _)

pub returns-clause-puts : goal.returns-clause-puts
returns-clause-puts g c = (_, c.print_path_place.ensures.puts)
