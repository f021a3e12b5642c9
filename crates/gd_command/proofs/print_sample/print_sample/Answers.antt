use Rattle.gd_command.proofs.PutsLemmas.{Grows-none}
use Rattle.gd_command.proofs.print_sample.print_sample.Goals as goal

pub returns-in_default-clause-writes : goal.returns-in_default-clause-writes
returns-in_default-clause-writes g c = Grows-none _
