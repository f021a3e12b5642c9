use Rattle.gd_command.proofs.PutsLemmas.{Grows-then}
use Rattle.gd_command.proofs.print_run.print_object.Goals as goal

pub returns-clause-lines : goal.returns-clause-lines
returns-clause-lines g c = Grows-then _ _ _ c.in_ok-print_class.ensures.lines c.print_serial.ensures.lines
