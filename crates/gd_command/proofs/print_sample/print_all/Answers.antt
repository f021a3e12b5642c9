use Rattle.gd_command.proofs.PutsLemmas.{Grows-then}
use Rattle.gd_command.proofs.print_sample.print_all.Goals as goal

pub returns-clause-lines : goal.returns-clause-lines
returns-clause-lines g c = Grows-then _ _ _ c.in_ok-print_project.ensures.lines c.print_figures.ensures.lines
