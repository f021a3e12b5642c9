use Rattle.gd_command.proofs.PutsLemmas.{Grows-then}
use Rattle.gd_command.proofs.print_sample.print_project.Goals as goal

pub returns-in_err-print_figure-2-clause-lines : goal.returns-in_err-print_figure-2-clause-lines
returns-in_err-print_figure-2-clause-lines g c = Grows-then _ _ _ c.in_ok-print_figure.ensures.lines c.in_err-print_figure-2.ensures.lines

pub returns-clause-lines : goal.returns-clause-lines
returns-clause-lines g c =
    Grows-then _ _ _ c.in_ok-print_figure.ensures.lines (Grows-then _ _ _ c.in_ok-print_figure-2.ensures.lines c.print_figure-3.ensures.lines)
