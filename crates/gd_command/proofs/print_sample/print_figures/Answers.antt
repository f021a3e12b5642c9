use Rattle.gd_command.proofs.PutsLemmas.{AppendsPrefix-grows, Grows-then}
use Rattle.gd_command.proofs.print_sample.print_figures.Goals as goal

pub returns-in_err-print_figure-2-clause-lines : goal.returns-in_err-print_figure-2-clause-lines
returns-in_err-print_figure-2-clause-lines g c = Grows-then _ _ _ c.in_ok-print_figure.ensures.lines c.in_err-print_figure-2.ensures.lines

pub returns-in_err-put-clause-lines : goal.returns-in_err-put-clause-lines
returns-in_err-put-clause-lines g c =
    Grows-then _ _ _ c.in_ok-print_figure.ensures.lines (Grows-then _ _ _ c.in_ok-print_figure-2.ensures.lines
    (AppendsPrefix-grows _ _ _ c.in_err-put.ensures.puts))

pub returns-clause-lines : goal.returns-clause-lines
returns-clause-lines g c =
    Grows-then _ _ _ c.in_ok-print_figure.ensures.lines (Grows-then _ _ _ c.in_ok-print_figure-2.ensures.lines
    (Grows-then _ _ _ (_, c.in_ok-put.ensures.puts) c.print_last.ensures.lines))
