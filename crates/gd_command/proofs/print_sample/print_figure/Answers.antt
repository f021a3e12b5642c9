use Rattle.gd_command.proofs.PutsLemmas.{AppendsPrefix-grows, Grows-then, Puts-grows}
use Rattle.gd_command.proofs.print_sample.print_figure.Goals as goal

pub returns-in_err-put-clause-lines : goal.returns-in_err-put-clause-lines
returns-in_err-put-clause-lines g c = AppendsPrefix-grows _ _ _ c.in_err-put.ensures.puts

pub returns-clause-lines : goal.returns-clause-lines
returns-clause-lines g c = Grows-then _ _ _ (_, c.in_ok-put.ensures.puts) (Puts-grows _ _ _ _ c.print_line.ensures.puts)
