use Rattle.gd_command.proofs.PutsLemmas.{Puts-grows}
use Rattle.gd_command.proofs.print_run.print_step.Goals as goal

pub returns-in-Line-clause-lines : goal.returns-in-Line-clause-lines
returns-in-Line-clause-lines g c = Puts-grows _ _ _ _ c.print_text_line.ensures.puts
