use Rattle.gd_command.proofs.PutsLemmas.{Puts-grows}
use Rattle.gd_command.proofs.print_sample.print_last.Goals as goal

pub returns-in-Some-clause-lines : goal.returns-in-Some-clause-lines
returns-in-Some-clause-lines g c = Puts-grows _ _ _ _ c.print_text_line.ensures.puts

pub returns-in-None-clause-lines : goal.returns-in-None-clause-lines
returns-in-None-clause-lines g c = Puts-grows _ _ _ _ c.put.ensures.puts
