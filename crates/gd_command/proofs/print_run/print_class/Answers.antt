use Rattle.gd_command.proofs.PutsLemmas.{Puts-grows}
use Rattle.gd_command.proofs.print_run.print_class.Goals as goal

pub returns-in_default-clause-lines : goal.returns-in_default-clause-lines
returns-in_default-clause-lines g c = Puts-grows _ _ _ _ c.put.ensures.puts

pub returns-in-Some-class_name-clause-lines : goal.returns-in-Some-class_name-clause-lines
returns-in-Some-class_name-clause-lines g c = Puts-grows _ _ _ _ c.print_text.ensures.puts
