use Rattle.gd_command.proofs.PutsLemmas.{Appends-then, Puts-err, AppendsPrefix-then, AppendsPrefix-more}
use Rattle.gd_command.proofs.print_run.print_fault_line.Goals as goal

pub returns-in_err-print_place-clause-puts : goal.returns-in_err-print_place-clause-puts
returns-in_err-print_place-clause-puts g c = (
  c.in_err-print_place.ensures.puts.0,
  Puts-err _ _ _ _ c.from_residual.ensures.0 (AppendsPrefix-more _ _ _ _ c.in_err-print_place.ensures.puts.1),
)

pub returns-in_err-print_fault-clause-puts : goal.returns-in_err-print_fault-clause-puts
returns-in_err-print_fault-clause-puts g c = (
  c.in_ok-print_place.ensures.puts.0,
  Puts-err _ _ _ _ c.from_residual-in_err-print_fault.ensures.0
      (AppendsPrefix-then _ _ _ _ _ c.in_ok-print_place.ensures.puts.1 c.in_err-print_fault.ensures.puts),
)

pub returns-clause-puts : goal.returns-clause-puts
returns-clause-puts g c = (c.in_ok-print_place.ensures.puts.0, Appends-then _ _ _ _ _ c.in_ok-print_place.ensures.puts.1 c.in_ok-print_fault.ensures.puts)
