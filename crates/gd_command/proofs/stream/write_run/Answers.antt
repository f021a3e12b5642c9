use Rattle.gd_command.proofs.EndsLemmas.{run_err, run_ended}
use Rattle.gd_command.proofs.stream.write_run.Goals as goal

pub returns-in_err-outcome-clause-writes : goal.returns-in_err-outcome-clause-writes
returns-in_err-outcome-clause-writes g c = run_err _ _ _ c.from_residual.ensures.0 c.in_err-outcome.ensures.lines

pub returns-clause-writes : goal.returns-clause-writes
returns-clause-writes g c = run_ended _ _ _ _ _ c.in_ok-outcome.ensures.lines c.print_end.ensures.writes
