use Rattle.std.proofs.Common.{rules}
use Rattle.gd_outside.specs.declared.sink.SinkFault.{SinkFault}
use Rattle.gd_command.proofs.EndsLemmas.{ended_done, ended_turns, ended_fault}
use Rattle.gd_command.proofs.print_run.print_end.Goals as goal

pub returns-in-Done-clause-writes : goal.returns-in-Done-clause-writes
returns-in-Done-clause-writes g c = ended_done SinkFault _ _ (search rules)

pub returns-in-OutOfTurns-clause-writes : goal.returns-in-OutOfTurns-clause-writes
returns-in-OutOfTurns-clause-writes g c = ended_turns _ _ _ _ (search rules) c.say.ensures.puts c.say.ensures.status

pub returns-in-Fault-clause-writes : goal.returns-in-Fault-clause-writes
returns-in-Fault-clause-writes g c =
    ended_fault _ _ _ c.in-Fault.fault c.in-Fault.pos c.in-Fault.message _ (search rules) c.print_fault_line.ensures.puts c.print_fault_line.ensures.status
