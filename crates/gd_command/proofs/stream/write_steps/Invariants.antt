use Rattle.std.proofs.Common.{◌≤◌}
use Rattle.gd_command.specs.Puts.{Grows}
use Rattle.gd_command.proofs.stream.write_steps.Given as goal

abbrev pub invariant-loop : goal.invariant-loop
invariant-loop g l =
    Grows (g.K.Sink.contents l.initial.out) (g.K.Sink.contents l.out) × (g.K.Sink.faults l.initial.out ≤ g.K.Sink.faults l.out)
