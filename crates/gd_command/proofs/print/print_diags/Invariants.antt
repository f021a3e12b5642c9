use Rattle.std.proofs.Common.{◌≤◌, take}
use Rattle.std.specs.List.{flat_map}
use Rattle.gd_outside.specs.Sink.{Appends}
use Rattle.gd_command.specs.Report.{diag_line}
use Rattle.gd_command.proofs.print.print_diags.Given as goal

abbrev pub invariant-loop-diag : goal.invariant-loop-diag
invariant-loop-diag g l =
    Appends (g.K.Sink.contents l.initial.out) (flat_map (diag_line l.paths) (take l.diag-index l.diags)) (g.K.Sink.contents l.out) × (g.K.Sink.faults l.initial.out ≤ g.K.Sink.faults l.out)
