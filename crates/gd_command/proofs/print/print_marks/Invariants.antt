use Rattle.std.proofs.Common.{◌≤◌, take}
use Rattle.std.specs.List.{flat_map}
use Rattle.gd_outside.specs.Sink.{Appends}
use Rattle.gd_command.specs.Report.{mark_line}
use Rattle.gd_command.proofs.print.print_marks.Given as goal

abbrev pub invariant-loop-mark : goal.invariant-loop-mark
invariant-loop-mark g l =
    Appends (g.K.Sink.contents l.initial.out) (flat_map (mark_line l.paths) (take l.mark-index l.marks)) (g.K.Sink.contents l.out) × (g.K.Sink.faults l.initial.out ≤ g.K.Sink.faults l.out)
