use Rattle.std.proofs.Common.{◌≡◌}
use Rattle.assignability.specs.Assign.{is_among}
use Rattle.script_table.specs.Seen.{line_of}
use Rattle.script_table.proofs.table.is_on_line.Given as goal

abbrev pub invariant-walk : goal.invariant-walk
invariant-walk l = is_among (line_of l.bases l.at) l.base ≡ is_among (line_of l.bases l.fn.class) l.base

abbrev pub decreases-walk : goal.decreases-walk
decreases-walk l = l.at
