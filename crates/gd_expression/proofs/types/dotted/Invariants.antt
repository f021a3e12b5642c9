use Rattle.std.proofs.Common.{◌<◌}
use Rattle.gd_cursor.specs.Cursor.{left}
use Rattle.gd_expression.proofs.types.dotted.Given as goal

abbrev pub invariant-names : goal.invariant-names
invariant-names l = left l.cursor < left l.fn.cursor

abbrev pub decreases-names : goal.decreases-names
decreases-names l = left l.cursor
