use Rattle.std.proofs.Common.{◌<◌}
use Rattle.gd_cursor.specs.Cursor.{left}
use Rattle.gd_statement.proofs.stmt.line.Given as goal

abbrev pub invariant-simple : goal.invariant-simple
invariant-simple l = left l.cursor < left l.fn.cursor

abbrev pub decreases-simple : goal.decreases-simple
decreases-simple l = left l.cursor
