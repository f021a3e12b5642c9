use Rattle.std.proofs.Common.{◌<◌}
use Rattle.gd_cursor.specs.Cursor.{left}
use Rattle.gd_statement.proofs.stmt.alternatives.Given as goal

abbrev pub invariant-alternatives : goal.invariant-alternatives
invariant-alternatives l = left l.cursor < left l.fn.cursor

abbrev pub decreases-alternatives : goal.decreases-alternatives
decreases-alternatives l = left l.cursor
