use Rattle.std.proofs.Common.{◌<◌}
use Rattle.gd_cursor.specs.Cursor.{left}
use Rattle.gd_statement.proofs.stmt.Rules.statements.Given as goal

abbrev pub invariant-statements : goal.invariant-statements
invariant-statements g l = left l.cursor < left l.fn.cursor

abbrev pub decreases-statements : goal.decreases-statements
decreases-statements g l = left l.cursor
