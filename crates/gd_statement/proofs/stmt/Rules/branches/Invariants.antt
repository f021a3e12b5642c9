use Rattle.std.proofs.Common.{◌<◌}
use Rattle.gd_cursor.specs.Cursor.{left}
use Rattle.gd_statement.proofs.stmt.Rules.branches.Given as goal

abbrev pub invariant-branches : goal.invariant-branches
invariant-branches g l = left l.cursor < left l.fn.cursor

abbrev pub decreases-branches : goal.decreases-branches
decreases-branches g l = left l.cursor
