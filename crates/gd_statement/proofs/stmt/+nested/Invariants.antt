use Rattle.gd_cursor.specs.Cursor.{left}
use Rattle.gd_statement.proofs.stmt.+nested.Given as goal

abbrev pub decreases-nested : goal.decreases-nested
decreases-nested l = left l.cursor.now
