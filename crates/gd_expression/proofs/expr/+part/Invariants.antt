use Rattle.gd_cursor.specs.Cursor.{left}
use Rattle.gd_expression.proofs.expr.+part.Given as goal

abbrev pub decreases-part : goal.decreases-part
decreases-part l = left l.cursor.now
