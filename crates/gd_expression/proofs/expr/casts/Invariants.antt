use Rattle.gd_cursor.specs.Cursor.{left, Keeps}
use Rattle.gd_expression.proofs.expr.casts.Given as goal

abbrev pub invariant-casts : goal.invariant-casts
invariant-casts l = Keeps l.initial.cursor l.cursor

abbrev pub decreases-casts : goal.decreases-casts
decreases-casts l = left l.cursor
