use Rattle.gd_cursor.specs.Cursor.{left, Keeps}
use Rattle.gd_expression.proofs.expr.Rules.list.Given as goal

abbrev pub invariant-items : goal.invariant-items
invariant-items g l = Keeps l.initial.cursor l.cursor

abbrev pub decreases-items : goal.decreases-items
decreases-items g l = left l.cursor
