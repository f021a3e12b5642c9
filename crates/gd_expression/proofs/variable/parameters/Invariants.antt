use Rattle.gd_cursor.specs.Cursor.{left, Keeps}
use Rattle.gd_expression.proofs.variable.parameters.Given as goal

abbrev pub invariant-parameters : goal.invariant-parameters
invariant-parameters l = Keeps l.initial.cursor l.cursor

abbrev pub decreases-parameters : goal.decreases-parameters
decreases-parameters l = left l.cursor
