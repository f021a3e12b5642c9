use Rattle.std.proofs.Common.{◌≤◌}
use Rattle.gd_cursor.specs.Cursor.{left}
use Rattle.gd_expression.proofs.expr.Rules.operations.Given as goal

abbrev pub invariant-operators : goal.invariant-operators
invariant-operators g l = left l.cursor ≤ left l.fn.cursor

abbrev pub decreases-operators : goal.decreases-operators
decreases-operators g l = left l.cursor
