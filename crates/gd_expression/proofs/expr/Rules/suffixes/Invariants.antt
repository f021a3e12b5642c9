use Rattle.std.proofs.Common.{◌≤◌}
use Rattle.gd_cursor.specs.Cursor.{left}
use Rattle.gd_expression.proofs.expr.Rules.suffixes.Given as goal

abbrev pub invariant-steps : goal.invariant-steps
invariant-steps g l = left l.cursor ≤ left l.fn.cursor

abbrev pub decreases-steps : goal.decreases-steps
decreases-steps g l = left l.cursor
