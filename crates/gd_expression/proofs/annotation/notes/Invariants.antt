use Rattle.gd_cursor.specs.Cursor.{left, Keeps}
use Rattle.gd_expression.proofs.annotation.notes.Given as goal

abbrev pub invariant-notes : goal.invariant-notes
invariant-notes l = Keeps l.initial.cursor l.cursor

abbrev pub decreases-notes : goal.decreases-notes
decreases-notes l = left l.cursor
