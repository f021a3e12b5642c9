use Rattle.gd_cursor.specs.Cursor.{left, Keeps}
use Rattle.gd_grammar.proofs.script.script.Given as goal

abbrev pub invariant-lines : goal.invariant-lines
invariant-lines l = Keeps l.initial.cursor l.cursor

abbrev pub decreases-lines : goal.decreases-lines
decreases-lines l = left l.cursor
