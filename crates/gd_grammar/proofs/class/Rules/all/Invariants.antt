use Rattle.gd_cursor.specs.Cursor.{left, Keeps}
use Rattle.gd_grammar.proofs.class.Rules.all.Given as goal

abbrev pub invariant-members : goal.invariant-members
invariant-members g l = Keeps l.initial.cursor l.cursor

abbrev pub decreases-members : goal.decreases-members
decreases-members g l = left l.cursor
