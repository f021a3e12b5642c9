use Rattle.gd_cursor.specs.Cursor.{left}
use Rattle.gd_grammar.proofs.class.+class_members.Given as goal

abbrev pub decreases-class_members : goal.decreases-class_members
decreases-class_members l = left l.cursor.now
