use Rattle.std.proofs.Common.{◌<◌}
use Rattle.gd_cursor.specs.Cursor.{left}
use Rattle.gd_grammar.proofs.class.enumeration.Given as goal

abbrev pub invariant-values : goal.invariant-values
invariant-values l = left l.cursor < left l.fn.cursor

abbrev pub decreases-values : goal.decreases-values
decreases-values l = left l.cursor
