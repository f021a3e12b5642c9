use Rattle.std.proofs.Common.{◌<◌}
use Rattle.gd_cursor.specs.Cursor.{left}
use Rattle.gd_grammar.proofs.accessor.listed.Given as goal

abbrev pub invariant-lines : goal.invariant-lines
invariant-lines l = left l.cursor < left l.fn.cursor

abbrev pub decreases-lines : goal.decreases-lines
decreases-lines l = left l.cursor
