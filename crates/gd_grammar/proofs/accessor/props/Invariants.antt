use Rattle.std.proofs.Common.{◌<◌}
use Rattle.gd_cursor.specs.Cursor.{left}
use Rattle.gd_grammar.proofs.accessor.props.Given as goal

abbrev pub invariant-accessors : goal.invariant-accessors
invariant-accessors l = left l.cursor < left l.fn.cursor

abbrev pub decreases-accessors : goal.decreases-accessors
decreases-accessors l = left l.cursor
