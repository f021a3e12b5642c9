use Rattle.std.proofs.Common.{◌+◌, ◌*◌}
use Rattle.gd_cursor.specs.Cursor.{left}
use Rattle.gd_expression.proofs.types.+types.Given as goal

abbrev pub decreases-elements : goal.decreases-elements
decreases-elements l = 2 * left l.cursor.now + 1

abbrev pub decreases-type_name : goal.decreases-type_name
decreases-type_name l = 2 * left l.cursor.now
