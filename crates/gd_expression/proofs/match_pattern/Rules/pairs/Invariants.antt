use Rattle.gd_cursor.specs.Cursor.{left, Keeps}
use Rattle.gd_expression.proofs.match_pattern.Rules.pairs.Given as goal

abbrev pub invariant-pairs : goal.invariant-pairs
invariant-pairs g l = Keeps l.initial.cursor l.cursor

abbrev pub decreases-pairs : goal.decreases-pairs
decreases-pairs g l = left l.cursor
