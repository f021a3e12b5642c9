use Rattle.std.proofs.Common.{map, take}
use Rattle.std.specs.List.{All, Contains}
use Rattle.cycle_resolver.specs.Table.{item_of}
use Rattle.cycle_resolver.proofs.tests.visit_of_row.Given as goal

abbrev pub invariant-loop-number : goal.invariant-loop-number
invariant-loop-number l = All (Contains l.typed) (map item_of (take l.number-index l.row))
