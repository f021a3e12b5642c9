use Rattle.std.proofs.Common.{◌<◌, length, take}
use Rattle.std.specs.List.{All}
use Rattle.cycle_resolver.proofs.tests.is_closed.Given as goal

abbrev pub invariant-loop-row : goal.invariant-loop-row
invariant-loop-row l = All (λ row. All (λ number. number < length l.rows) row.items) (take l.row-index l.rows)
