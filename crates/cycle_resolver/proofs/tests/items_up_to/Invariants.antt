use Rattle.std.proofs.Common.{◌≡◌}
use Rattle.cycle_resolver.specs.Table.{items_to}
use Rattle.cycle_resolver.proofs.tests.items_up_to.Given as goal

abbrev pub invariant-loop-number : goal.invariant-loop-number
invariant-loop-number l = l.items.items ≡ items_to l.number
