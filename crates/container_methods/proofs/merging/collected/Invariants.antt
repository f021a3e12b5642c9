use Rattle.std.proofs.Common.{◌≡◌, ◌++◌, drop}
use Rattle.container_methods.specs.Dicts.{written}
use Rattle.container_methods.proofs.merging.collected.Given as goal

abbrev pub invariant-loop-i : goal.invariant-loop-i
invariant-loop-i l = l.all.items ++ written l.over l.d.pairs (drop l.i l.other.pairs) ≡ written l.over l.d.pairs l.other.pairs
