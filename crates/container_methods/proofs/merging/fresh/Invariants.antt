use Rattle.std.proofs.Common.{◌≡◌, ◌+◌, ◌≤◌, drop}
use Rattle.container_methods.specs.Dicts.{fresh_count}
use Rattle.container_methods.proofs.merging.fresh.Given as goal

abbrev pub invariant-loop-i : goal.invariant-loop-i
invariant-loop-i l = record {
  few : l.all ≤ l.i;
  count : l.all + fresh_count l.d.pairs (drop l.i l.other.pairs) ≡ fresh_count l.d.pairs l.other.pairs;
}
