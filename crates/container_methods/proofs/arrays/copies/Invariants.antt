use Rattle.std.proofs.Common.{◌≡◌, replicate}
use Rattle.container_methods.proofs.arrays.copies.Given as goal

abbrev pub invariant-loop : goal.invariant-loop
invariant-loop l = l.all.items ≡ replicate l.counter l.v
