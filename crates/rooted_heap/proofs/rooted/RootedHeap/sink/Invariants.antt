use Rattle.std.proofs.Common.{◌≡◌}
use Rattle.rooted_heap.specs.Moving.{sunk}
use Rattle.rooted_heap.proofs.rooted.RootedHeap.sink.Given as goal

abbrev pub invariant-steps : goal.invariant-steps
invariant-steps l = l.self ≡ record l.initial.self { values = sunk l.initial.self.values l.j }
