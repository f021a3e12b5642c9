use Rattle.std.proofs.Common.{take}
use Rattle.std.specs.List.{All}
use Rattle.rooted_heap.specs.Rooted.{CanHold}
use Rattle.rooted_heap.proofs.rooted.RootedHeap.can_hold_all.Given as goal

abbrev pub invariant-loop-value : goal.invariant-loop-value
invariant-loop-value l = All (CanHold l.self) (take l.value-index l.values)
