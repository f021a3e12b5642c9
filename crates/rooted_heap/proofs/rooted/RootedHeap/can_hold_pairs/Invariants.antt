use Rattle.std.specs.List.{All}
use Rattle.gd_model.specs.Whole.{pair_values}
use Rattle.rooted_heap.specs.Rooted.{CanHold}
use Rattle.rooted_heap.proofs.rooted.RootedHeap.can_hold_pairs.Given as goal

-- where what is left may be held, all may be
abbrev pub invariant-loop-key : goal.invariant-loop-key
invariant-loop-key l = All (CanHold l.self) (pair_values l.key-iterator) → All (CanHold l.self) (pair_values l.dict.pairs)
