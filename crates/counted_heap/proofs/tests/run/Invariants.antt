use Rattle.gd_holding.specs.Holding.{AreCounted}
use Rattle.counted_heap.specs.Thing.{thing_places}
use Rattle.counted_heap.proofs.tests.run.Given as goal

-- the counts are those of things and of the test's list
abbrev pub invariant-loop-act : goal.invariant-loop-act
invariant-loop-act g l = AreCounted thing_places l.heap.things l.hand.items
