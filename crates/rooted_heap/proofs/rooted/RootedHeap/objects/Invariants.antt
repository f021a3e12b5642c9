use Rattle.std.proofs.Common.{◌≡◌, take, filter_map}
use Rattle.rooted_heap.specs.Reading.{object_at}
use Rattle.rooted_heap.proofs.rooted.RootedHeap.objects.Given as goal

abbrev pub invariant-loop-h : goal.invariant-loop-h
invariant-loop-h l = l.all.items ≡ filter_map (object_at l.self.things) (take l.h-index l.h-items)
