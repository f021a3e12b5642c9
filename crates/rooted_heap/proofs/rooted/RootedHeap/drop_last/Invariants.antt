use Rattle.std.proofs.Common.{◌≡◌, ◌-◌, length, take}
use Rattle.rooted_heap.proofs.rooted.RootedHeap.drop_last.Given as goal

abbrev pub invariant-drops : goal.invariant-drops
invariant-drops l = l.self ≡ record l.initial.self { values = take (length l.initial.self.values - l.counter) l.initial.self.values }
