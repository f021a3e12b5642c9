use Rattle.std.proofs.Common.{◌≡◌, ◌+◌, ◌≤◌, length, take}
use Rattle.rooted_heap.specs.Pairs.{Grows}
use Rattle.rooted_heap.proofs.rooted.RootedHeap.put_pairs.Given as goal

-- the values that were there stand first, and there is room for those of the pairs that are left
abbrev pub invariant-puts : goal.invariant-puts
invariant-puts l = record {
  more : length l.initial.self.values ≤ length l.self.values;
  first : take (length l.initial.self.values) l.self.values ≡ l.initial.self.values;
  grows : Grows l.initial.self l.self;
  room : length l.self.values + length l.pairs.items ≤ l.self.slots;
}

abbrev pub decreases-puts : goal.decreases-puts
decreases-puts l = length l.pairs.items
