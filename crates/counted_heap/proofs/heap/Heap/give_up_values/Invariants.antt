use Rattle.std.proofs.Common.{◌≡◌, ◌+◌, length, map, drop}
use Rattle.gd_holding.specs.Handles.{value_handle}
use Rattle.gd_holding.specs.Holding.{filled, CanGiveUp}
use Rattle.gd_holding.specs.Rounds.{given_up}
use Rattle.counted_heap.proofs.heap.Heap.give_up_values.Given as goal

-- the things once what the values that are left hold is given up too; each of it can be
abbrev pub invariant-loop-value : goal.invariant-loop-value
invariant-loop-value g l =
    let left = filled (map value_handle (drop l.value-index l.values)) in
    let all = filled (map value_handle l.values) in
    record {
      rest : given_up l.self.things left ≡ given_up l.fn.self.things all;
      can : CanGiveUp l.self.things left;
      calls : l.steps + length left ≡ l.fn.steps + length all;
      round : l.self.round ≡ l.fn.self.round;
      made : l.self.made ≡ l.fn.self.made;
    }
