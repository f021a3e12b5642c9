use Rattle.std.proofs.Common.{◌≡◌, ◌+◌, length}
use Rattle.gd_holding.specs.Handles.{pair_places}
use Rattle.gd_holding.specs.Holding.{filled, CanGiveUp}
use Rattle.gd_holding.specs.Rounds.{given_up}
use Rattle.counted_heap.proofs.heap.Heap.give_up_pairs.Given as goal

-- the things once what the pairs that are left hold is given up too; each of it can be
abbrev pub invariant-loop-key : goal.invariant-loop-key
invariant-loop-key g l =
    let left = filled (pair_places l.key-iterator) in
    let all = filled (pair_places l.dict.pairs) in
    record {
      rest : given_up l.self.things left ≡ given_up l.fn.self.things all;
      can : CanGiveUp l.self.things left;
      calls : l.steps + length left ≡ l.fn.steps + length all;
      round : l.self.round ≡ l.fn.self.round;
      made : l.self.made ≡ l.fn.self.made;
    }
