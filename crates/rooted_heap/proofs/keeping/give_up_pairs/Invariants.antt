use Rattle.std.proofs.Common.{◌≡◌, drop}
use Rattle.gd_model.specs.Whole.{pair_values}
use Rattle.rooted_heap.specs.Keeping.{given_all, CanGive}
use Rattle.rooted_heap.proofs.keeping.give_up_pairs.Given as goal

-- the things once the pairs that are left are given up too; each of them can be
abbrev pub invariant-loop-key : goal.invariant-loop-key
invariant-loop-key l =
    let left = pair_values (drop l.key-index l.pairs) in
    record {
      rest : given_all l.heap.things left ≡ given_all l.fn.heap.things (pair_values l.pairs);
      can : CanGive l.heap.things left;
      round : l.heap.round ≡ l.fn.heap.round;
      made : l.heap.made ≡ l.fn.heap.made;
    }
