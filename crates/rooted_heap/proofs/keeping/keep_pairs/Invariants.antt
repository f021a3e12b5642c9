use Rattle.std.proofs.Common.{◌≡◌}
use Rattle.gd_model.specs.Whole.{pair_values}
use Rattle.rooted_heap.specs.Keeping.{kept_all, CanKeep}
use Rattle.rooted_heap.proofs.keeping.keep_pairs.Given as goal

-- the things once the pairs that are left are counted too; each of them can be
abbrev pub invariant-loop-key : goal.invariant-loop-key
invariant-loop-key l =
    let left = pair_values l.key-iterator in
    record {
      rest : kept_all l.heap.things left ≡ kept_all l.fn.heap.things (pair_values l.dict.pairs);
      can : CanKeep l.heap.things left;
      round : l.heap.round ≡ l.fn.heap.round;
      made : l.heap.made ≡ l.fn.heap.made;
    }
