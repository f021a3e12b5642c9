use Rattle.std.proofs.Common.{◌≡◌, drop}
use Rattle.rooted_heap.specs.Keeping.{kept_all, CanKeep}
use Rattle.rooted_heap.proofs.keeping.keep_values.Given as goal

-- the things once the values that are left are counted too; each of them can be
abbrev pub invariant-loop-value : goal.invariant-loop-value
invariant-loop-value l =
    let left = drop l.value-index l.values in
    record {
      rest : kept_all l.heap.things left ≡ kept_all l.fn.heap.things l.values;
      can : CanKeep l.heap.things left;
      round : l.heap.round ≡ l.fn.heap.round;
      made : l.heap.made ≡ l.fn.heap.made;
    }
