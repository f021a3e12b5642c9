use Rattle.std.proofs.Common.{◌≡◌, drop}
use Rattle.rooted_heap.specs.Keeping.{given_all, CanGive}
use Rattle.rooted_heap.proofs.keeping.give_up_values.Given as goal

-- the things once the values that are left are given up too; each of them can be
abbrev pub invariant-loop-value : goal.invariant-loop-value
invariant-loop-value l =
    let left = drop l.value-index l.values in
    record {
      rest : given_all l.heap.things left ≡ given_all l.fn.heap.things l.values;
      can : CanGive l.heap.things left;
      round : l.heap.round ≡ l.fn.heap.round;
      made : l.heap.made ≡ l.fn.heap.made;
    }
