use Rattle.std.proofs.Common.{◌≡◌, map, take}
use Rattle.rooted_heap.specs.Writing.{plain_part}
use Rattle.rooted_heap.proofs.changing.plain_parts.Given as goal

abbrev pub invariant-loop-value : goal.invariant-loop-value
invariant-loop-value l = l.all.items ≡ map plain_part (take l.value-index l.values)
