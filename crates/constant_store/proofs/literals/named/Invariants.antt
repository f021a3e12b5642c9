use Rattle.std.proofs.Common.{◌≡◌, map, take}
use Rattle.constant_store.specs.Literals.{enum_pair}
use Rattle.constant_store.specs.Things.{value_pair}
use Rattle.constant_store.proofs.literals.named.Given as goal

abbrev pub invariant-loop-i : goal.invariant-loop-i
invariant-loop-i l = map value_pair l.pairs.items ≡ map enum_pair (take l.i l.values)
