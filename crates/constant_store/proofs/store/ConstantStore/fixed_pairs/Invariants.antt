use Rattle.std.proofs.Common.{◌≡◌, map, take}
use Rattle.constant_store.specs.Fixing.{fixed_pair}
use Rattle.constant_store.proofs.store.ConstantStore.fixed_pairs.Given as goal

abbrev pub invariant-loop-i : goal.invariant-loop-i
invariant-loop-i l = l.all.items ≡ map fixed_pair (take l.i l.dict.pairs)
