use Rattle.std.proofs.Common.{◌≡◌, true, take}
use Rattle.constant_store.specs.Things.{all_pairs_held}
use Rattle.constant_store.proofs.store.ConstantStore.holds_pairs.Given as goal

abbrev pub invariant-loop-i : goal.invariant-loop-i
invariant-loop-i l = all_pairs_held l.self (take l.i l.pairs) ≡ true
