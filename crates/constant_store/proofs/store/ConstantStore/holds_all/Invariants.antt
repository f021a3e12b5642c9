use Rattle.std.proofs.Common.{◌≡◌, true, take}
use Rattle.constant_store.specs.Things.{all_held}
use Rattle.constant_store.proofs.store.ConstantStore.holds_all.Given as goal

abbrev pub invariant-loop-i : goal.invariant-loop-i
invariant-loop-i l = all_held l.self (take l.i l.items) ≡ true
