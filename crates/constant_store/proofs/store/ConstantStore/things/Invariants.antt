use Rattle.std.proofs.Common.{◌≡◌, map, take}
use Rattle.constant_store.specs.Fixing.{fixed_thing}
use Rattle.constant_store.proofs.store.ConstantStore.things.Given as goal

abbrev pub invariant-loop-i : goal.invariant-loop-i
invariant-loop-i l = l.all.items ≡ map fixed_thing (take l.i l.things)
