use Rattle.std.proofs.Common.{◌≡◌, map, take}
use Rattle.gd_model.specs.declared.value.Value.{Value}
use Rattle.gd_model.specs.Meant.{datum}
use Rattle.constant_store.specs.Fixing.{fixed}
use Rattle.constant_store.proofs.store.ConstantStore.fixed_items.Given as goal

abbrev pub invariant-loop-i : goal.invariant-loop-i
invariant-loop-i l = l.all.items ≡ map (λ (v : Value). fixed (datum v)) (take l.i l.items)
