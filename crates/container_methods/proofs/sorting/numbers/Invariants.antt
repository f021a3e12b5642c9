use Rattle.std.proofs.Common.{◌≡◌, map, take}
use Rattle.gd_model.specs.declared.value.Value.TheVariants.{Int}
use Rattle.container_methods.proofs.sorting.numbers.Given as goal

abbrev pub invariant-loop-item : goal.invariant-loop-item
invariant-loop-item l = take l.item-index l.items ≡ map (λ n. Int n) l.all.items
