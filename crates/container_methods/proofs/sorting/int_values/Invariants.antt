use Rattle.std.proofs.Common.{◌≡◌, map, take}
use Rattle.gd_model.specs.declared.value.Value.TheVariants.{Int}
use Rattle.container_methods.proofs.sorting.int_values.Given as goal

abbrev pub invariant-loop-n : goal.invariant-loop-n
invariant-loop-n l = l.all.items ≡ map (λ x. Int x) (take l.n-index l.numbers)
