use Rattle.std.proofs.Common.{◌≡◌, map, take}
use Rattle.gd_model.specs.declared.value.Value.TheVariants.{Str}
use Rattle.container_methods.proofs.sorting.words.Given as goal

abbrev pub invariant-loop-item : goal.invariant-loop-item
invariant-loop-item l = take l.item-index l.items ≡ map (λ t. Str t) l.all.items
