use Rattle.std.proofs.Common.{◌≡◌, map, take}
use Rattle.gd_model.specs.declared.value.Value.TheVariants.{Str}
use Rattle.container_methods.proofs.sorting.text_values.Given as goal

abbrev pub invariant-loop-word : goal.invariant-loop-word
invariant-loop-word l = l.all.items ≡ map (λ x. Str x) (take l.word-index l.words)
