use Rattle.std.proofs.Common.{List, ℤ, map, ap, ◌∙◌}
use Rattle.gd_model.specs.declared.value.Value.TheVariants.{Int}
use Rattle.container_methods.proofs.Sorted.{ints_sorted}
use Rattle.container_methods.proofs.sorting.sorted_numbers.Goals as goal

pub returns-clause-meant : goal.returns-clause-meant
returns-clause-meant c =
    ints_sorted c.in_ok-all.all.items c.args.numbers.items c.sort_unstable.new.self.items c.sort_unstable.ensures.permutation c.sort_unstable.ensures.sorted
    (c.in_ok-all.ensures ∙ ap (λ (xs : List ℤ). map (λ n. Int n) xs) c.as_slice.ensures.value)
