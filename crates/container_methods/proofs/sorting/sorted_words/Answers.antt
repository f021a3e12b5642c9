use Rattle.std.proofs.Common.{List, ℕ, map, ap, ◌∙◌}
use Rattle.gd_model.specs.declared.value.Value.TheVariants.{Str}
use Rattle.container_methods.proofs.Sorted.{texts_sorted}
use Rattle.container_methods.proofs.sorting.sorted_words.Goals as goal

pub returns-clause-meant : goal.returns-clause-meant
returns-clause-meant c =
    texts_sorted c.in_ok-all.all.items c.args.words.items c.sort_unstable.new.self.items c.sort_unstable.ensures.permutation c.sort_unstable.ensures.sorted
    (c.in_ok-all.ensures ∙ ap (λ (xs : List (List ℕ)). map (λ t. Str t) xs) c.as_slice.ensures.value)
