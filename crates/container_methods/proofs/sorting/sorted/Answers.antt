use Rattle.std.proofs.Common.{◌≡◌, map, sym, ◌∙◌}
use Rattle.gd_model.specs.declared.value.Value.TheVariants.{Int, Str}
use Rattle.container_methods.proofs.Sorted.{found_so, ints_meant, texts_meant}
use Rattle.container_methods.proofs.sorting.sorted.Goals as goal

pub returns-in-Some-clause-meant : goal.returns-in-Some-clause-meant
returns-in-Some-clause-meant c =
    let found = found_so c.in_ok-found.field-0 c.in-Some.found (λ ns. c.items.result.now ≡ map (λ n. Int n) ns.items) c.in-Some.is c.in_ok-found.ensures.some in
    ints_meant c.args.a.now.items c.in_ok-sorted_numbers.field-0.items c.in-Some.found.items (sym c.items.ensures ∙ found) c.in_ok-sorted_numbers.ensures.meant

pub returns-in-Some-2-clause-meant : goal.returns-in-Some-2-clause-meant
returns-in-Some-2-clause-meant c =
    let found = found_so c.in_ok-found-2.field-0 c.in-Some-2.found (λ ts. c.items-2.result.now ≡ map (λ t. Str t) ts.items) c.in-Some-2.is c.in_ok-found-2.ensures.some in
    texts_meant c.args.a.now.items c.in_ok-sorted_words.field-0.items c.in-Some-2.found.items (sym c.items-2.ensures ∙ found) c.in_ok-sorted_words.ensures.meant
