use Rattle.std.proofs.Common.{ℤ, [], ◌∷◌, ◌++◌, SFits, w64, ap, ◌∙◌, rules}
use Rattle.std.proofs.lemmas.Int.{to_z-of_z}
use Rattle.gd_model.specs.declared.value.Value.TheVariants.{Int}
use Rattle.store_semantics.specs.Writes.{is_int}
use Rattle.container_methods.proofs.Listed.{int_value, listed_on, no_int}
use Rattle.container_methods.proofs.Sorted.{fails_at}
use Rattle.container_methods.proofs.sorting.numbers.Goals as goal

pub returns-in-None-clause-none : goal.returns-in-None-clause-none
returns-in-None-clause-none c =
    fails_at is_int c.args.items.now c.loop-item.item-index c.item-item.result c.item-item.is c.loop-item-test.true (no_int c.item-item.result c.in-None.ensures)

pub loop-item-preserved : goal.loop-item-preserved
loop-item-preserved c =
    let fits : SFits w64 c.in-Some.n = search rules in
    listed_on (λ n. Int n) c.args.items.now c.loop-item.item-index c.item-item.result c.loop-item.all.items c.push.new.all.items c.in-Some.n
    c.loop-item-test.true c.item-item.is (int_value c.item-item.result c.in-Some.n c.in-Some.ensures)
    (c.in_ok-push-in-Some.ensures ∙ ap (λ (n : ℤ). c.loop-item.all.items ++ n ∷ []) (to_z-of_z w64 c.in-Some.n fits)) c.loop-item.invariant
