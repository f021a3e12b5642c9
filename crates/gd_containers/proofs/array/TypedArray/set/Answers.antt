use Rattle.std.proofs.Common.{ap, ◌∙◌, rules}
use Rattle.gd_model.specs.View.{ArrayView}
use Rattle.gd_containers.proofs.Items.{item_at-read}
use Rattle.gd_containers.proofs.array.TypedArray.set.Goals as goal

pub returns-clause-old : goal.returns-clause-old
returns-clause-old c =
    item_at-read _ _ c.args.at c.len.result c.in-Some.i _ c.ranges.at (ap (λ (a : ArrayView). a.items) c.self.view_is) c.in-Some.ensures.value (c.len.ensures ∙ c.self.inside.items.ok.0) c.in-Some.ensures.within (search rules)
