use Rattle.std.proofs.Common.{◌∙◌, List, subst, sym}
use Rattle.gd_members.specs.declared.Item.{Item}
use Rattle.cycle_resolver.specs.Order.{AreDistinct}
use Rattle.gd_infer.proofs.ItemLists.{among}
use Rattle.gd_infer.proofs.inferring.Inferring.settle.Goals as goal

pub order-requires-clause-distinct : goal.order-requires-clause-distinct
order-requires-clause-distinct c =
    let P : List Item → Type 0 = λ all. AreDistinct all in subst P (sym c.deref.ensures.value) c.in_ok-items.ensures.distinct

pub order-requires-clause-among : goal.order-requires-clause-among
order-requires-clause-among c = among c.args.self.now.needs _ (c.deref.ensures.value ∙ c.in_ok-items.ensures.items)
