use Rattle.std.proofs.Common.{List, subst, sym}
use Rattle.gd_members.specs.declared.Item.{Item}
use Rattle.cycle_resolver.specs.Order.{AreDistinct}
use Rattle.gd_infer.proofs.ItemLists.{distinct-times}
use Rattle.gd_infer.proofs.needs.ItemNeeds.all.Goals as goal

pub returns-clause-distinct : goal.returns-clause-distinct
returns-clause-distinct c = let P : List Item → Type 0 = λ all. AreDistinct all in subst P (sym c.as_slice.ensures.keys) (distinct-times c.args.self.now.items.keys c.as_slice.ensures.unique)
