use Rattle.std.proofs.Common.{List, subst, sym}
use Rattle.gd_members.specs.declared.Item.{Item}
use Rattle.cycle_resolver.specs.Order.{AreDistinct}
use Rattle.gd_infer.proofs.needs.ItemNeeds.items.Goals as goal

pub returns-clause-distinct : goal.returns-clause-distinct
returns-clause-distinct c = let P : List Item → Type 0 = λ all. AreDistinct all in subst P (sym c.in_ok-from_slice.ensures.items) c.all-all.ensures.distinct
