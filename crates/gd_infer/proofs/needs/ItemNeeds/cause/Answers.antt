use Rattle.std.proofs.Common.{◌∙◌, List, [], Option, ap, filter, subst}
use Rattle.std.specs.Option.{option_map_or}
use Rattle.gd_members.specs.declared.Item.{Item}
use Rattle.cycle_resolver.specs.Unfold.{IsCause}
use Rattle.gd_infer.specs.Needs.{is_item, settled_in}
use Rattle.gd_infer.proofs.needs.ItemNeeds.cause.Goals as goal

pub returns-in-Some : goal.returns-in-Some
returns-in-Some c =
    let row_of : Option (List Item) → List Item = λ found. option_map_or (λ row. row) found [] in
    let P : List Item → Type 0 = λ row. IsCause (filter (is_item c.args.self.now) row) (settled_in c.args.progress.now) c.cause_of.result in
    subst P (c.items.ensures ∙ ap row_of c.in-Some.ensures.value) c.cause_of.ensures
