use Rattle.std.proofs.Common.{◌∙◌, List, ap}
use Rattle.gd_members.specs.declared.Item.{Item}
use Rattle.cycle_resolver.specs.Unfold.{Settled}
use Rattle.gd_infer.proofs.ItemLists.{insert-new}
use Rattle.gd_infer.proofs.needs.Progress.add_typed.Goals as goal

pub returns : goal.returns
returns c =
    let make : List Item → Settled = λ all. record { typed = all; given_up = c.args.self.now.given_up.keys } in
    ap make (c.in_ok-insert.ensures.keys ∙ insert-new c.args.self.now.typed.keys c.args.item c.requires.not_typed)
