use Rattle.gd_infer.proofs.ItemLists.{found-item}
use Rattle.gd_infer.proofs.needs.Progress.is_given_up.Goals as goal

pub returns : goal.returns
returns c = found-item c.args.self.now.given_up.keys c.args.item c.contains.result c.contains.ensures
