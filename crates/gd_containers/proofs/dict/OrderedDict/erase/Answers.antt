use Rattle.std.proofs.Common.{ap, ◌∙◌}
use Rattle.gd_model.specs.Key.{one_key}
use Rattle.gd_model.specs.View.{DictView, pair_at}
use Rattle.gd_containers.proofs.Items.{entry-from_parts}
use Rattle.gd_containers.proofs.dict.OrderedDict.erase.Goals as goal

pub returns-clause-old : goal.returns-clause-old
returns-clause-old c =
    entry-from_parts (one_key c.args.k.now) _ _ c.shift_remove_entry.ensures.key c.shift_remove_entry.ensures.value ∙ ap (λ (d : DictView). pair_at d.pairs c.args.k.now) c.self.view_is
