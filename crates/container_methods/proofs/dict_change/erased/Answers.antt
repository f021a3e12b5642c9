use Rattle.std.proofs.Common.{ap, ◌∙◌}
use Rattle.std.specs.Option.{option_to_list}
use Rattle.container_methods.proofs.Pairs.{erased_so}
use Rattle.container_methods.proofs.dict_change.erased.Goals as goal

pub returns-in-Ok : goal.returns-in-Ok
returns-in-Ok c =
    (c.in-Ok.ensures.ok, c.left.ensures.answer ∙ erased_so c.args.d.now.pairs c.args.key.now c.in-Ok.pair c.in-Ok.ensures.old, c.left.ensures.gone ∙ ap option_to_list c.in-Ok.ensures.old)
