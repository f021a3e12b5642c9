use Rattle.std.proofs.Common.{ap, ◌∙◌}
use Rattle.gd_signals.specs.Connections.{is_linked, links_of}
use Rattle.gd_signals.proofs.Changes.{any_linked}
use Rattle.gd_signals.proofs.connections.Connections.is_connected.Goals as goal

pub returns : goal.returns
returns c =
    c.contains_between.ensures
    ∙ any_linked c.args.signal.now c.args.to.now c.of.result.now
    ∙ ap (λ l. is_linked c.args.to.now (links_of c.args.signal.now l)) c.of.ensures
