use Rattle.std.proofs.Common.{[], cond, nat_eq, None, ap, ◌∙◌}
use Rattle.gd_signals.specs.Connections.{links_of, links}
use Rattle.gd_signals.proofs.Changes.{written, through}
use Rattle.gd_signals.proofs.connections.Connections.forget.Goals as goal

pub returns : goal.returns
returns c = λ e s.
    ap (links_of s) (written c.self.inside.emitters.entries c.swap_remove.new.self.entries (λ v. v.items) c.args.emitter None c.swap_remove.ensures.updates.0 e)
    ∙ through (links_of s) (nat_eq c.args.emitter e) [] _
    ∙ ap (λ v. cond (nat_eq c.args.emitter e) [] (links v e s)) c.self.view_is
