use Rattle.std.proofs.Common.{[], option_map, sym, ap, ◌∙◌}
use Rattle.std.specs.Prelude.{unwrap_or}
use Rattle.gd_signals.specs.Connections.{of_emitter}
use Rattle.gd_signals.proofs.Changes.{seen}
use Rattle.gd_signals.proofs.connections.Connections.of.Goals as goal

pub returns-in-Some : goal.returns-in-Some
returns-in-Some c =
    c.as_slice.ensures.value
    ∙ sym (seen c.self.inside.emitters.entries (λ v. v.items) c.args.emitter ∙ ap (λ o. unwrap_or (option_map (λ v. v.items) o) []) (sym c.in-Some.ensures.value))
    ∙ ap (λ v. of_emitter v c.args.emitter) c.self.view_is

pub returns-in-None : goal.returns-in-None
returns-in-None c =
    sym (seen c.self.inside.emitters.entries (λ v. v.items) c.args.emitter ∙ ap (λ o. unwrap_or (option_map (λ v. v.items) o) []) (sym c.in-None.ensures.value))
    ∙ ap (λ v. of_emitter v c.args.emitter) c.self.view_is
