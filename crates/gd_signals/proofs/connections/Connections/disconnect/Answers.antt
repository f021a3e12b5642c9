use Rattle.std.proofs.Common.{[], map, option_map, refl, not, Some, is_some, sym, ap, ◌∙◌}
use Rattle.std.specs.Prelude.{filter, unwrap_or}
use Rattle.gd_signals.specs.Connections.{is_between, of_emitter, links, without, changed_at}
use Rattle.gd_signals.proofs.Changes.{changed, links_dropped, unlinked, seen}
use Rattle.gd_signals.proofs.connections.Connections.disconnect.Goals as goal
use Rattle.gd_signals.proofs.connections.Connections.disconnect.Goals.{in-Some, in_default}

pub returns-clause-removed : goal.returns-clause-removed
returns-clause-removed c = λ e s.
    elim c.match-get_mut.branch [
      | in-Some w ↦
          let there = sym w.in-Some.ensures.value in
          let updates = ((c.get_mut.follows.holds w.remove_between.new.all).3 (ap is_some there)).0 in
          rw w.self-inside-is
          (links_dropped _ _ c.args.emitter c.args.signal.now c.args.to.now
          (changed c.self.inside.emitters.entries (c.get_mut.follows.lender w.remove_between.new.all).entries (λ v. v.items) c.args.emitter (Some w.in-Some.all.now) w.remove_between.new.all (filter (λ x. not (is_between c.args.signal.now c.args.to.now x))) there updates w.remove_between.ensures)
          e s
          ∙ ap (λ v. changed_at c.args.emitter c.args.signal.now (without c.args.to.now) v e s) c.self.view_is)
      | in_default w ↦
          rw w.self-inside-is
          (ap (λ m. links (map (λ p. (p.0, p.1.items)) m.entries) e s) c.get_mut.follows.holds-at-none
          ∙ ap (λ v. links v e s) c.self.view_is
          ∙ unlinked c.args.self.now c.args.emitter c.args.signal.now (without c.args.to.now) refl
          (ap (λ v. of_emitter v c.args.emitter) (sym c.self.view_is)
          ∙ seen c.self.inside.emitters.entries (λ v. v.items) c.args.emitter
          ∙ ap (λ o. unwrap_or (option_map (λ v. v.items) o) []) (sym w.in_default.ensures.value))
          e s)
    ]
