use Rattle.std.proofs.Common.{List, [], ◌∷◌, ◌++◌, cond, nat_eq, None, Some, sym, ap, ◌∙◌, is_some}
use Rattle.std.specs.HashMap.{get}
use Rattle.gd_signals.specs.Connections.{of_emitter}
use Rattle.gd_signals.specs.declared.connection.Connection.{Connection}
use Rattle.gd_signals.proofs.Changes.{changed, either, on_err}
use Rattle.gd_signals.proofs.connections.Connections.add.Goals as goal

pub returns-in_err-push-clause-refused : goal.returns-in_err-push-clause-refused
returns-in_err-push-clause-refused c =
    let there = sym c.in-Some.ensures.value in
    let updates = ((c.get_mut.follows.holds c.push.new.self).3 (ap is_some there)).0 in
    on_err c.from_residual.result (λ e.
    changed c.self.inside.emitters.entries _ (λ v. v.items) c.args.emitter (Some c.in-Some.all.now) c.push.new.self (λ l. l) there updates c.in_err-push.ensures.items e
    ∙ either (nat_eq c.args.emitter e) _ ∙ ap (λ v. of_emitter v e) c.self.view_is)

pub returns-in-Some-clause-added : goal.returns-in-Some-clause-added
returns-in-Some-clause-added c = λ e.
    let there = sym c.in-Some.ensures.value in
    let updates = ((c.get_mut.follows.holds c.push.new.self).3 (ap is_some there)).0 in
    changed c.self.inside.emitters.entries _ (λ v. v.items) c.args.emitter (Some c.in-Some.all.now) c.push.new.self (λ l. l ++ c.args.connection ∷ []) there updates c.in_ok-push.ensures.items e
    ∙ ap (λ v. cond (nat_eq c.args.emitter e) (of_emitter v e ++ c.args.connection ∷ []) (of_emitter v e)) c.self.view_is

pub returns-clause-added : goal.returns-clause-added
returns-clause-added c = λ e.
    let none = sym c.in_default.ensures.value in
    let first = c.in_ok-push-2.ensures.items ∙ ap (λ (l : List Connection). l ++ c.args.connection ∷ []) c.new-first.ensures.items in
    changed c.self.inside.emitters.entries c.insert.new.self.entries (λ v. v.items) c.args.emitter None c.push-2.new.self (λ l. l ++ c.args.connection ∷ []) none
    (λ q. c.in_ok-insert.ensures.updates.0 q ∙ ap (λ m. cond (nat_eq c.args.emitter q) (Some c.push-2.new.self) (get nat_eq m q)) c.get_mut.follows.holds-at-none)
    first e
    ∙ ap (λ v. cond (nat_eq c.args.emitter e) (of_emitter v e ++ c.args.connection ∷ []) (of_emitter v e)) c.self.view_is
