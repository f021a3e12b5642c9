use Rattle.std.proofs.Common.{◌≡◌, [], ◌∷◌, ◌++◌, true, Bool, eqb, of_z, w64, pos, sym, ap, ◌∙◌, rules}
use Rattle.std.specs.Ordering.{int_eq}
use Rattle.std.proofs.lemmas.Bool.{cond-true}
use Rattle.gd_signals.specs.Connections.{links, may_connect, connected}
use Rattle.gd_signals.proofs.Changes.{links_added}
use Rattle.gd_signals.proofs.connections.Connections.connect.Goals as goal

pub returns-clause-added : goal.returns-clause-added
returns-clause-added c =
    let list = links c.args.self.now c.args.emitter c.args.signal.now in
    let shot : eqb (of_z w64 c.args.flags) 4 ≡ int_eq c.args.flags (pos 4) = search rules in
    let may : may_connect list c.args.to c.args.flags ≡ true = search rules in
    links_added c.args.self.now c.add.new.self c.args.emitter c.args.signal.now _ (λ l. connected l c.args.to c.args.flags) c.in_ok-add.ensures.added c.in_ok-signal.ensures
    (cond-true (may_connect list c.args.to c.args.flags) (list ++ (c.args.to, int_eq c.args.flags (pos 4)) ∷ []) list may
    ∙ ap (λ (b : Bool). list ++ (c.args.to, b) ∷ []) (sym shot))
