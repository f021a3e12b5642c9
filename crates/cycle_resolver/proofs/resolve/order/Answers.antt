use Rattle.std.proofs.Common.{◌∙◌, ◌+◌, ◌-◌, take, refl, sym, ap, subst, arith}
use Rattle.std.specs.Prelude.{slice_index_or}
use Rattle.std.specs.List.{list_any}
use Rattle.std.proofs.lemmas.List.{append-nil}
use Rattle.gd_members.specs.declared.Item.{Item}
use Rattle.cycle_resolver.specs.declared.walk.Walk.{Walk}
use Rattle.cycle_resolver.specs.Order.{same_item}
use Rattle.cycle_resolver.proofs.Visits.{has-not, has-unless, meets-by, on_false}
use Rattle.cycle_resolver.proofs.Walking.{IsUnderWay, begins, ends-at, popped, same-way, starts-new, starts-none, top-open, under-step}
use Rattle.cycle_resolver.proofs.resolve.order.Goals as goal
use Rattle.cycle_resolver.proofs.resolve.order.Goals.{then-branch+in_ok-push, else-branch}

pub loop-item-init : goal.loop-item-init
loop-item-init g c =
    let w = c.new-walk.ensures in
    (record { fixed = refl; walks = begins c.new-walk.result w.path w.sequence w.cyclic w.met; met = λ k d inside. absurd (omega arith) }, w.path)

pub loop-top-init : goal.loop-top-init
loop-top-init g c =
    let first : Item = record { member = record { class = 0; index = 0 }; value = 0 } in
    let item : Item = slice_index_or c.args.items.now c.loop-item.item-index first in
    let P : Walk → Type 0 = λ v. IsUnderWay (g.U.Unfold.needs c.args.visitor.now) (g.U.Unfold.needs c.loop-item.visitor) c.args.items.now (g.U.Unfold.settled c.args.visitor.now) (g.U.Unfold.settled c.loop-item.visitor) v (c.loop-item.item-index + 1) in
    elim c.if-branch.branch [
      | then-branch+in_ok-push w ↦
          let unmet = has-not _ _ c.in_ok-insert.ensures.added w.if-branch.true in
          subst P (sym w.walk-is) (starts-new c.loop-item.item-index first item c.loop-item.walk _ c.loop-item.invariant.0 c.loop-item.invariant.1 unmet
          (meets-by item c.loop-item.walk (record { met = c.insert.new.self; path = w.push.new.self; sequence = c.loop-item.walk.sequence; cyclic = c.loop-item.walk.cyclic }) (λ x. c.in_ok-insert.ensures.updates.0 x)) w.in_ok-push.ensures.items refl refl c.loop-item-test.true refl)
      | else-branch w ↦
          let is_met = has-unless _ _ c.in_ok-insert.ensures.added w.if-branch.false in
          let same = on_false _ w.if-branch.false c.in_ok-insert.ensures.unchanged in
          subst P (sym w.walk-is) (starts-none c.loop-item.item-index first item c.loop-item.walk _ c.loop-item.invariant.0 is_met
          (λ x. ap (list_any (same_item x)) same) refl refl refl c.loop-item-test.true refl)
    ]

pub step-requires : goal.step-requires
step-requires g c = (top-open c.pop.new.self.items c.in-Some.top (record { distinct = c.requires.distinct; opened = c.requires.open; among = c.requires.among }) (popped _ _ c.in-Some.ensures.items c.loop-top.invariant.walks)).0

pub loop-top-smaller : goal.loop-top-smaller
loop-top-smaller g c = (under-step _ c.loop-top.walk (record { met = c.loop-top.walk.met; path = c.pop.new.self; sequence = c.loop-top.walk.sequence; cyclic = c.loop-top.walk.cyclic }) c.step.new.self c.in-Some.top
    (record { distinct = c.requires.distinct; opened = c.requires.open; among = c.requires.among }) c.loop-top.invariant c.in-Some.ensures.items refl refl (λ x. refl) c.in_ok-step.ensures.needs c.in_ok-step.ensures.steps).1

pub loop-top-preserved : goal.loop-top-preserved
loop-top-preserved g c = (under-step _ c.loop-top.walk (record { met = c.loop-top.walk.met; path = c.pop.new.self; sequence = c.loop-top.walk.sequence; cyclic = c.loop-top.walk.cyclic }) c.step.new.self c.in-Some.top
    (record { distinct = c.requires.distinct; opened = c.requires.open; among = c.requires.among }) c.loop-top.invariant c.in-Some.ensures.items refl refl (λ x. refl) c.in_ok-step.ensures.needs c.in_ok-step.ensures.steps).0

pub loop-item-preserved : goal.loop-item-preserved
loop-item-preserved g c =
    let shorter = sym (append-nil c.pop.new.self.items) ∙ sym c.in_default.ensures.items in
    (same-way c.loop-top.walk _ c.loop-top.invariant (λ x. refl) shorter refl refl, c.in_default.ensures.rest ∙ ap (λ n. take (n - 1) c.loop-top.walk.path.items) c.in_default.ensures.cases.0)

pub returns-clause-order : goal.returns-clause-order
returns-clause-order g c =
    ends-at c.loop-item.walk _ (record { distinct = c.requires.distinct; opened = c.requires.open; among = c.requires.among })
    c.loop-item.invariant.0 c.loop-item.invariant.1 c.loop-item-test.false c.of.ensures c.of-2.ensures
