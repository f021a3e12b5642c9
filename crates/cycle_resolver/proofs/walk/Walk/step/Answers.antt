use Rattle.std.proofs.Common.{refl, ◌∙◌, ap}
use Rattle.std.specs.List.{list_any}
use Rattle.cycle_resolver.specs.Order.{same_item}
use Rattle.cycle_resolver.specs.Walk.{enters, closes, follows, has_met}
use Rattle.cycle_resolver.proofs.Visits.{after-is, cause-is, gives_up-after, has-not, has-unless, on_false, or-is, steps_by, two-pushed}
use Rattle.cycle_resolver.proofs.walk.Walk.step.Goals as goal

pub returns-in_ok-push-in-Needs-2-clause-steps : goal.returns-in_ok-push-in-Needs-2-clause-steps
returns-in_ok-push-in-Needs-2-clause-steps g c =
    let why = cause-is _ _ c.in-Needs.is c.in_ok-visit.ensures.cause in
    let settled = after-is _ _ _ c.in-Needs.is c.in_ok-visit.ensures.settled in
    let unmet = has-not _ _ c.in_ok-insert-in-Needs.ensures.added c.if-branch.true in
    enters c.in-Needs.next why.0 unmet settled (λ item. c.in_ok-insert-in-Needs.ensures.updates.0 item ∙ or-is (same_item c.in-Needs.next item) (has_met c.args.self.now item)) (two-pushed _ _ _ _ _ c.in_ok-push-in-Needs.ensures.items c.in_ok-push-in-Needs-2.ensures.items) refl refl

pub returns-else-branch-clause-steps : goal.returns-else-branch-clause-steps
returns-else-branch-clause-steps g c =
    let why = cause-is _ _ c.in-Needs.is c.in_ok-visit.ensures.cause in
    let settled = after-is _ _ _ c.in-Needs.is c.in_ok-visit.ensures.settled in
    let met = has-unless _ _ c.in_ok-insert-in-Needs.ensures.added c.if-branch.false in
    let same = on_false _ c.if-branch.false c.in_ok-insert-in-Needs.ensures.unchanged in
    steps_by _ (λ h. closes c.in-Needs.next why.0 met why.1 (gives_up-after settled (λ x. ap (list_any (same_item x)) same) refl refl refl h)) c.give_up.ensures.gives_up

pub returns-in-Cyclic-clause-steps : goal.returns-in-Cyclic-clause-steps
returns-in-Cyclic-clause-steps g c =
    let why = cause-is _ _ c.in-Cyclic.is c.in_ok-visit.ensures.cause in
    let settled = after-is _ _ _ c.in-Cyclic.is c.in_ok-visit.ensures.settled in
    steps_by _ (λ h. follows why.0 why.1 why.2 (gives_up-after settled (λ x. refl) refl refl refl h)) c.give_up-in-Cyclic.ensures.gives_up
