use Rattle.std.proofs.Common.{◌+◌, ◌-◌, length, refl, ap, arith}
use Rattle.gd_holding.specs.Holding.{filled}
use Rattle.counted_heap.proofs.Holders.{held_next}
use Rattle.counted_heap.proofs.Next.{can_settle_next, takes_next}
use Rattle.counted_heap.proofs.heap.Heap.settle.Goals as goal

pub give_up-requires : goal.give_up-requires
give_up-requires g c =
    can_settle_next (λ t. filled (g.T.Holds.places t)) c.args.self.now c.begin_round.new.self c.take_out.new.self c.in_ok-h.h c.in_ok-h.thing (ap (λ v. v.things) c.begin_round.ensures.round) c.requires c.in_ok-h.ensures.some

pub returns-clause-some : goal.returns-clause-some
returns-clause-some g c =
    takes_next (λ t. filled (g.T.Holds.places t)) g.T.Holds.class c.args.self.now c.begin_round.new.self c.take_out.new.self c.give_up.new.self c.in_ok-h.h c.in_ok-h.thing c.class_of.result _
    c.begin_round.ensures.round c.in_ok-h.ensures.some c.give_up.ensures.given c.class_of.ensures
    (omega (arith, c.in_ok-h.ensures.calls, c.give_up.ensures.calls))

pub returns-clause-holders : goal.returns-clause-holders
returns-clause-holders g c = λ hand held.
    held_next (λ t. filled (g.T.Holds.places t)) g.T.Holds.class c.args.self.now c.give_up.new.self c.in_ok-h.h.serial c.class_of.result (1 + length (filled (g.T.Holds.places c.in_ok-h.thing))) hand c.begin_round.ensures.rising
    (takes_next (λ t. filled (g.T.Holds.places t)) g.T.Holds.class c.args.self.now c.begin_round.new.self c.take_out.new.self c.give_up.new.self c.in_ok-h.h c.in_ok-h.thing c.class_of.result (1 + length (filled (g.T.Holds.places c.in_ok-h.thing)))
    c.begin_round.ensures.round c.in_ok-h.ensures.some c.give_up.ensures.given c.class_of.ensures refl) held
