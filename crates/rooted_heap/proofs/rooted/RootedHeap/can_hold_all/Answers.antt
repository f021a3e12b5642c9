use Rattle.std.proofs.Common.{List, subst, arith}
use Rattle.std.specs.List.{All}
use Rattle.std.proofs.lemmas.List.{take_all}
use Rattle.std.proofs.lemmas.List.Elements.{All-more}
use Rattle.gd_model.specs.declared.value.Value.{Value}
use Rattle.rooted_heap.specs.Rooted.{CanHold}
use Rattle.rooted_heap.proofs.rooted.RootedHeap.can_hold_all.Goals as goal

pub loop-value-preserved : goal.loop-value-preserved
loop-value-preserved c =
    let P = CanHold c.args.self.now in
    All-more P c.args.values.now c.loop-value.value-index c.value-item.result (omega (arith, c.loop-value-test.true)) c.loop-value.invariant
    (subst P c.value-item.is (c.can_hold.ensures c.if-not-can_hold.false))

pub returns : goal.returns
returns c = λ yes.
    subst (λ (l : List Value). All (CanHold c.args.self.now) l) (take_all c.loop-value.value-index c.args.values.now (omega (arith, c.loop-value-test.false))) c.loop-value.invariant
