use Rattle.std.proofs.Common.{sym, ◌∙◌}
use Rattle.constant_store.proofs.Held.{more_items, not_all_items, all_items}
use Rattle.constant_store.proofs.store.ConstantStore.holds_all.Goals as goal

pub loop-i-preserved : goal.loop-i-preserved
loop-i-preserved c = more_items c.args.self.now c.args.items.now c.loop-i.i c.index-items-i.result c.loop-i-test.true c.index-items-i.is c.loop-i.invariant (sym c.holds.ensures ∙ c.if-not-holds.false)

pub returns-then-not-holds : goal.returns-then-not-holds
returns-then-not-holds c = not_all_items c.args.self.now c.args.items.now c.loop-i.i c.index-items-i.result c.loop-i-test.true c.index-items-i.is (sym c.holds.ensures ∙ c.if-not-holds.true)

pub returns : goal.returns
returns c = all_items c.args.self.now c.args.items.now c.loop-i.i c.loop-i-test.false c.loop-i.invariant
