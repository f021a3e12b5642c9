use Rattle.std.proofs.Common.{sym, ◌∙◌}
use Rattle.constant_store.proofs.Held.{more_pairs, not_all_pairs, all_pairs_end}
use Rattle.constant_store.proofs.store.ConstantStore.holds_pairs.Goals as goal

pub loop-i-preserved : goal.loop-i-preserved
loop-i-preserved c = more_pairs c.args.self.now c.args.pairs.now c.loop-i.i c.index-pairs-i.result c.loop-i-test.true c.index-pairs-i.is c.loop-i.invariant (sym c.holds_pair.ensures ∙ c.if-not-holds_pair.false)

pub returns-then-not-holds_pair : goal.returns-then-not-holds_pair
returns-then-not-holds_pair c = not_all_pairs c.args.self.now c.args.pairs.now c.loop-i.i c.index-pairs-i.result c.loop-i-test.true c.index-pairs-i.is (sym c.holds_pair.ensures ∙ c.if-not-holds_pair.true)

pub returns : goal.returns
returns c = all_pairs_end c.args.self.now c.args.pairs.now c.loop-i.i c.loop-i-test.false c.loop-i.invariant
