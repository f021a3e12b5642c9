use Rattle.std.proofs.Common.{subst, sym}
use Rattle.std.specs.List.{Contains}
use Rattle.cycle_resolver.proofs.Tables.{All-map-more, All-map-whole}
use Rattle.cycle_resolver.proofs.tests.visit_of_row.Goals as goal

pub loop-number-preserved : goal.loop-number-preserved
loop-number-preserved c =
    All-map-more (Contains c.args.typed.now) c.args.row.now c.loop-number.number-index c.loop-number-test.true c.loop-number.invariant
    (subst (Contains c.args.typed.now) c.item_of_number-next.ensures (c.is_typed.ensures.0 c.if-not-is_typed.false))

pub returns : goal.returns
returns c = All-map-whole (Contains c.args.typed.now) c.args.row.now c.loop-number.number-index c.loop-number-test.false c.loop-number.invariant
