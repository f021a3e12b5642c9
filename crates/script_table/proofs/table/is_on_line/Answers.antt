use Rattle.std.proofs.Common.{sym, ap, ◌∙◌, arith}
use Rattle.assignability.specs.Assign.{is_among}
use Rattle.script_table.specs.Seen.{line_of}
use Rattle.script_table.proofs.Lines.{passes, stops}
use Rattle.script_table.proofs.table.is_on_line.Goals as goal

pub walk-preserved : goal.walk-preserved
walk-preserved c =
    ap (λ n. is_among (line_of c.args.bases.now n) c.args.base) c.next-at.ensures
    ∙ sym (passes c.args.bases.now c.requires c.walk.at c.args.base c.walk-test.true) ∙ c.walk.invariant

pub walk-smaller : goal.walk-smaller
walk-smaller c = let lower = c.requires c.walk.at (omega (arith, c.walk-test.true)) in omega (arith, c.next-at.ensures, lower)

pub returns : goal.returns
returns c = sym (stops c.args.bases.now c.requires c.walk.at c.args.base c.walk-test.false) ∙ c.walk.invariant
