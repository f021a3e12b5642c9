use Rattle.script_table.specs.Seen.{IsFalling}
use Rattle.script_table.proofs.table.ordered_bases.Given as goal

abbrev pub invariant-loop-class : goal.invariant-loop-class
invariant-loop-class l = IsFalling l.bases.items
