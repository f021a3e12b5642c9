use Rattle.std.specs.Prelude.{length}
use Rattle.gd_check.proofs.ignored.cover.Given as goal

abbrev pub decreases-loop-waiting : goal.decreases-loop-waiting
decreases-loop-waiting l = length l.waiting
