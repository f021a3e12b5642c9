use Rattle.std.proofs.Common.{◌≡◌, ◌≤◌, length}
use Rattle.gd_text.specs.Format.{fits}
use Rattle.gd_text.proofs.formatting.fits.Given as goal

abbrev pub invariant-loop-rest : goal.invariant-loop-rest
invariant-loop-rest l = record {
  short : length l.rest ≤ 16777216;
  same : fits l.chars l.args ≡ fits l.rest l.left;
}

abbrev pub decreases-loop-rest : goal.decreases-loop-rest
decreases-loop-rest l = length l.rest
