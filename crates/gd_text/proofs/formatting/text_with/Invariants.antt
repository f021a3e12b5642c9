use Rattle.std.proofs.Common.{◌≡◌, ◌≤◌, ◌++◌, true, length}
use Rattle.gd_text.specs.Format.{fits, text_with}
use Rattle.gd_text.proofs.formatting.text_with.Given as goal

abbrev pub invariant-loop-rest : goal.invariant-loop-rest
invariant-loop-rest l = record {
  short : length l.rest ≤ 16777216;
  fit : fits l.rest l.left ≡ true;
  done : text_with l.chars l.args ≡ l.out ++ text_with l.rest l.left;
}

abbrev pub decreases-loop-rest : goal.decreases-loop-rest
decreases-loop-rest l = length l.rest
