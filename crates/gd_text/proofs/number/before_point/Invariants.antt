use Rattle.std.proofs.Common.{◌≡◌, ℕ, ◌<◌, get_or, true, not, ◌==◌}
use Rattle.gd_text.proofs.number.before_point.Given as goal

abbrev pub invariant-loop-i : goal.invariant-loop-i
invariant-loop-i l = (k : ℕ) → k < l.i → not (get_or l.chars k 0 == 46) ≡ true
