use Rattle.std.proofs.Common.{◌≡◌, ℕ, ◌<◌, ◌≤◌, get_or, true, length}
use Rattle.gd_text.specs.Text.{is_blank}
use Rattle.gd_text.proofs.cut.without_end.Given as goal

abbrev pub invariant-loop-end : goal.invariant-loop-end
invariant-loop-end l = (k : ℕ) → l.end ≤ k → k < length l.chars → is_blank (get_or l.chars k 0) ≡ true
