use Rattle.std.proofs.Common.{◌≡◌, ℕ, ◌<◌, get_or, true}
use Rattle.gd_text.specs.Text.{is_blank}
use Rattle.gd_text.proofs.cut.without_start.Given as goal

abbrev pub invariant-loop-first : goal.invariant-loop-first
invariant-loop-first l = (k : ℕ) → k < l.first → is_blank (get_or l.chars k 0) ≡ true
