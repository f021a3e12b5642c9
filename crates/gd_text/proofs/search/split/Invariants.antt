use Rattle.std.proofs.Common.{◌≡◌, ◌≤◌, ◌-◌, ◌++◌, length, drop, filter}
use Rattle.gd_text.specs.Search.{parts, is_kept}
use Rattle.gd_text.proofs.search.split.Given as goal

abbrev pub invariant-loop-at : goal.invariant-loop-at
invariant-loop-at l = record {
  within : l.start ≤ length l.chars;
  few : length l.parts.items ≤ 16777216;
  rest : filter (is_kept l.empty) (parts l.by l.chars) ≡ l.parts.items ++ filter (is_kept l.empty) (parts l.by (drop l.start l.chars));
}

abbrev pub decreases-loop-at : goal.decreases-loop-at
decreases-loop-at l = length l.chars - l.start
