use Rattle.std.proofs.Common.{◌≡◌, ◌≤◌, ◌-◌, ◌++◌, length, drop}
use Rattle.gd_text.specs.Search.{joined, parts}
use Rattle.gd_text.proofs.search.replace.Given as goal

abbrev pub invariant-loop-at : goal.invariant-loop-at
invariant-loop-at l = record {
  within : l.start ≤ length l.chars;
  rest : joined l.with (parts l.what l.chars) ≡ l.out ++ joined l.with (parts l.what (drop l.start l.chars));
}

abbrev pub decreases-loop-at : goal.decreases-loop-at
decreases-loop-at l = length l.chars - l.start
