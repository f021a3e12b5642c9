use Rattle.std.proofs.Common.{◌≡◌, ◌≤◌, length}
use Rattle.std.specs.List.{repeat}
use Rattle.gd_text.proofs.join.copies.Given as goal

abbrev pub invariant-loop-turn : goal.invariant-loop-turn
invariant-loop-turn l = record {
  done : l.out ≡ repeat l.turn l.chars;
}
