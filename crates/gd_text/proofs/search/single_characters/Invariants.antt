use Rattle.std.proofs.Common.{◌≡◌, ◌≤◌, length, take}
use Rattle.gd_text.specs.Search.{single_characters}
use Rattle.gd_text.proofs.search.single_characters.Given as goal

abbrev pub invariant-loop-i : goal.invariant-loop-i
invariant-loop-i l = record {
  few : length l.parts.items ≤ l.i;
  done : l.parts.items ≡ single_characters (take l.i l.chars);
}
