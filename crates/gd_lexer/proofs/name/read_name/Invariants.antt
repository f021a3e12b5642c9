use Rattle.std.proofs.Common.{◌≡◌, ◌≤◌, ◌+◌, length}
use Rattle.gd_lexer.specs.Follows.{Follows}
use Rattle.gd_lexer.specs.Name.{name_behind, after_name}
use Rattle.gd_lexer.proofs.name.read_name.Given as goal

abbrev pub invariant-loop-c : goal.invariant-loop-c
invariant-loop-c l = record {
  follows : Follows l.initial.cursor l.cursor;
  name : name_behind l.chars.items l.cursor.glyphs ≡ name_behind l.initial.chars.items l.initial.cursor.glyphs;
  few : length l.chars.items + length l.cursor.glyphs ≤ length l.initial.chars.items + length l.initial.cursor.glyphs;
  rest : after_name l.cursor.glyphs ≡ after_name l.initial.cursor.glyphs;
}

abbrev pub decreases-loop-c : goal.decreases-loop-c
decreases-loop-c l = length l.cursor.glyphs
