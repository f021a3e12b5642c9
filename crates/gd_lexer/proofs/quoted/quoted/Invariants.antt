use Rattle.std.proofs.Common.{◌≤◌, ◌+◌, length, Bool}
use Rattle.gd_lexer.specs.Follows.{Follows}
use Rattle.gd_lexer.specs.Escape.{Reading, reading_of}
use Rattle.gd_lexer.specs.Quoted.{Steps}
use Rattle.gd_lexer.proofs.quoted.quoted.Given as goal

abbrev pub invariant-loop-glyph : goal.invariant-loop-glyph
invariant-loop-glyph l = record {
  follows : Follows l.initial.cursor l.cursor;
  few : length l.body.chars.items + length l.cursor.glyphs ≤ length l.initial.body.chars.items + length l.initial.cursor.glyphs;
  steps : (b : Bool) (t : Reading) → Steps l.quote (reading_of l.cursor l.body) b t → Steps l.quote (reading_of l.initial.cursor l.initial.body) b t;
}

abbrev pub decreases-loop-glyph : goal.decreases-loop-glyph
decreases-loop-glyph l = length l.cursor.glyphs
