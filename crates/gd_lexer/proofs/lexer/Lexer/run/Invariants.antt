use Rattle.std.proofs.Common.{length, ◌≡◌, ◌+◌}
use Rattle.gd_lexer.specs.Sound.{IsSound}
use Rattle.gd_lexer.specs.Laid.{Reads}
use Rattle.gd_lexer.specs.FirstFaults.{KeepsTrail}
use Rattle.gd_lexer.specs.Noted.{KeepsNotes}
use Rattle.gd_lexer.proofs.lexer.Lexer.run.Given as goal

abbrev pub invariant-loop-glyph : goal.invariant-loop-glyph
invariant-loop-glyph l = record {
  sound : IsSound l.self;
  file : l.self.found.last.file ≡ l.initial.self.found.last.file;
  whole : l.self.cursor.offset + l.self.cursor.left ≡ l.initial.self.cursor.offset + l.initial.self.cursor.left;
  reads : Reads l.initial.self l.self;
  trails : KeepsTrail l.initial.self l.self;
  notes : KeepsNotes l.initial.self l.self;
}

abbrev pub decreases-loop-glyph : goal.decreases-loop-glyph
decreases-loop-glyph l = length l.self.cursor.glyphs
