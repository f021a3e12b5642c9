use Rattle.std.proofs.Common.{length, List}
use Rattle.gd_lexis.specs.declared.glyph.Glyph.{Glyph}
use Rattle.gd_lexer.specs.Follows.{Follows}
use Rattle.gd_lexer.specs.Opening.{KeepsRest}
use Rattle.gd_lexer.specs.Cut.{IsCommentText}
use Rattle.gd_lexer.specs.declared.stop.Fault.{Fault}
use Rattle.gd_lexer.specs.FirstFaults.{IsInText}
use Rattle.gd_lexer.proofs.lexer.Lexer.comment_text.Given as goal

abbrev pub invariant-text : goal.invariant-text
invariant-text l = record {
  follows : Follows l.initial.self.cursor l.self.cursor;
  stops : (f : Fault) → IsInText l.self.cursor f → IsInText l.initial.self.cursor f;
  keeps : KeepsRest l.initial.self l.self;
  text : (rest : List Glyph) → IsCommentText l.self.cursor.glyphs rest → IsCommentText l.initial.self.cursor.glyphs rest;
}

abbrev pub decreases-text : goal.decreases-text
decreases-text l = length l.self.cursor.glyphs
