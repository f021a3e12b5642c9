use Rattle.std.proofs.Common.{length, ◌≡◌, ◌≤◌}
use Rattle.gd_lexer.specs.Sound.{IsPlaced, load}
use Rattle.gd_lexer.specs.Lines.{KeepsLine}
use Rattle.gd_lexer.specs.Noted.{KeepsSpelled}
use Rattle.gd_lexer.specs.Opening.{AreClosed}
use Rattle.gd_lexer.proofs.lexer.Lexer.close_blocks.Given as goal

abbrev pub invariant-above : goal.invariant-above
invariant-above l = record {
  cursor : l.self.cursor ≡ l.initial.self.cursor;
  placed : IsPlaced l.self l.pos;
  few : load l.self ≤ load l.initial.self;
  closed : AreClosed l.level l.pos l.initial.self.lines.blocks l.self.lines.blocks l.initial.self.found.tokens l.self.found.tokens;
  line : KeepsLine l.initial.self.lines l.self.lines;
  spelled : KeepsSpelled l.pos l.at l.initial.self.found l.self.found;
  comments : l.self.found.comments ≡ l.initial.self.found.comments;
  brackets : l.self.brackets ≡ l.initial.self.brackets;
}

abbrev pub decreases-above : goal.decreases-above
decreases-above l = length l.self.lines.blocks
