use Rattle.gd_lexer.proofs.MarkMeets.{mark_read}
use Rattle.gd_lexer.proofs.lexer.Lexer.mark.Goals as goal

pub returns-clause-token : goal.returns-clause-token
returns-clause-token c = mark_read c.args.mark c.args.count c.args.self.now.cursor.glyphs c.advance_by.new.self.cursor.glyphs c.requires.starts c.advance_by.ensures.rest
