use Rattle.std.proofs.Common.{sym, ◌∙◌}
use Rattle.gd_lexer.proofs.StrayLemmas.{other_strays}
use Rattle.gd_lexer.proofs.lexer.Lexer.other.Goals as goal

pub stray-requires-clause-strays : goal.stray-requires-clause-strays
stray-requires-clause-strays c = other_strays c.args.c c.args.self.now.cursor.glyphs c.requires.head (sym c.start_of.ensures ∙ c.in-None.is) c.requires.plain c.requires.lone
