use Rattle.std.proofs.Common.{sym, ◌∙◌, ap}
use Rattle.std.specs.Prelude.{Some}
use Rattle.gd_lexis.specs.declared.glyph.Glyph.{Glyph}
use Rattle.gd_lexer.proofs.StrayLemmas.{bad_strays}
use Rattle.gd_lexer.proofs.lexer.Lexer.step.Goals as goal

pub stray-requires-clause-strays : goal.stray-requires-clause-strays
stray-requires-clause-strays c = bad_strays c.in-Bad.field-0 c.args.self.now.cursor.glyphs (ap (λ (g : Glyph). Some g) (sym c.in-Bad.is) ∙ c.requires.head)
