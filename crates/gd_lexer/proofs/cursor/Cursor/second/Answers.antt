use Rattle.std.proofs.Common.{ap, ◌∙◌, slice_get}
use Rattle.gd_lexer.specs.Glyphs.{first_glyph}
use Rattle.gd_lexer.specs.Cursor.{Spot}
use Rattle.gd_lexer.proofs.CursorLemmas.{glyph_1}
use Rattle.gd_lexer.proofs.cursor.Cursor.second.Goals as goal

pub returns : goal.returns
returns c = c.first.ensures.value ∙ ap first_glyph c.after_first.ensures ∙ glyph_1 c.self.inside.rest.now ∙ ap (λ (s : Spot). slice_get s.glyphs 1) c.self.view_is
