use Rattle.std.proofs.Common.{ap, ◌∙◌, slice_get}
use Rattle.gd_lexer.specs.Glyphs.{first_glyph, after_first}
use Rattle.gd_lexer.specs.Cursor.{Spot}
use Rattle.gd_lexer.proofs.CursorLemmas.{glyph_2}
use Rattle.gd_lexer.proofs.cursor.Cursor.third.Goals as goal

pub returns : goal.returns
returns c = c.first.ensures.value ∙ ap first_glyph (c.after_first-2.ensures ∙ ap after_first c.after_first.ensures) ∙ glyph_2 c.self.inside.rest.now ∙ ap (λ (s : Spot). slice_get s.glyphs 2) c.self.view_is
