use Rattle.std.proofs.Common.{ap, ◌∙◌, slice_get}
use Rattle.gd_lexer.specs.Cursor.{Spot}
use Rattle.gd_lexer.proofs.CursorLemmas.{glyph_0, head_some, head_none}
use Rattle.gd_lexer.proofs.cursor.Cursor.peek.Goals as goal

pub returns : goal.returns
returns c =
    let same = c.first.ensures.value ∙ glyph_0 c.self.inside.rest.now ∙ ap (λ (s : Spot). slice_get s.glyphs 0) c.self.view_is in
    record {
      value = same;
      some = head_some c.args.self.now.glyphs c.first.result same;
      none = head_none c.args.self.now.glyphs c.first.result same;
    }
