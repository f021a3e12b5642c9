use Rattle.std.proofs.Common.{◌≤◌, length, subst}
use Rattle.gd_lexer.specs.Cursor.{Spot}
use Rattle.gd_lexer.proofs.GlyphLemmas.{glyphs_few}
use Rattle.gd_lexer.proofs.cursor.Cursor.offset.Goals as goal

pub returns-clause-few : goal.returns-clause-few
returns-clause-few c =
    let P : Spot → Type 0 = λ s. length s.glyphs ≤ s.left in
    subst P c.self.view_is (glyphs_few c.self.inside.rest.now)
