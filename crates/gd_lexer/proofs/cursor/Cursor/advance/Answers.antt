use Rattle.std.proofs.Common.{◌≡◌, ◌-◌, ◌≤◌, ◌<◌, length, sym, subst, ap, ◌∙◌, arith, refl, drop}
use Rattle.std.specs.Prelude.{Some}
use Rattle.gd_lexis.specs.declared.glyph.Glyph.TheVariants.{Char}
use Rattle.gd_lexis.specs.Lexemes.{width}
use Rattle.gd_lexer.specs.Glyphs.{first_glyph}
use Rattle.gd_lexer.specs.Cursor.{Spot, advanced}
use Rattle.gd_lexer.proofs.CursorLemmas.{goes_on, ascii_first, ascii_width}
use Rattle.gd_lexer.proofs.FollowsLemmas.{Follows-advance, advanced_fewer, advanced_rest}
use Rattle.gd_lexer.proofs.cursor.Cursor.advance.Goals as goal

pub returns-in-len1-up : goal.returns-in-len1-up
returns-in-len1-up c =
    let first : Some (Char c.from.result) ≡ first_glyph c.self.inside.rest.now =
    rw c.from.ensures (ascii_first c.self.inside.rest.now c.in-len1-up.len_at_least c.if-byte-lt128.true) in
    let one : 1 ≡ width (Char c.from.result) = rw c.from.ensures (ascii_width _ c.if-byte-lt128.true) in
    let same =
    goes_on c.args.self.now c.self.inside.rest.now c.behind-self-inside.result.now (Char c.from.result) 1 c.self.inside.offset c.self.inside.pos
    c.after_char-self-inside.result c.self.view_is first one c.behind-self-inside.ensures c.after_char-self-inside.ensures in
    record {
      value = same;
      rest = ap (λ (s : Spot). s.glyphs) same ∙ advanced_rest c.args.self.now;
      follows =
          Follows-advance c.args.self.now c.self.inside.rest.now c.behind-self-inside.result.now (Char c.from.result) 1 c.self.inside.offset c.self.inside.pos
          c.after_char-self-inside.result c.self.view_is first one c.in-len1-up.len_at_least c.behind-self-inside.ensures c.after_char-self-inside.ensures;
      fewer = ap (λ (s : Spot). length s.glyphs) same ∙ advanced_fewer c.args.self.now;
    }
