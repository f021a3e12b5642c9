use Rattle.std.proofs.Common.{◌≡◌, ◌≤◌, length, sym, subst, ap, ◌∙◌, arith}
use Rattle.gd_lexer.specs.Cursor.{Spot, advanced}
use Rattle.gd_lexer.proofs.CursorLemmas.{stays, goes_on}
use Rattle.gd_lexer.proofs.FollowsLemmas.{Follows-refl, Follows-advance, advanced_fewer, advanced_rest}
use Rattle.gd_lexer.proofs.cursor.Cursor.advance_any.Goals as goal

pub returns-in_default : goal.returns-in_default
returns-in_default c =
    let P : Spot → Type 0 = λ s. s ≡ advanced s in
    let same : c.args.self.now ≡ advanced c.args.self.now =
    subst P c.self.view_is (sym (stays c.self.inside.rest.now c.self.inside.offset c.self.inside.pos (sym c.in_default.ensures.value))) in
    record { value = same; rest = ap (λ (s : Spot). s.glyphs) same ∙ advanced_rest c.args.self.now; follows = Follows-refl c.args.self.now; fewer = ap (λ (s : Spot). length s.glyphs) same ∙ advanced_fewer c.args.self.now }

pub returns : goal.returns
returns c =
    let same =
    goes_on c.args.self.now c.self.inside.rest.now c.behind-self-inside.result.now c.in-Some.glyph c.width-width.result c.self.inside.offset c.self.inside.pos
    c.after-self-inside.result c.self.view_is c.in-Some.ensures.value c.width-width.ensures.value c.behind-self-inside.ensures c.after-self-inside.ensures in
    let fits : c.width-width.result ≤ length c.self.inside.rest.now = omega (arith, c.width-width.ensures.value, c.in-Some.ensures.within) in
    record {
      value = same;
      rest = ap (λ (s : Spot). s.glyphs) same ∙ advanced_rest c.args.self.now;
      follows =
          Follows-advance c.args.self.now c.self.inside.rest.now c.behind-self-inside.result.now c.in-Some.glyph c.width-width.result c.self.inside.offset c.self.inside.pos
          c.after-self-inside.result c.self.view_is c.in-Some.ensures.value c.width-width.ensures.value fits c.behind-self-inside.ensures c.after-self-inside.ensures;
      fewer = ap (λ (s : Spot). length s.glyphs) same ∙ advanced_fewer c.args.self.now;
    }
