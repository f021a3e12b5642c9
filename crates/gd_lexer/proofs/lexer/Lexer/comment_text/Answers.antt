use Rattle.std.proofs.Common.{Bool, subst}
use Rattle.gd_lexer.specs.Cut.{GoesOn}
use Rattle.gd_lexer.proofs.FollowsLemmas.{Follows-trans}
use Rattle.gd_lexer.proofs.CutLemmas.{text_more, text_end}
use Rattle.gd_lexer.proofs.CommentLemmas.{text_before}
use Rattle.gd_lexer.proofs.lexer.Lexer.comment_text.Goals as goal

pub text-preserved : goal.text-preserved
text-preserved c =
    let P : Bool → Type 0 = λ b. GoesOn b c.text.self.cursor.glyphs in
    let on = subst P c.if-branch.true c.in_ok-is_in_comment.ensures.goes in
    record {
      follows = Follows-trans _ _ _ c.text.invariant.follows c.advance.ensures.follows;
      stops = λ f k. c.text.invariant.stops f (text_before c.text.self.cursor c.advance.new.self f on c.advance.ensures.value k);
      keeps = c.text.invariant.keeps;
      text = λ rest k. c.text.invariant.text rest (text_more c.text.self.cursor.glyphs c.advance.new.self.glyphs rest on c.advance.ensures.rest k);
    }

pub returns-clause-text : goal.returns-clause-text
returns-clause-text c =
    let P : Bool → Type 0 = λ b. GoesOn b c.text.self.cursor.glyphs in
    c.text.invariant.text c.text.self.cursor.glyphs (text_end c.text.self.cursor.glyphs (subst P c.if-branch.false c.in_ok-is_in_comment.ensures.goes))
