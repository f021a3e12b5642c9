use Rattle.std.proofs.Common.{sym, ◌∙◌, ap}
use Rattle.std.specs.Prelude.{Some}
use Rattle.gd_lexis.specs.declared.glyph.Glyph.{Glyph}
use Rattle.gd_lexis.specs.declared.glyph.Glyph.TheVariants.{Char}
use Rattle.gd_lexer.proofs.CutLemmas.{comment_feed}
use Rattle.gd_lexer.proofs.CommentLemmas.{bad_in_text, return_in_text}
use Rattle.gd_lexer.proofs.lexer.Lexer.is_in_comment.Goals as goal

pub returns-in-Some-Char-eq10-clause-goes : goal.returns-in-Some-Char-eq10-clause-goes
returns-in-Some-Char-eq10-clause-goes c =
    comment_feed c.args.self.now.cursor.glyphs
    (sym (c.in-Some-Char-eq10.is ∙ ap (λ (g : Glyph). Some g) (c.in-Some-Char-eq10.field-0-is ∙ ap (λ n. Char n) c.in-Some-Char-eq10.field-0-0-test)) ∙ c.peek.ensures.value)

pub returns-in-Some-Char-eq13-clause-fault : goal.returns-in-Some-Char-eq13-clause-fault
returns-in-Some-Char-eq13-clause-fault c =
    return_in_text c.args.self.now.cursor c.pos.result c.stop_at.result
    (sym (c.in-Some-Char-eq13.is ∙ ap (λ (g : Glyph). Some g) (c.in-Some-Char-eq13.field-0-is ∙ ap (λ n. Char n) c.in-Some-Char-eq13.field-0-0-test)) ∙ c.peek.ensures.value)
    (sym c.sees_second.ensures ∙ c.if-not-sees_second.true) c.pos.ensures.value c.stop_at.ensures

pub returns-in-Some-Bad-clause-fault : goal.returns-in-Some-Bad-clause-fault
returns-in-Some-Bad-clause-fault c =
    bad_in_text c.args.self.now.cursor c.in-Some-Bad.field-0-0 c.pos-in-Some-Bad.result c.stop_at-in-Some-Bad.result
    (sym (c.in-Some-Bad.is ∙ ap (λ (g : Glyph). Some g) c.in-Some-Bad.field-0-is) ∙ c.peek.ensures.value) c.pos-in-Some-Bad.ensures.value c.stop_at-in-Some-Bad.ensures
