use Rattle.std.proofs.Common.{◌≡◌, ap, sym, ◌∙◌, false, subst}
use Rattle.std.specs.Prelude.{Some}
use Rattle.gd_lexis.specs.declared.glyph.Glyph.{Glyph}
use Rattle.gd_lexer.specs.Cursor.{Spot}
use Rattle.gd_lexer.specs.Escape.{is_line_end}
use Rattle.gd_lexer.proofs.QuotedLemmas.{on_ok, no_line_end, escaped_bad, escaped_char}
use Rattle.gd_lexer.proofs.escape.escape.Goals as goal

pub returns-in-Some-Bad-clause-value : goal.returns-in-Some-Bad-clause-value
returns-in-Some-Bad-clause-value c =
    let none = sym c.line_end.ensures.value ∙ c.if-line_end.false in
    let stays : c.line_end.new.cursor ≡ c.advance.new.self = c.line_end.ensures.at ∙ no_line_end c.advance.new.self none in
    let P : Spot → Type 0 = λ v. is_line_end v ≡ false in
    on_ok c.take.result _ _
    (λ h. h c.advance-in-Some-Bad.new.self
    ∙ escaped_bad c.args.cursor.now c.line_end.new.cursor c.advance-in-Some-Bad.new.self c.args.body.now c.pos-pos.result c.in-Some-Bad.field-0-0 (stays ∙ c.advance.ensures.value)
    (subst P (sym stays) none) (sym (c.in-Some-Bad.is ∙ ap (λ (g : Glyph). Some g) c.in-Some-Bad.field-0-is) ∙ c.peek.ensures.value) c.advance-in-Some-Bad.ensures.value c.pos-pos.ensures.value)
    c.take.ensures.value

pub returns-in-Some-Char-clause-value : goal.returns-in-Some-Char-clause-value
returns-in-Some-Char-clause-value c =
    let none = sym c.line_end.ensures.value ∙ c.if-line_end.false in
    let stays : c.line_end.new.cursor ≡ c.advance.new.self = c.line_end.ensures.at ∙ no_line_end c.advance.new.self none in
    let P : Spot → Type 0 = λ v. is_line_end v ≡ false in
    on_ok c.take-in-Some-Char.result _ _
    (λ h. h c.character-found.new.cursor
    ∙ escaped_char c.args.cursor.now c.line_end.new.cursor c.character-found.new.cursor c.args.body.now c.pos-pos.result c.in-Some-Char.c c.character-found.result (stays ∙ c.advance.ensures.value)
    (subst P (sym stays) none) (sym (c.in-Some-Char.is ∙ ap (λ (g : Glyph). Some g) c.in-Some-Char.field-0-is) ∙ c.peek.ensures.value) c.character-found.ensures.value c.character-found.ensures.at c.pos-pos.ensures.value)
    c.take-in-Some-Char.ensures.value
