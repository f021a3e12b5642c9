use Rattle.std.proofs.lemmas.Result.{err_from_is_err_and}
use Rattle.std.proofs.Common.{◌∙◌, ap, sym}
use Rattle.gd_lexer.specs.declared.word.Word.TheVariants as words
use Rattle.gd_lexer.specs.Word.{word_at}
use Rattle.gd_lexer.proofs.NameMeets.{name_token}
use Rattle.gd_lexer.proofs.FaultMeets.{by_stop}
use Rattle.gd_lexer.proofs.lexer.Lexer.name.Goals as goal

pub returns-in_err-push-clause-fault : goal.returns-in_err-push-clause-fault
returns-in_err-push-clause-fault c = let p = err_from_is_err_and c.from_residual.result c.from_residual.ensures.1 in rw (p.1, p.2) tt

pub returns-in_err-read_name-clause-fault : goal.returns-in_err-read_name-clause-fault
returns-in_err-read_name-clause-fault c = let p = err_from_is_err_and c.from_residual-in_err-read_name.result c.from_residual-in_err-read_name.ensures.1 in rw (p.1, p.2) tt

pub returns-in_err-text-in-Name-clause-fault : goal.returns-in_err-text-in-Name-clause-fault
returns-in_err-text-in-Name-clause-fault c = let p = err_from_is_err_and c.from_residual-in_err-text-in-Name.result c.from_residual-in_err-text-in-Name.ensures.1 in rw (p.1, p.2) tt

pub returns-in_ok-text-in-Name-clause-token : goal.returns-in_ok-text-in-Name-clause-token
returns-in_ok-text-in-Name-clause-token c =
    let text = c.in_ok-text-in-Name.ensures ∙ c.as_slice-in-Name.ensures.value in
    λ _.
    name_token words.Name c.args.c c.in_ok-text-in-Name.text c.clear.new.self.chars.items c.push.new.self.chars.items c.args.self.now.cursor.glyphs c.advance.new.self.glyphs
    c.read_name.new.cursor.glyphs c.requires.starts c.clear.ensures.chars c.in_ok-push.ensures.chars c.advance.ensures.rest (text ∙ c.in_ok-read_name.ensures.chars)
    c.in_ok-read_name.ensures.rest (sym c.in-Name.is ∙ c.word_of.ensures ∙ ap word_at (c.as_slice.ensures.value ∙ sym text))

pub returns-in-Keyword-clause-token : goal.returns-in-Keyword-clause-token
returns-in-Keyword-clause-token c =
    λ _.
    name_token (words.Keyword c.in-Keyword.keyword) c.args.c c.read_name.new.chars.items c.clear.new.self.chars.items c.push.new.self.chars.items c.args.self.now.cursor.glyphs c.advance.new.self.glyphs
    c.read_name.new.cursor.glyphs c.requires.starts c.clear.ensures.chars c.in_ok-push.ensures.chars c.advance.ensures.rest c.in_ok-read_name.ensures.chars
    c.in_ok-read_name.ensures.rest (sym c.in-Keyword.is ∙ c.word_of.ensures ∙ ap word_at c.as_slice.ensures.value)

pub returns-in-Float-clause-fault : goal.returns-in-Float-clause-fault
returns-in-Float-clause-fault c =
    by_stop _ c.args.pos c.args.self.now.cursor.glyphs c.stop_at.result c.stop_at.ensures
    (name_token words.Float c.args.c c.read_name.new.chars.items c.clear.new.self.chars.items c.push.new.self.chars.items c.args.self.now.cursor.glyphs c.advance.new.self.glyphs
    c.read_name.new.cursor.glyphs c.requires.starts c.clear.ensures.chars c.in_ok-push.ensures.chars c.advance.ensures.rest c.in_ok-read_name.ensures.chars
    c.in_ok-read_name.ensures.rest (sym c.in-Float.is ∙ c.word_of.ensures ∙ ap word_at c.as_slice.ensures.value)) tt
