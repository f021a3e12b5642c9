use Rattle.std.proofs.Common.{sym, ◌∙◌}
use Rattle.gd_lexer.proofs.NameLemmas.{name_end, name_word, after_name_end, after_name_word}
use Rattle.gd_lexer.proofs.name.read_name.Goals as goal

pub returns-clause-chars : goal.returns-clause-chars
returns-clause-chars c =
    let ended = name_end c.loop-c.cursor.glyphs c.loop-c.chars.items (sym c.in_default.is ∙ c.next_in_name.ensures) in
    let word = name_word c.take_word.result.now c.take_word.new.self.glyphs c.args.chars.now.items c.take_word.ensures.word in
    sym ended ∙ c.loop-c.invariant.name ∙ rw (c.in_ok-add_ascii.ensures, c.take_word.ensures.glyphs) (sym word)

pub returns-clause-rest : goal.returns-clause-rest
returns-clause-rest c =
    let ended = after_name_end c.loop-c.cursor.glyphs (sym c.in_default.is ∙ c.next_in_name.ensures) in
    let word = after_name_word c.take_word.result.now c.take_word.new.self.glyphs c.take_word.ensures.word in
    sym ended ∙ c.loop-c.invariant.rest ∙ rw c.take_word.ensures.glyphs (sym word)
