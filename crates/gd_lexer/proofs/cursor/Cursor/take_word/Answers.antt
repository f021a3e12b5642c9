use Rattle.gd_lexer.proofs.TakeLemmas.{taken_goes_on, glyphs_taken, Follows-taken}
use Rattle.gd_lexer.proofs.cursor.Cursor.take_word.Goals as goal

pub returns-clause-glyphs : goal.returns-clause-glyphs
returns-clause-glyphs c =
    glyphs_taken c.args.self.now c.self.inside.rest.now c.behind-self-inside.result.now c.word_length-count.result c.self.inside.offset c.self.inside.pos c.self.view_is
    c.word_length-count.ensures.value c.behind-self-inside.ensures

pub returns-clause-word : goal.returns-clause-word
returns-clause-word c = taken_goes_on c.self.inside.rest.now c.word_length-count.result c.word_length-count.ensures.value

pub returns-clause-follows : goal.returns-clause-follows
returns-clause-follows c =
    Follows-taken c.args.self.now c.self.inside.rest.now c.behind-self-inside.result.now c.word_length-count.result c.self.inside.offset c.self.inside.pos c.self.view_is
    c.word_length-count.ensures.value c.behind-self-inside.ensures
