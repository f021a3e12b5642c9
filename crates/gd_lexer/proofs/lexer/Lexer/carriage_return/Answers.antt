use Rattle.gd_lexer.specs.Brackets.{items_of}
use Rattle.gd_lexer.proofs.StepLemmas.{return_step}
use Rattle.std.proofs.Common.{refl, inr}
use Rattle.gd_lexer.proofs.TrailLemmas.{same_trail, one_far}
use Rattle.gd_lexis.specs.Pieces.{Blank}
use Rattle.gd_lexer.proofs.CutLemmas.{one_blank, feed_next}
use Rattle.gd_lexer.proofs.NotedLemmas.{silent_piece}
use Rattle.gd_lexer.proofs.lexer.Lexer.carriage_return.Goals as goal

pub returns-clause-reads : goal.returns-clause-reads
returns-clause-reads c file all holds none =
    let old = c.args.self.now in
    return_step file all old.cursor c.advance.new.self (items_of old.brackets) old.lines old.found.tokens c.advance.ensures.follows c.requires.head c.requires.feed c.advance.ensures.rest (holds none)

pub returns-clause-trails : goal.returns-clause-trails
returns-clause-trails c =
    let old = c.args.self.now in
    same_trail old _ refl refl (one_far 13 old.cursor.glyphs c.advance.new.self.glyphs (inr (inr refl)) c.requires.head c.advance.ensures.rest)

pub returns-clause-notes : goal.returns-clause-notes
returns-clause-notes c =
    let old = c.args.self.now in
    let t = c.advance.new.self in
    let one = one_blank 13 old.cursor t (inr (inr (refl, feed_next old.cursor t c.requires.feed c.advance.ensures.rest))) c.requires.head c.advance.ensures.rest in
    silent_piece old _ (Blank 13) c.advance.ensures.follows (λ none. none) one.0 one.1 refl refl
