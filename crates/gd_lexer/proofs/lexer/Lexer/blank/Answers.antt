use Rattle.gd_lexer.specs.Brackets.{items_of}
use Rattle.gd_lexer.proofs.StepLemmas.{blank_step}
use Rattle.std.proofs.Common.{refl}
use Rattle.gd_lexer.proofs.TrailLemmas.{blank_trail}
use Rattle.gd_lexis.specs.Pieces.{Blank}
use Rattle.gd_lexer.specs.Cut.{code_of}
use Rattle.gd_lexer.proofs.CutLemmas.{one_blank, a_blank}
use Rattle.gd_lexer.proofs.NotedLemmas.{silent_piece, blank_hidden}
use Rattle.gd_lexer.proofs.lexer.Lexer.blank.Goals as goal

pub returns-clause-reads : goal.returns-clause-reads
returns-clause-reads c file all holds none =
    let old = c.args.self.now in
    blank_step file all old.cursor c.advance.new.self (items_of old.brackets) old.lines c.blank.new.self old.found.tokens c.args.blank c.pos.result c.blank.ensures.keeps c.blank.ensures.kind c.blank.ensures.lead none
    c.pos.ensures.value c.advance.ensures.follows c.requires.head c.advance.ensures.rest holds

pub returns-clause-trails : goal.returns-clause-trails
returns-clause-trails c = blank_trail c.args.self.now _ c.args.blank c.pos.result c.blank.ensures.lead c.blank.ensures.keeps.1 refl c.requires.head c.advance.ensures.rest

pub returns-clause-notes : goal.returns-clause-notes
returns-clause-notes c =
    let old = c.args.self.now in
    let t = c.advance.new.self in
    let one = one_blank (code_of c.args.blank) old.cursor t (a_blank c.args.blank t.glyphs) c.requires.head c.advance.ensures.rest in
    silent_piece old _ (Blank (code_of c.args.blank)) c.advance.ensures.follows (blank_hidden old.lines.is_open c.args.blank c.pos.result old.lines.lead c.blank.new.self.lead c.blank.ensures.lead) one.0 one.1 refl refl
