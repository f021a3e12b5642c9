use Rattle.std.proofs.Common.{refl, sym, ◌∙◌, ap, subst}
use Rattle.gd_lexer.specs.declared.lines.Lines.{Lines}
use Rattle.gd_lexer.specs.Cursor.{Spot}
use Rattle.gd_lexer.specs.Follows.{Follows}
use Rattle.gd_lexer.specs.Brackets.{items_of}
use Rattle.gd_lexer.proofs.StepLemmas.{inner_feed_step, feed_step, feed_seen}
use Rattle.std.proofs.lemmas.Result.{err_from_is_err_and}
use Rattle.gd_lexer.proofs.FirstLemmas.{hidden_at_feed, stops_by_lines}
use Rattle.gd_lexis.specs.Pieces.{LineFeed}
use Rattle.gd_lexer.proofs.NotedLemmas.{silent_piece, feed_piece}
use Rattle.gd_lexer.proofs.lexer.Lexer.line_end.Goals as goal

pub returns-then-is_inside-clause-reads : goal.returns-then-is_inside-clause-reads
returns-then-is_inside-clause-reads c file all holds none =
    let old = c.args.self.now in
    inner_feed_step file all old.cursor c.advance.new.self (items_of old.brackets) old.lines old.found.tokens (sym c.is_inside.ensures ∙ c.if-is_inside.true) c.requires.head c.advance.ensures.rest c.advance.ensures.follows (holds none)

pub returns-clause-reads : goal.returns-clause-reads
returns-clause-reads c file all holds none =
    let old = c.args.self.now in
    let P : Spot → Type 0 = λ s. Follows old.cursor s in
    feed_step file all old.cursor c.newline.new.self.cursor (items_of old.brackets) (items_of c.newline.new.self.brackets) old.lines c.newline.new.self.lines c.end.new.self old.found.tokens c.newline.new.self.found.tokens
    c.pos-pos.result c.pos-pos.ensures.value (sym c.is_inside.ensures ∙ c.if-is_inside.false) c.in_ok-newline.ensures.items c.newline.ensures.lines c.in_ok-end.ensures.open c.end.ensures.blocks c.end.ensures.kind
    c.in_ok-end.ensures.lead c.in_ok-newline.ensures.newline c.requires.head (ap (λ (s : Spot). s.glyphs) c.newline.ensures.cursor ∙ c.advance.ensures.rest) (subst P (sym c.newline.ensures.cursor) c.advance.ensures.follows)
    (holds (ap (λ (l : Lines). l.lead.hidden) (sym c.newline.ensures.lines) ∙ c.in_ok-end.ensures.hidden))

pub returns-in_err-end-clause-first : goal.returns-in_err-end-clause-first
returns-in_err-end-clause-first c =
    let p = err_from_is_err_and c.from_residual-in_err-end.result c.from_residual-in_err-end.ensures.1 in
    rw (p.1, p.2) (hidden_at_feed c.args.self.now _ c.requires.head (stops_by_lines c.args.self.now.lines c.newline.new.self.lines _ c.newline.ensures.lines c.in_err-end.ensures.put_off))

pub returns-then-is_inside-clause-notes : goal.returns-then-is_inside-clause-notes
returns-then-is_inside-clause-notes c =
    let old = c.args.self.now in
    silent_piece old _ LineFeed c.advance.ensures.follows (λ none. none) (feed_seen old.cursor c.advance.new.self c.requires.head c.advance.ensures.rest) tt refl refl

pub returns-clause-notes : goal.returns-clause-notes
returns-clause-notes c =
    let old = c.args.self.now in
    let t = c.newline.new.self.cursor in
    let P : Spot → Type 0 = λ s. Follows old.cursor s in
    feed_piece old _ c.pos-pos.result c.offset-start.result c.offset-end.result (subst P (sym c.newline.ensures.cursor) c.advance.ensures.follows)
    (λ _. ap (λ (l : Lines). l.lead.hidden) (sym c.newline.ensures.lines) ∙ c.in_ok-end.ensures.hidden)
    (feed_seen old.cursor t c.requires.head (ap (λ (s : Spot). s.glyphs) c.newline.ensures.cursor ∙ c.advance.ensures.rest)) c.newline.ensures.comments c.in_ok-newline.ensures.newline c.in_ok-newline.ensures.spans
    c.pos-pos.ensures.value c.offset-start.ensures.value (c.offset-end.ensures.value ∙ ap (λ (s : Spot). s.offset) (sym c.newline.ensures.cursor))
