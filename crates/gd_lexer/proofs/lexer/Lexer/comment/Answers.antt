use Rattle.std.proofs.Common.{[], ◌∷◌, ◌++◌, sym, ◌∙◌, ap}
use Rattle.gd_lexer.specs.Found.{FoundList}
use Rattle.gd_lexer.specs.Brackets.{items_of}
use Rattle.gd_lexer.proofs.FollowsLemmas.{Follows-trans}
use Rattle.gd_lexer.proofs.StepLemmas.{comment_step, laid_same}
use Rattle.std.proofs.lemmas.Result.{err_from_is_err_and}
use Rattle.gd_lexer.proofs.FirstLemmas.{hidden_at_comment, comment_stops}
use Rattle.gd_lexis.specs.declared.glyph.Glyph.TheVariants.{Char}
use Rattle.gd_lexis.specs.Pieces.{Comment}
use Rattle.gd_lexer.proofs.MarkMeets.{head_seen}
use Rattle.gd_lexer.proofs.NotedLemmas.{noted_piece, comment_noted}
use Rattle.gd_lexer.proofs.lexer.Lexer.comment.Goals as goal

pub returns-clause-reads : goal.returns-clause-reads
returns-clause-reads c file all holds none =
    let old = c.args.self.now in
    let now = c.comment_text.new.self in
    let keeps = c.comment_text.ensures.keeps in
    laid_same file all now.cursor (items_of old.brackets) (items_of now.brackets) old.lines now.lines old.found.tokens c.comment-2.new.self.tokens (ap items_of keeps.2) keeps.1
    (c.in_ok-comment-2.ensures.tokens ∙ ap (λ (f : FoundList). f.tokens) keeps.0)
    (comment_step file all old.cursor c.advance.new.self now.cursor (items_of old.brackets) old.lines old.found.tokens c.requires.head c.advance.ensures.rest
    (Follows-trans _ _ _ c.advance.ensures.follows c.in_ok-comment_text.ensures.follows) c.in_ok-comment_text.ensures.text (holds c.in_ok-comment.ensures.hidden))

pub returns-in_err-comment-clause-first : goal.returns-in_err-comment-clause-first
returns-in_err-comment-clause-first c =
    let p = err_from_is_err_and c.from_residual.result c.from_residual.ensures.1 in
    rw (p.1, p.2) (hidden_at_comment c.args.self.now _ c.requires.head c.in_err-comment.ensures.put_off)

pub returns-in_err-comment_text-clause-first : goal.returns-in_err-comment_text-clause-first
returns-in_err-comment_text-clause-first c =
    let p = err_from_is_err_and c.from_residual-in_err-comment_text.result c.from_residual-in_err-comment_text.ensures.1 in
    rw (p.1, p.2) (comment_stops c.args.self.now c.advance.new.self _ c.requires.head c.in_ok-comment.ensures.hidden c.advance.ensures.value c.in_err-comment_text.ensures.fault)

pub returns-in_err-comment_text-clause-follows : goal.returns-in_err-comment_text-clause-follows
returns-in_err-comment_text-clause-follows c = Follows-trans _ _ _ c.advance.ensures.follows c.comment_text.ensures.follows

pub returns-clause-notes : goal.returns-clause-notes
returns-clause-notes c =
    let old = c.args.self.now in
    let now = c.comment_text.new.self in
    let keeps = c.comment_text.ensures.keeps.0 in
    let text = c.in_ok-comment_text.ensures.text in
    let follows = Follows-trans _ _ _ c.advance.ensures.follows c.in_ok-comment_text.ensures.follows in
    let split = head_seen old.cursor.glyphs (Char 35) (sym c.requires.head) ∙ ap (λ g. Char 35 ∷ g) (sym c.advance.ensures.rest ∙ text.1) in
    noted_piece old _ (Comment text.0) follows (λ _. c.in_ok-comment.ensures.hidden) split text.2
    (comment_noted old.cursor now.cursor text.0 old.found.comments c.comment-2.new.self.comments c.offset-start.result c.offset-end.result follows split c.offset-start.ensures.value c.offset-end.ensures.value
    (c.in_ok-comment-2.ensures.comments ∙ ap (λ (f : FoundList). f.comments ++ record { start = c.offset-start.result; end = c.offset-end.result } ∷ []) keeps))
    (c.comment-2.ensures.tokens ∙ ap (λ (f : FoundList). f.tokens) keeps) (c.comment-2.ensures.spans ∙ ap (λ (f : FoundList). f.spans) keeps)
