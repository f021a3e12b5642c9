use Rattle.std.proofs.Common.{List, length, map, take, ◌∙◌, ap}
use Rattle.gd_lexer.specs.declared.found.Span.{Span}
use Rattle.gd_lexer.specs.Noted.{extent_of}
use Rattle.gd_lexer.proofs.SpelledLemmas.{lexemes_spelled, comments_noted}
use Rattle.gd_lexer.proofs.calls.lexemes.Goals as goal

pub returns-in-Ok-clause-spelled : goal.returns-in-Ok-clause-spelled
returns-in-Ok-clause-spelled c =
    let w = c.in_ok-whole.whole in
    lexemes_spelled 0 c.args.bytes.now w c.in-Ok.lexemes.tokens c.in-Ok.ensures.tokens
    (c.in-Ok.ensures.bytes ∙ ap (λ (ss : List Span). map extent_of (take (length w.tokens.items) ss)) c.as_slice.ensures.value) c.in_ok-whole.ensures.noted

pub returns-in-Ok-clause-comments : goal.returns-in-Ok-clause-comments
returns-in-Ok-clause-comments c =
    comments_noted 0 c.args.bytes.now c.in_ok-whole.whole c.in-Ok.lexemes.comments (c.in-Ok.ensures.comments ∙ ap (map extent_of) c.as_slice-2.ensures.value) c.in_ok-whole.ensures.noted
