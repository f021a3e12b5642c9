use Rattle.std.proofs.Common.{sym, ◌∙◌, ap}
use Rattle.gd_lexer.specs.declared.lines.Lines.{Lines}
use Rattle.gd_lexer.specs.Brackets.{items_of}
use Rattle.gd_lexer.proofs.StepLemmas.{end_step}
use Rattle.std.proofs.lemmas.Result.{err_from_is_err_and}
use Rattle.gd_lexer.proofs.FirstLemmas.{hidden_at_end, stops_by_lines}
use Rattle.gd_lexer.proofs.NotedLemmas.{noted_end}
use Rattle.gd_lexer.proofs.lexer.Lexer.finish.Goals as goal

pub returns-clause-laid : goal.returns-clause-laid
returns-clause-laid c file all holds end =
    let old = c.args.self in
    end_step file all old.cursor (items_of old.brackets) old.lines old.found.tokens c.newline.new.self.found.tokens c.close_blocks.new.self.found.tokens _ c.end.new.self.blocks c.close_blocks.new.self.lines.blocks c.pos-pos.result
    c.pos-pos.ensures.value end c.in_ok-newline.ensures.newline (c.end.ensures.blocks ∙ ap (λ (l : Lines). l.blocks) c.newline.ensures.lines) c.in_ok-close_blocks.ensures.closed c.in_ok-close_blocks.ensures.low
    c.in_ok-finish.ensures.tokens (holds (ap (λ (l : Lines). l.lead.hidden) (sym c.newline.ensures.lines) ∙ c.in_ok-end.ensures.hidden))

pub returns-in_err-end-clause-first : goal.returns-in_err-end-clause-first
returns-in_err-end-clause-first c =
    let p = err_from_is_err_and c.from_residual-in_err-end.result c.from_residual-in_err-end.ensures.1 in
    rw (p.1, p.2) (λ empty. hidden_at_end c.args.self _ empty (stops_by_lines c.args.self.lines c.newline.new.self.lines _ c.newline.ensures.lines c.in_err-end.ensures.put_off))

pub returns-clause-noted : goal.returns-clause-noted
returns-clause-noted c =
    let old = c.args.self in
    noted_end old c.newline.new.self.found c.close_blocks.new.self.found _ c.pos-pos.result c.offset-at.result c.pos-pos.ensures.value c.offset-at.ensures.value c.in_ok-newline.ensures.newline c.in_ok-newline.ensures.spans
    c.in_ok-close_blocks.ensures.spelled c.in_ok-finish.ensures.tokens c.in_ok-finish.ensures.spans (c.in_ok-finish.ensures.comments ∙ c.close_blocks.ensures.comments ∙ c.newline.ensures.comments)
    (ap (λ (l : Lines). l.lead.hidden) (sym c.newline.ensures.lines) ∙ c.in_ok-end.ensures.hidden)
