use Rattle.std.proofs.lemmas.Result.{IfOk-weaker}
use Rattle.std.proofs.lemmas.List.{nil_from_length}
use Rattle.std.proofs.lemmas.Result.{err_from_is_err_and}
use Rattle.gd_lexer.proofs.FirstLemmas.{first_since, first_at_end}
use Rattle.gd_lexer.proofs.lexer.Lexer.run.Goals as goal

pub returns-clause-laid : goal.returns-clause-laid
returns-clause-laid c =
    IfOk-weaker c.finish.result _ _ (λ w p file all holds. p file all (c.loop-glyph.invariant.reads file all holds) (nil_from_length c.loop-glyph.self.cursor.glyphs c.in_default.ensures.none)) c.finish.ensures.laid

pub returns-in_err-step-clause-first : goal.returns-in_err-step-clause-first
returns-in_err-step-clause-first c =
    let p = err_from_is_err_and c.from_residual.result c.from_residual.ensures.1 in
    rw (p.1, p.2) (first_since c.args.self c.loop-glyph.self _ c.loop-glyph.invariant.reads c.loop-glyph.invariant.trails c.in_err-step.ensures.first)

pub returns-clause-first : goal.returns-clause-first
returns-clause-first c =
    first_at_end c.args.self c.loop-glyph.self c.finish.result c.loop-glyph.invariant.reads c.loop-glyph.invariant.trails (nil_from_length c.loop-glyph.self.cursor.glyphs c.in_default.ensures.none) c.finish.ensures.first

pub returns-clause-noted : goal.returns-clause-noted
returns-clause-noted c =
    IfOk-weaker c.finish.result _ _ (λ w p file first all h. p file first all (c.loop-glyph.invariant.notes file first all h) (nil_from_length c.loop-glyph.self.cursor.glyphs c.in_default.ensures.none)) c.finish.ensures.noted
