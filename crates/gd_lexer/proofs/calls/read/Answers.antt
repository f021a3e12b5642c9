use Rattle.gd_lexer.proofs.EndLemmas.{file_laid}
use Rattle.gd_lexer.proofs.calls.read.Goals as goal

pub returns-in-Ok-clause-tokens : goal.returns-in-Ok-clause-tokens
returns-in-Ok-clause-tokens c =
    file_laid c.args.file c.args.bytes.now c.new.result.cursor.glyphs c.in-Ok.whole.tokens.items c.new.ensures.read.0 (c.in-Ok.ensures.laid c.args.file c.new.result.cursor.glyphs c.new.ensures.holds)

pub returns-in-Err-clause-first : goal.returns-in-Err-clause-first
returns-in-Err-clause-first c =
    c.answer.ensures.first c.args.file c.args.bytes.now
    (c.in-Err.ensures.first c.args.file c.args.bytes.now c.new.result.cursor.glyphs c.new.ensures.read.0 c.new.ensures.holds c.new.ensures.trails)

pub returns-in-Ok-clause-noted : goal.returns-in-Ok-clause-noted
returns-in-Ok-clause-noted c =
    let spot = c.new.result.cursor in
    record {
      first = spot.offset;
      all = spot.glyphs;
      file_is = c.new.ensures.read;
      noted = c.in-Ok.ensures.noted c.args.file spot.offset spot.glyphs c.new.ensures.notes;
    }
