use Rattle.std.proofs.Common.{refl, ◌∙◌, arith, rules}
use Rattle.std.proofs.lemmas.Grind.{common_steps}
use Rattle.gd_syntax.specs.declared.token.TokenKind.TheVariants as kinds
use Rattle.gd_lexer.proofs.NotedLemmas.{spelled_empty}
use Rattle.gd_lexer.proofs.BlockLemmas.{closed_more}
use Rattle.gd_lexer.proofs.lexer.Lexer.close_blocks.Goals as goal

pub above-preserved : goal.above-preserved
above-preserved c = record {
  cursor = c.above.invariant.cursor;
  placed = search rules;
  few = grind (arith, common_steps);
  closed =
      closed_more c.args.level c.args.pos c.args.self.now.lines.blocks c.above.self.lines.blocks c.close_block.new.self.blocks _ c.args.self.now.found.tokens c.above.self.found.tokens c.push_empty.new.self.tokens
      c.above.invariant.closed c.close_block.ensures.blocks (grind (arith, common_steps)) c.in_ok-push_empty.ensures.tokens;
  line = search rules;
  spelled =
      λ file first all here h.
      spelled_empty c.args.pos c.args.at kinds.Dedent c.above.self.found c.push_empty.new.self (λ rest. refl) c.in_ok-push_empty.ensures.tokens c.in_ok-push_empty.ensures.spans file first all here
      (c.above.invariant.spelled file first all here h);
  comments = c.push_empty.ensures.comments ∙ c.above.invariant.comments;
  brackets = c.above.invariant.brackets;
}
