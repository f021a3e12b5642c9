use Rattle.std.proofs.Common.{refl}
use Rattle.gd_syntax.specs.declared.token.TokenKind.TheVariants as kinds
use Rattle.gd_lexer.proofs.NotedLemmas.{spelled_empty}
use Rattle.gd_lexer.proofs.lexer.Lexer.deepen.Goals as goal

pub returns-clause-spelled : goal.returns-clause-spelled
returns-clause-spelled c = spelled_empty c.args.pos c.args.at kinds.Indent c.args.self.now.found c.push_empty.new.self (λ rest. refl) c.in_ok-push_empty.ensures.tokens c.in_ok-push_empty.ensures.spans
