use Rattle.std.proofs.Common.{◌≡◌, ap, ◌∙◌, arith}
use Rattle.gd_syntax.specs.declared.pos.Pos.{Pos}
use Rattle.gd_lexer.specs.declared.lines.Lead.{Lead}
use Rattle.gd_lexer.specs.Brackets.{items_of}
use Rattle.gd_lexer.proofs.FollowsLemmas.{IsAtMost-same}
use Rattle.gd_lexer.proofs.EndLemmas.{laid_start}
use Rattle.gd_lexer.proofs.NotedLemmas.{noted_start}
use Rattle.gd_lexer.proofs.lexer.Lexer.new.Goals as goal

pub returns-clause-sound : goal.returns-clause-sound
returns-clause-sound c =
    let same : c.new-found.result.last ≡ c.new-cursor.result.pos = c.new-found.ensures.last ∙ c.pos.ensures.value in
    record {
      order = IsAtMost-same c.new-found.result.last c.new-cursor.result.pos same;
      file = ap (λ (p : Pos). p.file) same;
      few = rw (c.new-found.ensures.tokens, c.new.ensures.blocks, c.new.ensures.open) (omega arith);
      kept = record {
        settled = λ _. ap (λ (l : Lead). l.mixed) c.new.ensures.lead;
        put_off = λ _. ap (λ (l : Lead). l.hidden) c.new.ensures.lead;
        short = rw (ap (λ (l : Lead). l.level) c.new.ensures.lead) (omega arith);
      };
    }

pub returns-clause-holds : goal.returns-clause-holds
returns-clause-holds c none =
    laid_start c.args.file c.new-cursor.result (items_of c.new-2.result) c.new.result c.new-found.result.tokens c.new-cursor.ensures.place c.new-2.ensures c.new.ensures.open c.new.ensures.blocks c.new.ensures.kind c.new.ensures.lead
    c.new-found.ensures.tokens

pub returns-clause-notes : goal.returns-clause-notes
returns-clause-notes c = noted_start c.args.file _ c.new-cursor.ensures.place c.new-found.ensures.tokens c.new-found.ensures.spans c.new-found.ensures.comments
