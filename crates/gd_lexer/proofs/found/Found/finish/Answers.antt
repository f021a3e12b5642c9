use Rattle.std.proofs.Common.{◌≡◌, ap}
use Rattle.gd_lexer.specs.Found.{FoundList}
use Rattle.gd_lexer.proofs.FoundLemmas.{AreWhole-push}
use Rattle.gd_lexer.proofs.found.Found.finish.Goals as goal

pub returns-clause-whole : goal.returns-clause-whole
returns-clause-whole c =
    let same : c.self.inside.last ≡ c.args.self.last = ap (λ (f : FoundList). f.last) c.self.view_is in
    rw c.in_ok-add.ensures.ok
    (AreWhole-push c.self.inside.tokens.items c.self.inside.last c.args.pos c.self.invariant.0 (rw same c.requires.file) c.requires.line c.requires.column (rw same c.requires.later))
