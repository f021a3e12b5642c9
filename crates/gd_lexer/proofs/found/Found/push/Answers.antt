use Rattle.std.proofs.Common.{◌≡◌, ap, arith}
use Rattle.std.proofs.lemmas.Grind.{common_steps}
use Rattle.gd_lexer.specs.Found.{FoundList}
use Rattle.gd_lexer.proofs.FoundLemmas.{AreUpTo-push}
use Rattle.gd_lexer.proofs.found.Found.push.Goals as goal

pub invariant_of-self-2 : goal.invariant_of-self-2
invariant_of-self-2 c =
    let same : c.self.inside.last ≡ c.args.self.now.last = ap (λ (f : FoundList). f.last) c.self.view_is in
    let order =
    AreUpTo-push c.self.inside.tokens.items c.self.inside.last (record { pos = c.args.pos; kind = c.args.kind }) c.self.invariant.0 (rw same c.requires.file) c.requires.line c.requires.column (rw same c.requires.later) c.requires.open in
    (rw c.in_ok-add-2.ensures.ok order, grind (arith, common_steps))
