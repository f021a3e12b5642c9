use Rattle.std.proofs.lemmas.Result.{err_from_is_err_and}
use Rattle.gd_lexer.specs.FirstFaults.{mixed}
use Rattle.gd_lexer.proofs.lexer.Lexer.open_line.Goals as goal

pub returns-in_err-level-clause-fault : goal.returns-in_err-level-clause-fault
returns-in_err-level-clause-fault c =
    let p = err_from_is_err_and c.from_residual.result c.from_residual.ensures.1 in
    rw (p.1, p.2) (mixed c.in_err-level.ensures.mixed)
