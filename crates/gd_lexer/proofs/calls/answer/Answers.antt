use Rattle.std.proofs.Common.{subst}
use Rattle.gd_lexer.specs.declared.stop.Stop.{Stop}
use Rattle.gd_lexer.specs.FirstFaults.{IsFirstOf}
use Rattle.gd_lexer.proofs.calls.answer.Goals as goal

pub returns-in-Fault-clause-first : goal.returns-in-Fault-clause-first
returns-in-Fault-clause-first c file bytes h =
    let P : Stop → Type 0 = λ s. IsFirstOf file bytes s in
    c.fault_answer.ensures.first file bytes (subst P c.in-Fault.is h)
