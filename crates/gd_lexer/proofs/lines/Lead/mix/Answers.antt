use Rattle.std.proofs.Common.{false, refl, sym, subst}
use Rattle.std.specs.Prelude.{Option, Some}
use Rattle.gd_lexer.specs.declared.stop.Fault.{Fault}
use Rattle.gd_lexer.specs.Lines.{MixedBy}
use Rattle.gd_lexer.proofs.lines.Lead.mix.Goals as goal

pub returns-in-None-clause-mixed : goal.returns-in-None-clause-mixed
returns-in-None-clause-mixed c =
    let P : Option Fault → Type 0 = λ m. MixedBy false c.args.pos m (Some c.fault_at.result) in
    subst P (sym c.in-None.is) (c.fault_at.result, refl, c.fault_at.ensures.pos, c.fault_at.ensures.rule)
