use Rattle.std.proofs.Common.{◌≡◌, List, true, subst, sym}
use Rattle.std.specs.List.{list_any}
use Rattle.gd_rules.specs.declared.diag.Diag.{Diag}
use Rattle.gd_command.specs.Report.{is_error}
use Rattle.gd_command.proofs.JudgeLemmas.{analysed_of}
use Rattle.gd_command.proofs.judge.analyse.Goals as goal

pub returns-clause-finds : goal.returns-clause-finds
returns-clause-finds c =
    analysed_of c.args.options _ _ _ c.report_of.ensures.diags c.report_of.ensures.marks c.report_of.ensures.asked c.in_ok-marks.ensures.asked
    (λ some. c.in_ok-marks.ensures.accepted (subst (λ (list : List Diag). list_any is_error list ≡ true) (sym c.deref-2.ensures.value) some))
