use Rattle.gd_command.proofs.PutsLemmas.{Appends-then, Puts-err, AppendsPrefix-then, AppendsPrefix-more}
use Rattle.gd_command.proofs.print.print_found.Goals as goal

pub returns-in_err-print_diags-clause-puts : goal.returns-in_err-print_diags-clause-puts
returns-in_err-print_diags-clause-puts g c =
    Puts-err _ _ _ _ c.from_residual.ensures.0 (AppendsPrefix-more _ _ _ _ c.in_err-print_diags.ensures.puts)

pub returns-in_err-print_marks-clause-puts : goal.returns-in_err-print_marks-clause-puts
returns-in_err-print_marks-clause-puts g c =
    Puts-err _ _ _ _ c.from_residual-in_err-print_marks.ensures.0 (AppendsPrefix-then _ _ _ _ _ c.in_ok-print_diags.ensures.puts c.in_err-print_marks.ensures.puts)

pub returns-clause-puts : goal.returns-clause-puts
returns-clause-puts g c = Appends-then _ _ _ _ _ c.in_ok-print_diags.ensures.puts c.in_ok-print_marks.ensures.puts
