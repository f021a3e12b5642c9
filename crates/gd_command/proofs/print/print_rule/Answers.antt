use Rattle.std.proofs.Common.{codes}
use Rattle.gd_command.proofs.PutsLemmas.{Puts-then, Puts-err, AppendsPrefix-then, AppendsPrefix-more}
use Rattle.gd_command.proofs.print.print_rule.Goals as goal

pub returns-in_err-put-clause-puts : goal.returns-in_err-put-clause-puts
returns-in_err-put-clause-puts g c =
    Puts-err _ _ _ _ c.from_residual.ensures.0 (AppendsPrefix-more _ _ (codes ": ") _ c.in_err-put.ensures.puts)

pub returns-in_err-print_severity-clause-puts : goal.returns-in_err-print_severity-clause-puts
returns-in_err-print_severity-clause-puts g c =
    Puts-err _ _ _ _ c.from_residual-in_err-print_severity.ensures.0 (AppendsPrefix-then _ _ _ (codes ": ") _ c.in_ok-put.ensures.puts (AppendsPrefix-more _ _ _ _ c.in_err-print_severity.ensures.puts))

pub returns-in_err-print_code-clause-puts : goal.returns-in_err-print_code-clause-puts
returns-in_err-print_code-clause-puts g c =
    Puts-err _ _ _ _ c.from_residual-in_err-print_code.ensures.0 (AppendsPrefix-then _ _ _ (codes ": ") _ c.in_ok-put.ensures.puts (AppendsPrefix-then _ _ _ _ _ c.in_ok-print_severity.ensures.puts (AppendsPrefix-more _ _ _ _ c.in_err-print_code.ensures.puts)))

pub returns-in_err-put-2-clause-puts : goal.returns-in_err-put-2-clause-puts
returns-in_err-put-2-clause-puts g c =
    Puts-err _ _ _ _ c.from_residual-in_err-put-2.ensures.0 (AppendsPrefix-then _ _ _ (codes ": ") _ c.in_ok-put.ensures.puts (AppendsPrefix-then _ _ _ _ _ c.in_ok-print_severity.ensures.puts (AppendsPrefix-then _ _ _ _ _ c.in_ok-print_code.ensures.puts (AppendsPrefix-more _ _ (codes ": ") _ c.in_err-put-2.ensures.puts))))

pub returns-clause-puts : goal.returns-clause-puts
returns-clause-puts g c =
    Puts-then _ _ _ (codes ": ") _ _ c.in_ok-put.ensures.puts (Puts-then _ _ _ _ _ _ c.in_ok-print_severity.ensures.puts (Puts-then _ _ _ _ _ _ c.in_ok-print_code.ensures.puts (Puts-then _ _ _ (codes ": ") _ _ c.in_ok-put-2.ensures.puts c.print_text.ensures.puts)))
