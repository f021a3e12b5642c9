use Rattle.std.proofs.Common.{codes}
use Rattle.gd_command.proofs.PutsLemmas.{Puts-then, Puts-err, AppendsPrefix-then, AppendsPrefix-more}
use Rattle.gd_command.proofs.print_run.print_fault.Goals as goal

pub returns-in_err-put-clause-puts : goal.returns-in_err-put-clause-puts
returns-in_err-put-clause-puts g c =
    Puts-err _ _ _ _ c.from_residual.ensures.0 (AppendsPrefix-more _ _ (codes ": error ") _ c.in_err-put.ensures.puts)

pub returns-in_err-put_code-clause-puts : goal.returns-in_err-put_code-clause-puts
returns-in_err-put_code-clause-puts g c =
    Puts-err _ _ _ _ c.from_residual-in_err-put_code.ensures.0
    (AppendsPrefix-then _ _ _ (codes ": error ") _ c.in_ok-put.ensures.puts (AppendsPrefix-more _ _ _ _ c.in_err-put_code.ensures.puts))

pub returns-in_err-put-2-clause-puts : goal.returns-in_err-put-2-clause-puts
returns-in_err-put-2-clause-puts g c =
    Puts-err _ _ _ _ c.from_residual-in_err-put-2.ensures.0
    (AppendsPrefix-then _ _ _ (codes ": error ") _ c.in_ok-put.ensures.puts
    (AppendsPrefix-then _ _ _ _ _ c.in_ok-put_code.ensures.puts (AppendsPrefix-more _ _ (codes ": ") _ c.in_err-put-2.ensures.puts)))

pub returns-in_err-put_text-clause-puts : goal.returns-in_err-put_text-clause-puts
returns-in_err-put_text-clause-puts g c =
    Puts-err _ _ _ _ c.from_residual-in_err-put_text.ensures.0
    (AppendsPrefix-then _ _ _ (codes ": error ") _ c.in_ok-put.ensures.puts
    (AppendsPrefix-then _ _ _ _ _ c.in_ok-put_code.ensures.puts
    (AppendsPrefix-then _ _ _ (codes ": ") _ c.in_ok-put-2.ensures.puts (AppendsPrefix-more _ _ _ _ c.in_err-put_text.ensures.puts))))

pub returns-clause-puts : goal.returns-clause-puts
returns-clause-puts g c =
    Puts-then _ _ _ (codes ": error ") _ _ c.in_ok-put.ensures.puts
    (Puts-then _ _ _ _ _ _ c.in_ok-put_code.ensures.puts
    (Puts-then _ _ _ (codes ": ") _ _ c.in_ok-put-2.ensures.puts
    (Puts-then _ _ _ _ _ _ c.in_ok-put_text.ensures.puts c.print_message.ensures.puts)))
