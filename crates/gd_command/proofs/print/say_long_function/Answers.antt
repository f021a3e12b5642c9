use Rattle.std.proofs.Common.{codes}
use Rattle.gd_command.proofs.PutsLemmas.{Puts-then, Puts-err, AppendsPrefix-then, AppendsPrefix-more}
use Rattle.gd_command.proofs.print.say_long_function.Goals as goal

pub returns-in_err-put-clause-puts : goal.returns-in_err-put-clause-puts
returns-in_err-put-clause-puts g c = Puts-err _ _ _ _ c.from_residual.ensures.0 (AppendsPrefix-more _ _ _ _ c.in_err-put.ensures.puts)

pub returns-in_err-put_path-clause-puts : goal.returns-in_err-put_path-clause-puts
returns-in_err-put_path-clause-puts g c =
    Puts-err _ _ _ _ c.from_residual-in_err-put_path.ensures.0
    (AppendsPrefix-then _ _ _ _ _ c.in_ok-put.ensures.puts (AppendsPrefix-more _ _ _ _ c.in_err-put_path.ensures.puts))

pub returns-in_err-print_number-clause-puts : goal.returns-in_err-print_number-clause-puts
returns-in_err-print_number-clause-puts g c =
    Puts-err _ _ _ _ c.from_residual-in_err-print_number.ensures.0
    (AppendsPrefix-then _ _ _ _ _ c.in_ok-put.ensures.puts
    (AppendsPrefix-then _ _ _ _ _ c.in_ok-put_path.ensures.puts (AppendsPrefix-more _ _ _ _ c.in_err-print_number.ensures.puts)))

pub returns-in_err-print_number-2-clause-puts : goal.returns-in_err-print_number-2-clause-puts
returns-in_err-print_number-2-clause-puts g c =
    Puts-err _ _ _ _ c.from_residual-in_err-print_number-2.ensures.0
    (AppendsPrefix-then _ _ _ _ _ c.in_ok-put.ensures.puts
    (AppendsPrefix-then _ _ _ _ _ c.in_ok-put_path.ensures.puts
    (AppendsPrefix-then _ _ _ _ _ c.in_ok-print_number.ensures.puts (AppendsPrefix-more _ _ _ _ c.in_err-print_number-2.ensures.puts))))

pub returns-clause-puts : goal.returns-clause-puts
returns-clause-puts g c =
    Puts-then _ _ _ _ _ _ c.in_ok-put.ensures.puts (Puts-then _ _ _ _ _ _ c.in_ok-put_path.ensures.puts
    (Puts-then _ _ _ _ _ _ c.in_ok-print_number.ensures.puts
    (Puts-then _ _ _ _ _ _ c.in_ok-print_number-2.ensures.puts c.say.ensures.puts)))
