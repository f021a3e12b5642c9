use Rattle.gd_command.proofs.PutsLemmas.{Puts-then, Puts-err, AppendsPrefix-then, AppendsPrefix-more}
use Rattle.gd_command.proofs.print_run.print_path_place.Goals as goal

pub returns-in_err-print_text-clause-puts : goal.returns-in_err-print_text-clause-puts
returns-in_err-print_text-clause-puts g c =
    Puts-err _ _ _ _ c.from_residual.ensures.0 (AppendsPrefix-more _ _ _ _ c.in_err-print_text.ensures.puts)

pub returns-in_err-print_number-clause-puts : goal.returns-in_err-print_number-clause-puts
returns-in_err-print_number-clause-puts g c =
    Puts-err _ _ _ _ c.from_residual-in_err-print_number.ensures.0
    (AppendsPrefix-then _ _ _ _ _ c.in_ok-print_text.ensures.puts (AppendsPrefix-more _ _ _ _ c.in_err-print_number.ensures.puts))

pub returns-clause-puts : goal.returns-clause-puts
returns-clause-puts g c =
    Puts-then _ _ _ _ _ _ c.in_ok-print_text.ensures.puts (Puts-then _ _ _ _ _ _ c.in_ok-print_number.ensures.puts c.print_number-2.ensures.puts)
