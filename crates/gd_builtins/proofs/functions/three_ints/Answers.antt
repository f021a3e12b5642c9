use Rattle.std.proofs.Common.{ap, sym, ◌∙◌, arith}
use Rattle.std.proofs.lemmas.Bool.Decides.{nat_tests}
use Rattle.gd_answers.specs.Answers.{exact}
use Rattle.gd_builtins.proofs.Arguments.{too_few, too_many}
use Rattle.gd_builtins.proofs.functions.three_ints.Goals as goal
use Rattle.gd_builtins.proofs.functions.three_ints.Goals.{in_default-via-then-args-lt3, in_default-via-else-args-lt3+else-args-lt4}

pub returns-in_default : goal.returns-in_default
returns-in_default c =
    elim c.in_default.branch [
      | in_default-via-then-args-lt3 w ↦ c.refused.ensures ∙ ap exact (sym (too_few c.args.args.now (grind (arith, nat_tests))))
      | in_default-via-else-args-lt3+else-args-lt4 w ↦ c.refused.ensures ∙ ap exact (sym (too_many c.args.args.now (grind (arith, nat_tests))))
    ]
