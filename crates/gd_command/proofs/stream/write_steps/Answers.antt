use Rattle.std.proofs.Common.{ℕ, ◌≤◌, arith, rules}
use Rattle.gd_command.proofs.PutsLemmas.{Grows-then}
use Rattle.gd_command.proofs.stream.write_steps.Goals as goal

pub returns-in_err-print_step-in_default : goal.returns-in_err-print_step-in_default
returns-in_err-print_step-in_default g c = record {
  lines = Grows-then _ _ _ c.loop.invariant.0 c.print_step.ensures.lines;
  cause = search rules;
}

pub loop-preserved : goal.loop-preserved
loop-preserved g c = (Grows-then _ _ _ c.loop.invariant.0 c.print_step.ensures.lines, le (c.loop.invariant.1) (c.print_step.ensures.cause.later))
  where
    le : {a b d : ℕ} → a ≤ b → b ≤ d → a ≤ d
    le first second = omega (arith, first, second)
