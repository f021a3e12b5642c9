use Rattle.std.proofs.Common.{◌≡◌, cond, not, drop}
use Rattle.gd_text.specs.Number.{is_negated}
use Rattle.gd_text.proofs.number.is_negated.Given as goal

abbrev pub invariant-loop-c : goal.invariant-loop-c
invariant-loop-c l = cond l.odd (not (is_negated (drop l.c-index l.chars))) (is_negated (drop l.c-index l.chars)) ≡ is_negated l.chars
