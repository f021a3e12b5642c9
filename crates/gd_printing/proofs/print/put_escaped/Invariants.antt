use Rattle.std.proofs.Common.{◌≡◌, ◌++◌, drop}
use Rattle.value_semantics.specs.Printed.{escaped}
use Rattle.gd_printing.proofs.print.put_escaped.Given as goal

-- what was put and what is left make the whole
abbrev pub invariant-loop-c : goal.invariant-loop-c
invariant-loop-c l = l.out.items ++ escaped (drop l.c-index l.text) ≡ l.fn.out.items ++ escaped l.text
