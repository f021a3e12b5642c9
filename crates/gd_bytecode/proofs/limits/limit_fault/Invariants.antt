use Rattle.std.proofs.Common.{◌≡◌, drop}
use Rattle.gd_bytecode.specs.First.{first_in}
use Rattle.gd_bytecode.specs.Limits.{function_limit}
use Rattle.gd_bytecode.proofs.limits.limit_fault.Given as goal

abbrev pub invariant-loop-i : goal.invariant-loop-i
invariant-loop-i l = first_in function_limit 0 l.functions ≡ first_in function_limit l.i (drop l.i l.functions)
