use Rattle.std.proofs.Common.{◌≡◌, drop}
use Rattle.gd_bytecode.specs.First.{first_in}
use Rattle.gd_bytecode.specs.FunctionFields.{entry_fault, function_fault}
use Rattle.gd_bytecode.proofs.functions.function_fault.Given as goal

abbrev pub invariant-loop-i : goal.invariant-loop-i
invariant-loop-i l = function_fault l.program ≡ first_in (λ i f. entry_fault l.program i f) l.i (drop l.i l.functions)
