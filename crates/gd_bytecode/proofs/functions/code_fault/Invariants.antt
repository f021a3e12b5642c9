use Rattle.std.proofs.Common.{◌≡◌, drop}
use Rattle.gd_bytecode.specs.First.{first_in}
use Rattle.gd_bytecode.specs.FunctionFields.{code_fault, instr_fault}
use Rattle.gd_bytecode.proofs.functions.code_fault.Given as goal

abbrev pub invariant-loop-k : goal.invariant-loop-k
invariant-loop-k l =
    code_fault l.program l.i l.function ≡ first_in (λ k x. instr_fault l.program l.i l.function k x) l.k (drop l.k l.code)
