use Rattle.std.proofs.Common.{◌≡◌, drop}
use Rattle.gd_bytecode.specs.First.{first_in}
use Rattle.gd_bytecode.specs.Verified.{code_fault, codes_fault}
use Rattle.gd_bytecode.proofs.verifier.verify.Given as goal

abbrev pub invariant-loop-i : goal.invariant-loop-i
invariant-loop-i l = codes_fault l.program ≡ first_in (λ i f. code_fault l.program f) l.i (drop l.i l.functions)
