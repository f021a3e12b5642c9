use Rattle.std.proofs.Common.{◌≡◌, drop}
use Rattle.gd_bytecode.specs.First.{first_in}
use Rattle.gd_bytecode.specs.ConstFields.{elements_fault, value_fault}
use Rattle.gd_bytecode.proofs.constants.elements_fault.Given as goal

abbrev pub invariant-loop-j : goal.invariant-loop-j
invariant-loop-j l =
    elements_fault l.program l.i l.element l.operands ≡ first_in (λ j o. value_fault l.program l.i j l.element o) l.j (drop l.j l.operands)
