use Rattle.std.proofs.Common.{◌≡◌, drop}
use Rattle.gd_bytecode.specs.First.{first_in}
use Rattle.gd_bytecode.specs.ClassFields.{class_fault, entry_fault}
use Rattle.gd_bytecode.proofs.classes.class_fault.Given as goal

abbrev pub invariant-loop-i : goal.invariant-loop-i
invariant-loop-i l = class_fault l.program ≡ first_in (λ i c. entry_fault l.program i c) l.i (drop l.i l.classes)
