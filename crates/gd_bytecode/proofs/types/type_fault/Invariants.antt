use Rattle.std.proofs.Common.{◌≡◌, drop, take}
use Rattle.gd_bytecode.specs.First.{first_in}
use Rattle.gd_bytecode.specs.TypeFields.{AreNumbersOf, entry_fault, is_met, type_fault}
use Rattle.gd_bytecode.proofs.types.type_fault.Given as goal

abbrev pub invariant-loop-i : goal.invariant-loop-i
invariant-loop-i l = record {
  met : AreNumbersOf l.met (take l.i l.types);
  rest : type_fault l.types l.classes ≡ first_in (λ i t. entry_fault l.classes (is_met (take i l.types)) i t) l.i (drop l.i l.types);
}
