use Rattle.std.proofs.Common.{◌≡◌, drop, take}
use Rattle.gd_bytecode.specs.First.{first_in}
use Rattle.gd_bytecode.specs.ClassFields.{signal_names, signal_fault, signals_fault}
use Rattle.gd_bytecode.specs.Numbering.{HasNames}
use Rattle.gd_bytecode.proofs.classes.signals_fault.Given as goal

abbrev pub invariant-loop-j : goal.invariant-loop-j
invariant-loop-j l = record {
  met : HasNames l.numbers l.met (signal_names l.fn.class (take l.j l.signals));
  rest : signals_fault l.fn.program l.i l.fn.class ≡ first_in (signal_fault l.fn.program l.i l.fn.class) l.j (drop l.j l.signals);
}
