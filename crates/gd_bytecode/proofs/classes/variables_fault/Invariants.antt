use Rattle.std.proofs.Common.{◌≡◌, drop, take}
use Rattle.gd_bytecode.specs.First.{first_in}
use Rattle.gd_bytecode.specs.ClassFields.{variable_names, named_variable_fault, variables_fault}
use Rattle.gd_bytecode.specs.Numbering.{HasNames}
use Rattle.gd_bytecode.proofs.classes.variables_fault.Given as goal

abbrev pub invariant-loop-j : goal.invariant-loop-j
invariant-loop-j l = record {
  met : HasNames l.numbers l.met (variable_names (take l.j l.variables));
  rest : variables_fault l.program l.i l.fn.class ≡ first_in (named_variable_fault l.program l.i l.fn.class) l.j (drop l.j l.variables);
}
