use Rattle.std.proofs.Common.{◌≡◌, drop}
use Rattle.gd_bytecode.specs.declared.field.Field.TheVariants.{InFunction}
use Rattle.gd_bytecode.specs.declared.field.FunctionField.TheVariants as field
use Rattle.gd_bytecode.specs.First.{first_in, within}
use Rattle.gd_bytecode.specs.FunctionFields.{locals_fault}
use Rattle.gd_bytecode.proofs.functions.locals_fault.Given as goal

abbrev pub invariant-loop-j : goal.invariant-loop-j
invariant-loop-j l = locals_fault l.fn.program l.i l.types ≡ first_in (λ j t. within t l.size (InFunction l.i (field.Local j))) l.j (drop l.j l.types)
