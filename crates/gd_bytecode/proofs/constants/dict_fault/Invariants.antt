use Rattle.std.proofs.Common.{◌≡◌, drop}
use Rattle.gd_bytecode.specs.ConstFields.{dict_fault, pairs_fault}
use Rattle.gd_bytecode.specs.Numbering.{HasKeys, Operands}
use Rattle.gd_bytecode.proofs.constants.dict_fault.Given as goal

abbrev pub invariant-loop-j : goal.invariant-loop-j
invariant-loop-j l = (earlier : Operands) × HasKeys l.numbers l.met earlier
    × (dict_fault l.program l.i l.key l.value l.operands ≡ pairs_fault l.program l.i l.key l.value earlier l.j (drop l.j l.operands))
