use Rattle.std.proofs.Common.{◌≡◌, drop}
use Rattle.gd_bytecode.specs.Jumps.{jump_fault, first_wrong}
use Rattle.gd_bytecode.proofs.jumps.jump_fault.Given as goal

abbrev pub invariant-loop-k : goal.invariant-loop-k
invariant-loop-k l = jump_fault l.code ≡ first_wrong l.code l.k (drop l.k l.code)
