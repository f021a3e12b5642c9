use Rattle.std.proofs.Common.{◌≡◌, drop}
use Rattle.gd_bytecode.specs.First.{first_in, unless}
use Rattle.gd_bytecode.specs.Receivers.{is_right_alone}
use Rattle.gd_bytecode.specs.Verified.{alone_fault}
use Rattle.gd_bytecode.proofs.stack.stack_fault.Given as goal

abbrev pub invariant-loop-k : goal.invariant-loop-k
invariant-loop-k l =
    alone_fault l.program l.function ≡ first_in (λ k i. unless (is_right_alone l.program l.function k i) k) l.k (drop l.k l.code)
