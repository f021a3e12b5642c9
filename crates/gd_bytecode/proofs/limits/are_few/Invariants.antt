use Rattle.std.proofs.Common.{◌≡◌, ◌+◌, ◌<◌, drop, sum_by, length}
use Rattle.gd_bytecode.proofs.limits.are_few.Given as goal

abbrev pub invariant-loop-class : goal.invariant-loop-class
invariant-loop-class l =
    (l.count < 4294967296) × (sum_by (λ c. length c.variables) l.classes ≡ l.count + sum_by (λ c. length c.variables) (drop l.class-index l.classes))
