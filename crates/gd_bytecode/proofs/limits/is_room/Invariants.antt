use Rattle.std.proofs.Common.{◌≡◌, ◌+◌, drop, sum_by}
use Rattle.gd_bytecode.specs.Limits.{count_statics}
use Rattle.gd_bytecode.proofs.limits.is_room.Given as goal

abbrev pub invariant-loop-class : goal.invariant-loop-class
invariant-loop-class l =
    l.constants + sum_by (λ c. count_statics c.variables) l.classes ≡ l.held + sum_by (λ c. count_statics c.variables) (drop l.class-index l.classes)
