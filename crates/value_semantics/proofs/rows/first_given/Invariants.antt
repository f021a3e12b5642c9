use Rattle.std.proofs.Common.{◌≡◌, drop, map}
use Rattle.value_semantics.specs.OperatorRows as table
use Rattle.value_semantics.proofs.rows.first_given.Given as goal

-- the cases that are left give what all of them do
abbrev pub invariant-loop-case : goal.invariant-loop-case
invariant-loop-case l = table.first_given (map (λ c. (c.operands, c.gives)) (drop l.case-index l.cases)) l.a l.b ≡ table.first_given (map (λ c. (c.operands, c.gives)) l.cases) l.a l.b
