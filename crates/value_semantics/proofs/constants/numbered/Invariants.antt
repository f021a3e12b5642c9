use Rattle.std.proofs.Common.{◌≡◌, ◌+◌, drop, map}
use Rattle.value_semantics.specs.Constants as spec
use Rattle.value_semantics.proofs.constants.numbered.Given as goal

-- the search in the rows that are left gives what the whole search gives
abbrev pub invariant-loop-row : goal.invariant-loop-row
invariant-loop-row l = (l.number ≡ 1000 + l.row-index) × (spec.numbered_from l.number l.name (map spec.seen (drop l.row-index l.rows)) ≡ spec.numbered_from 1000 l.name (map spec.seen l.rows))
