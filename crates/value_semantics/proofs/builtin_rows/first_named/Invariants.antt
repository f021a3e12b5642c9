use Rattle.std.proofs.Common.{◌≡◌, drop, map}
use Rattle.value_semantics.specs.BuiltinRows as spec
use Rattle.value_semantics.proofs.builtin_rows.first_named.Given as goal

-- the search in the rows that are left gives what the whole search gives
abbrev pub invariant-loop-row : goal.invariant-loop-row
invariant-loop-row l = spec.first_named l.name (map spec.seen (drop l.row-index l.rows)) ≡ spec.first_named l.name (map spec.seen l.rows)
