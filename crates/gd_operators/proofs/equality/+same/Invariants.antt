use Rattle.std.proofs.Common.{◌≡◌, ◌+◌, ◌*◌, map, drop}
use Rattle.gd_model.specs.Meant.{datum, pair_datum}
use Rattle.value_semantics.specs.Equality.{same_by, same_items, same_pairs, inside}
use Rattle.gd_operators.proofs.equality.+same.Given as goal

abbrev pub decreases-same_within : goal.decreases-same_within
decreases-same_within g l = 3 * l.room + 2

abbrev pub decreases-same_arrays : goal.decreases-same_arrays
decreases-same_arrays g l = 3 * l.room + 1

abbrev pub decreases-same_dicts : goal.decreases-same_dicts
decreases-same_dicts g l = 3 * l.room + 1

abbrev pub decreases-same_items : goal.decreases-same_items
decreases-same_items g l = 3 * l.room + 3

abbrev pub decreases-same_pairs : goal.decreases-same_pairs
decreases-same_pairs g l = 3 * l.room + 3

-- the verdict on all elements is that on those from place i on
abbrev pub invariant-same_items-loop-i : goal.invariant-same_items-loop-i
invariant-same_items-loop-i g l =
    let eq = same_by (g.K.Look.store l.look) (inside (g.K.Look.store l.look) l.room) in
    same_items eq (map datum (drop l.i l.x)) (map datum (drop l.i l.y)) ≡ same_items eq (map datum l.x) (map datum l.y)

abbrev pub invariant-same_pairs-loop-i : goal.invariant-same_pairs-loop-i
invariant-same_pairs-loop-i g l =
    let eq = same_by (g.K.Look.store l.look) (inside (g.K.Look.store l.look) l.room) in
    same_pairs eq (map pair_datum (drop l.i l.x.pairs)) (map pair_datum l.y.pairs) ≡ same_pairs eq (map pair_datum l.x.pairs) (map pair_datum l.y.pairs)
