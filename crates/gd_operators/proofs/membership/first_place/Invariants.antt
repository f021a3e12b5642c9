use Rattle.std.proofs.Common.{◌≡◌, map, drop}
use Rattle.gd_model.specs.Datum.{Datum}
use Rattle.gd_model.specs.Meant.{datum}
use Rattle.value_semantics.specs.Equality.{same}
use Rattle.value_semantics.specs.Operators.{first_place}
use Rattle.gd_operators.proofs.membership.first_place.Given as goal

-- the search from the place that is reached gives what the whole search gives
abbrev pub invariant-loop-i : goal.invariant-loop-i
invariant-loop-i g l =
    let test = λ (x : Datum). same (g.K.Look.store l.look) x (datum l.v) in
    first_place test l.i (drop l.i (map datum l.array.items)) ≡ first_place test l.from (drop l.from (map datum l.array.items))
