use Rattle.std.proofs.Common.{◌≡◌, map, drop}
use Rattle.gd_model.specs.Datum.{Datum}
use Rattle.gd_model.specs.Meant.{datum, pair_datum}
use Rattle.value_semantics.specs.Equality.{same}
use Rattle.value_semantics.specs.Methods.{first_key}
use Rattle.gd_builtins.proofs.dict_methods.find_key.Given as goal

abbrev pub invariant-loop-i : goal.invariant-loop-i
invariant-loop-i g l =
    let test = λ (x : Datum). same (g.K.Look.store l.look) x (datum l.v) in
    first_key test (map pair_datum (drop l.i l.d.pairs)) ≡ first_key test (map pair_datum l.d.pairs)
