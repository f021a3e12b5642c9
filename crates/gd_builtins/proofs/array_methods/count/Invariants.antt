use Rattle.std.proofs.Common.{◌≡◌, ◌≤◌, map, drop}
use Rattle.gd_model.specs.Datum.{Datum}
use Rattle.gd_model.specs.Meant.{datum}
use Rattle.value_semantics.specs.Equality.{same}
use Rattle.value_semantics.specs.Methods.{count_from}
use Rattle.gd_builtins.proofs.array_methods.count.Given as goal

-- the count so far and the elements that are left give what all of them do
abbrev pub invariant-loop-i : goal.invariant-loop-i
invariant-loop-i g l =
    let test = λ (x : Datum). same (g.K.Look.store l.look) x (datum l.v) in
    (l.all ≤ l.i) × (count_from test l.all (map datum (drop l.i l.a.items)) ≡ count_from test 0 (map datum l.a.items))
