use Rattle.std.proofs.Common.{◌≡◌, map, drop, not}
use Rattle.std.specs.List.{position_from}
use Rattle.gd_model.specs.Datum.{Datum}
use Rattle.gd_model.specs.Meant.{datum}
use Rattle.constant_store.specs.Literals.{fits}
use Rattle.constant_store.proofs.store.ConstantStore.first_misfit.Given as goal

-- the search from the place that is reached gives what the whole search gives
abbrev pub invariant-loop-i : goal.invariant-loop-i
invariant-loop-i l =
    let test = λ (d : Datum). not (fits l.self l.element d) in
    position_from test l.i (drop l.i (map datum l.items)) ≡ position_from test 0 (map datum l.items)
