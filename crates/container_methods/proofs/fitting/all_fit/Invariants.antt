use Rattle.std.proofs.Common.{◌≡◌, map, drop}
use Rattle.std.specs.List.{list_all}
use Rattle.gd_model.specs.Meant.{datum}
use Rattle.assignability.specs.Fits.{fits}
use Rattle.container_methods.proofs.fitting.all_fit.Given as goal

-- the values that are left fit where all do
abbrev pub invariant-loop-i : goal.invariant-loop-i
invariant-loop-i g l =
    let test = fits (g.B.Bases.bases l.bases) (g.K.Look.store l.look) l.t in
    list_all test (map datum (drop l.i l.items)) ≡ list_all test (map datum l.items)
