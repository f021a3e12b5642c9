use Rattle.std.proofs.Common.{◌≡◌, drop}
use Rattle.std.specs.List.{list_all}
use Rattle.assignability.specs.Fits.{fits}
use Rattle.container_methods.specs.Dicts.{both_fit, written}
use Rattle.container_methods.proofs.merging.has_misfit.Given as goal

-- the pairs that are left fit where all do
abbrev pub invariant-loop-i : goal.invariant-loop-i
invariant-loop-i g l =
    let fit = (both_fit (fits (g.B.Bases.bases l.bases) (g.K.Look.store l.look) l.d.key_type) (fits (g.B.Bases.bases l.bases) (g.K.Look.store l.look) l.d.value_type)) in
    list_all fit (written l.over l.d.pairs (drop l.i l.other.pairs)) ≡ list_all fit (written l.over l.d.pairs l.other.pairs)
