use Rattle.std.proofs.Common.{◌≡◌, take}
use Rattle.gd_builtins.proofs.Pairs.{values_view}
use Rattle.gd_builtins.proofs.dict_methods.values.Given as goal

abbrev pub invariant-loop-i : goal.invariant-loop-i
invariant-loop-i l = l.all ≡ values_view (take l.i l.d.pairs)
