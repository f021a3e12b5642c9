use Rattle.std.proofs.Common.{◌≡◌, take}
use Rattle.gd_builtins.proofs.Pairs.{keys_view}
use Rattle.gd_builtins.proofs.dict_methods.keys.Given as goal

abbrev pub invariant-loop-i : goal.invariant-loop-i
invariant-loop-i l = l.all ≡ keys_view (take l.i l.d.pairs)
