use Rattle.std.proofs.Common.{◌≡◌, false, take}
use Rattle.gd_builtins.proofs.dict_methods.duplicate.Given as goal

-- the copy has the pairs so far
abbrev pub invariant-loop-i : goal.invariant-loop-i
invariant-loop-i l = l.all ≡ record l.d { fixed = false; pairs = take l.i l.d.pairs }
