use Rattle.std.proofs.Common.{◌≡◌, drop, map}
use Rattle.std.specs.Int.{int_max}
use Rattle.gd_model.specs.Meant.{datum}
use Rattle.value_semantics.specs.Functions.{picked}
use Rattle.gd_builtins.proofs.functions.greatest_from.Given as goal

-- the best so far and the arguments that are left give what all of them do
abbrev pub invariant-loop-arg : goal.invariant-loop-arg
invariant-loop-arg l = picked int_max l.best (map datum (drop l.arg-index l.rest)) ≡ picked int_max l.first (map datum l.rest)
