-- Which fault a call refuses with: the first whose condition holds.
use Rattle.std.specs.Prelude.{Bool, List, [], ◌∷◌, Option, None, Some, if◌then◌else◌}
use Rattle.gd_model.specs.declared.fault.RunFault.{RunFault}

abbrev pub refusal : List (Bool × RunFault) → Option RunFault
refusal [] = None
refusal (c ∷ rest) = if c.0 then Some c.1 else refusal rest
