-- What putting a printed form at the end of a text answers.
use Rattle.std.specs.Prelude.{◌≡◌, ⊤, ℕ, ◌<◌, List, ◌++◌, length, Result, Ok, Err}
use Rattle.gd_model.specs.declared.fault.RunFault.TheVariants.{TooLong}
use Rattle.gd_containers.specs.declared.fault.ThingFault.{ThingFault}
use Rattle.gd_containers.specs.declared.fault.ThingFault.TheVariants.{Run, NoMemory}

-- the form went to the end; too long comes only where the whole passes the limit of a text
abbrev pub Puts : List ℕ → List ℕ → List ℕ → Result (Unit {0}) ThingFault → Type 0
Puts form old new (Ok u) = new ≡ old ++ form
Puts form old new (Err (Run TooLong)) = 16777216 < length (old ++ form)
Puts form old new (Err NoMemory) = ⊤
Puts form old new r = ⊥
