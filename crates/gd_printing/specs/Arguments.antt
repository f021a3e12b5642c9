-- Arguments that are at hand for those that a pattern is to have.
use Rattle.std.specs.Prelude.{◌≡◌, ⊤, ◌<◌, Bool, true, false, ◌||◌, List, [], ◌∷◌, length, Option, None, Some, Result, Ok, Err}
use Rattle.gd_model.specs.declared.fault.RunFault.TheVariants.{TooLong}
use Rattle.gd_containers.specs.declared.fault.ThingFault.{ThingFault}
use Rattle.gd_containers.specs.declared.fault.ThingFault.TheVariants.{Run, NoMemory}
use Rattle.gd_text.specs.declared.formatting.Arg.{Arg}
use Rattle.gd_text.specs.declared.formatting.Arg.TheVariants.{Other}
use Rattle.gd_answers.specs.declared.fresh.Fresh.{Fresh}

-- a printed form that passes the limit of a text
abbrev pub IsOverLong : Arg → Type 0
IsOverLong (Other t) = 16777216 < length t
IsOverLong a = ⊥

abbrev pub IsOther : Arg → Type 0
IsOther (Other t) = ⊤
IsOther a = ⊥

-- what making an argument answers: the argument, or nothing where its printed form passes the limit
abbrev pub IsArgument : Arg → Result (Option Arg) ThingFault → Type 0
IsArgument want (Ok (Some a)) = want ≡ a
IsArgument want (Ok None) = IsOverLong want
IsArgument want (Err NoMemory) = ⊤
IsArgument want r = ⊥

-- the argument is the wanted one, or stands in for a printed form that passes the limit
abbrev pub Stands : Arg → Arg → Bool → Type 0
Stands want a false = want ≡ a
Stands want a true = IsOverLong want × IsOther a

-- the arguments stand for the wanted ones, `over` saying whether one stands in for a printed form past the limit
abbrev pub AllStand : List Arg → List Arg → Bool → Type 0
AllStand [] [] over = over ≡ false
AllStand (w ∷ ws) (a ∷ args) over = (here : Bool) × (more : Bool) × Stands w a here × AllStand ws args more × (over ≡ (here || more))
AllStand ws args over = ⊥

-- the answer where a part of the text that was made passes the limit
abbrev pub unless_over : Bool → Result Fresh ThingFault → Result Fresh ThingFault
unless_over true (Ok x) = Err (Run TooLong)
unless_over true (Err f) = Err f
unless_over false r = r
