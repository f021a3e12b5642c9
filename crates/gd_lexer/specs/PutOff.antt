-- Faults that were put off.
use Rattle.std.specs.Prelude.{◌≡◌, ◌⊎◌, Bool, true, Option, Some, None}
use Rattle.gd_lexer.specs.declared.lines.Lead.{Lead}
use Rattle.gd_lexer.specs.declared.stop.Fault.{Fault}
use Rattle.gd_lexer.specs.declared.stop.Stop.{Stop}
use Rattle.gd_lexer.specs.declared.stop.Stop.TheVariants as stops

-- the stop is this fault
abbrev pub StopsBy : Option Fault → Stop → Type 0
StopsBy o stop = (f : Fault) × (o ≡ Some f) × (stop ≡ stops.Fault f)

-- the first of two faults
abbrev pub first_of : Option Fault → Fault → Option Fault
first_of None fault = Some fault
first_of (Some first) fault = Some first

-- the stop is this fault, which is not put off: the line has a token, or no blank of the other kind before the fault
abbrev pub IsNotPutOff : Bool → Lead → Fault → Stop → Type 0
IsNotPutOff is_open lead fault stop = (stop ≡ stops.Fault fault) × ((is_open ≡ true) ⊎ (lead.mixed ≡ None))
