-- Which fault stops reading.
use Rattle.std.specs.Prelude.{◌≡◌}
use Rattle.gd_syntax.specs.declared.pos.Pos.{Pos}
use Rattle.gd_rules.specs.declared.rule.Rule.{Rule}
use Rattle.gd_lexer.specs.declared.stop.Stop.{Stop}
use Rattle.gd_lexer.specs.declared.stop.Stop.TheVariants.{Fault, NoMemory}

-- it is the fault by this rule at this place, and this holds
abbrev pub IsFaultAt : Pos → Rule → Type 0 → Stop → Type 0
IsFaultAt pos rule cause (Fault f) = (f.pos ≡ pos) × (f.rule ≡ rule) × cause
IsFaultAt pos rule cause NoMemory = Unit {0}

-- it is that fault
abbrev pub StandsAt : Pos → Rule → Stop → Type 0
StandsAt pos rule (Fault f) = (f.pos ≡ pos) × (f.rule ≡ rule)
StandsAt pos rule NoMemory = ⊥
