-- How often what is known of an instruction can still change.
use Rattle.std.specs.Prelude.{ℕ}
use Rattle.gd_bytecode.specs.declared.shapes.Mark.{Mark}
use Rattle.gd_bytecode.specs.declared.shapes.Mark.TheVariants.{Unreached, At, Differs}

abbrev pub left : Mark → ℕ
left Unreached = 2
left (At s) = 1
left Differs = 0
