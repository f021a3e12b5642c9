-- Which functions have too many tokens.
use Rattle.std.specs.Prelude.{ℕ, nat_lt, if◌then◌else◌, Option, None, Some}
use Rattle.gd_syntax.specs.declared.pos.Pos.{Pos}

-- the place of a name, where what has the name has more tokens than 65,536
abbrev pub too_long : ℕ → Pos → Option Pos
too_long tokens place = if nat_lt 65536 tokens then Some place else None
