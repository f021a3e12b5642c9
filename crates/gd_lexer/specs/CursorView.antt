-- How a cursor keeps its spot.
use Rattle.std.specs.Prelude.{◌+◌, ◌≤◌, length}
use Rattle.gd_lexer.specs.declared.cursor.Cursor.TheInside.{Inside}
use Rattle.gd_lexer.specs.Glyphs.{glyphs}
use Rattle.gd_lexer.specs.Cursor.{Spot}

abbrev pub spot_of : Inside → Spot
spot_of c = record { glyphs = glyphs c.rest.now; left = length c.rest.now; offset = c.offset; pos = c.pos }

-- the place is one of the file
abbrev pub IsInFile : Inside → Type 0
IsInFile c =
    (c.offset + length c.rest.now ≤ 1_048_576) × (1 ≤ c.pos.line) × (c.pos.line ≤ c.offset + 1) × (1 ≤ c.pos.column) × (c.pos.column ≤ c.offset + 1)
