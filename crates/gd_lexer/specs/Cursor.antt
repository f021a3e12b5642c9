-- What a cursor shows: the glyphs that are left, and where they begin.
use Rattle.std.specs.Prelude.{◌≡◌, ◌++◌, ℕ, ◌+◌, ◌-◌, ◌==◌, ◌&&◌, Bool, false, if◌then◌else◌, List, [], ◌∷◌, length, drop, slice_index, slice_get, Option, Some, None}
use Rattle.gd_syntax.specs.declared.pos.Pos.{Pos}
use Rattle.gd_lexis.specs.declared.glyph.Glyph.{Glyph}
use Rattle.gd_lexis.specs.declared.glyph.Glyph.TheVariants.{Char, Bad}
use Rattle.gd_lexis.specs.Chars.{place_behind}
use Rattle.gd_lexis.specs.Lexemes.{width}
use Rattle.gd_lexer.specs.Glyphs.{glyphs}

pub record Spot : Type 0 where
  pub glyphs : List Glyph
  -- the number of bytes from here on
  pub left : ℕ
  -- the number of bytes before
  pub offset : ℕ
  pub pos : Pos

-- The place after a character: a line feed ends its line.
abbrev pub after_char : ℕ → Pos → Pos
after_char c p = if c == 10 then record { file = p.file; line = p.line + 1; column = 1 } else record { file = p.file; line = p.line; column = p.column + 1 }

abbrev pub after_glyph : Glyph → Pos → Pos
after_glyph (Char c) p = after_char c p
after_glyph (Bad b) p = record { file = p.file; line = p.line; column = p.column + 1 }

-- the spot behind the first of these glyphs
abbrev pub advanced_over : List Glyph → Spot → Spot
advanced_over [] s = s
advanced_over (g ∷ gs) s = record { glyphs = gs; left = s.left - width g; offset = s.offset + width g; pos = after_glyph g s.pos }

unfoldable pub advanced : Spot → Spot
advanced s = advanced_over s.glyphs s

-- the bytes begin with a byte order mark
abbrev pub has_mark : List ℕ → Bool
has_mark bs = slice_index bs 0 == 239 && slice_index bs 1 == 187 && slice_index bs 2 == 191

abbrev pub start_pos : ℕ → Pos
start_pos file = record { file = file; line = 1; column = 1 }

abbrev pub mark_len : List ℕ → ℕ
mark_len bs = if has_mark bs then 3 else 0

-- the start of a file
abbrev pub start_of : ℕ → List ℕ → Spot
start_of file bs = record { glyphs = glyphs (drop (mark_len bs) bs); left = length (drop (mark_len bs) bs); offset = mark_len bs; pos = start_pos file }

-- Behind some of the file's glyphs stand those that the spot shows, and its place is the one behind them.
abbrev pub IsAt : ℕ → List Glyph → Spot → Type 0
IsAt file all s = (before : List Glyph) × (all ≡ before ++ s.glyphs) × (s.pos ≡ place_behind file before)

-- the glyph is this character
abbrev pub is_char : Option Glyph → ℕ → Bool
is_char None c = false
is_char (Some (Bad b)) c = false
is_char (Some (Char d)) c = d == c

-- this character stands at the place
abbrev pub sees : ℕ → List Glyph → ℕ → Bool
sees c gs at = is_char (slice_get gs at) c
