-- One spot of a file is at or behind another.
use Rattle.std.specs.Prelude.{◌≡◌, ℕ, ◌+◌, ◌<◌, ◌≤◌, ◌⊎◌, length, List}
use Rattle.gd_syntax.specs.declared.pos.Pos.{Pos}
use Rattle.gd_lexis.specs.declared.glyph.Glyph.{Glyph}
use Rattle.gd_lexis.specs.Lexemes.{size}
use Rattle.gd_lexer.specs.Cursor.{Spot, IsAt}

-- a place is the other, or stands before it
abbrev pub IsAtMost : Pos → Pos → Type 0
IsAtMost a b = (a.line < b.line) ⊎ ((a.line ≡ b.line) × (a.column ≤ b.column))

pub record Follows (old new : Spot) : Type 0 where
  pub fewer : length new.glyphs ≤ length old.glyphs
  -- a glyph has at least a byte
  pub wide : length old.glyphs + old.offset ≤ length new.glyphs + new.offset
  pub whole : new.offset + new.left ≡ old.offset + old.left
  pub bytes : new.offset + size new.glyphs ≡ old.offset + size old.glyphs
  pub later : IsAtMost old.pos new.pos
  pub file : new.pos.file ≡ old.pos.file
  -- both are of one file, and the new place is that behind all that was gone over
  pub place : (file : ℕ) (all : List Glyph) → IsAt file all old → IsAt file all new
