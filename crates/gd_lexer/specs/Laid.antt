-- What was read of a file so far: its pieces, their tokens, and what is kept of their lines.
use Rattle.std.specs.Prelude.{◌≡◌, ℕ, ◌≤◌, ◌⊎◌, true, List, [], All, IfSome, None}
use Rattle.gd_syntax.specs.declared.token.Token.{Token}
use Rattle.gd_lexis.specs.declared.glyph.Glyph.{Glyph}
use Rattle.gd_lexis.specs.Chars.{place_behind}
use Rattle.gd_lexis.specs.Pieces.{Piece, IsCut}
use Rattle.gd_lexis.specs.Lines.{lines_of, is_logical, depth, texts, blocks_after, laid}
use Rattle.gd_lexis.specs.Items.{items}
use Rattle.gd_lexis.specs.Lexes.{IsWithin, AreBlocks, IndentBy}
use Rattle.gd_lexer.specs.declared.lines.Lines.{Lines}
use Rattle.gd_lexer.specs.declared.lexer.Lexer.{Lexer}
use Rattle.gd_lexer.specs.Cursor.{Spot}
use Rattle.gd_lexer.specs.Brackets.{items_of}
use Rattle.gd_lexer.specs.Begun.{line, blocks, begun}
use Rattle.gd_lexer.specs.Blanks.{AreOf, IsMixed, blanks_of, blanks_so_far}

-- What is kept of the lines of these pieces: whether the line that is read has a token, its level, the open blocks, by what
-- the logical lines are indented, and by what they are with this line, or its first blank of the other kind.
pub record AreLines (file : ℕ) (pieces : List Piece) (lines : Lines) : Type 0 where
  pub has_token : lines.is_open ≡ is_logical (line pieces)
  pub level : lines.lead.level ≡ depth (line pieces)
  pub open_blocks : lines.blocks ≡ blocks_after (blocks pieces) (line pieces)
  pub settled : AreOf lines.kind (blanks_of (lines_of pieces))
  pub kind : lines.lead.mixed ≡ None → AreOf lines.lead.kind (blanks_so_far pieces)
  pub mixed : IfSome lines.lead.mixed (IsMixed file pieces)

-- Up to this spot the file's glyphs are cut into pieces, and these are the items of the line that is read, what is kept of
-- the lines, and the tokens. No bound is passed.
pub record IsLaid (file : ℕ) (all : List Glyph) (spot : Spot) (running : List ℕ) (lines : Lines) (tokens : List Token) : Type 0 where
  pub pieces : List Piece
  pub cut : IsCut all pieces spot.glyphs
  pub place : spot.pos ≡ place_behind file (texts pieces)
  pub running_are : running ≡ items (line pieces)
  pub lines_are : AreLines file pieces lines
  pub tokens_are : tokens ≡ begun file pieces
  pub within : All IsWithin (lines_of pieces)
  pub matched : AreBlocks (lines_of pieces)

-- it is so unless a stray character was put off
abbrev pub Holds : ℕ → List Glyph → Lexer → Type 0
Holds file all l = l.lines.lead.hidden ≡ None → IsLaid file all l.cursor (items_of l.brackets) l.lines l.found.tokens

-- it stays so
abbrev pub Reads : Lexer → Lexer → Type 0
Reads old new = (file : ℕ) (all : List Glyph) → Holds file all old → Holds file all new

-- What is kept of the line that is read: once it has a token, its blanks are of one kind, a stray character is put off only
-- behind a blank of the other kind, and each blank had a byte.
pub record IsKept (l : Lexer) : Type 0 where
  pub settled : l.lines.is_open ≡ true → l.lines.lead.mixed ≡ None
  pub put_off : l.lines.lead.mixed ≡ None → l.lines.lead.hidden ≡ None
  pub short : l.lines.lead.level ≤ l.cursor.offset

-- The whole of these glyphs is cut into pieces whose lines keep all bounds, and these are their tokens.
pub record AreLaid (file : ℕ) (all : List Glyph) (tokens : List Token) : Type 0 where
  pub pieces : List Piece
  pub cut : IsCut all pieces []
  pub within : All IsWithin (lines_of pieces)
  pub matched : AreBlocks (lines_of pieces)
  pub indented : IndentBy 32 (lines_of pieces) ⊎ IndentBy 9 (lines_of pieces)
  pub tokens_are : tokens ≡ laid file [] [] (lines_of pieces)
