-- Which bytes of a file its tokens and its comments are.
use Rattle.std.specs.Prelude.{◌≡◌, ℕ, ◌+◌, ◌⊎◌, List, [], ◌∷◌, ◌++◌, length, map}
use Rattle.std.specs.Char.{len_utf8}
use Rattle.std.specs.List.{sum_by}
use Rattle.gd_syntax.specs.declared.token.Token.{Token}
use Rattle.gd_syntax.specs.declared.token.TokenKind.{TokenKind}
use Rattle.gd_syntax.specs.declared.token.TokenKind.TheVariants as kinds
use Rattle.gd_lexis.specs.declared.glyph.Glyph.{Glyph}
use Rattle.gd_lexis.specs.declared.glyph.Glyph.TheVariants.{Char, Bad}
use Rattle.gd_lexis.specs.Chars.{IsFile, place_behind}
use Rattle.gd_lexis.specs.Pieces.{Piece, Comment, Tok, text_of, Stands, IsCut}

-- the number of a glyph's bytes
abbrev pub width : Glyph → ℕ
width (Char c) = len_utf8 c
width (Bad b) = 1

-- the number of the bytes of these glyphs
abbrev pub size : List Glyph → ℕ
size = sum_by width

-- These are the glyphs of the file, and their bytes begin with this one: the first, or that behind a byte order mark.
abbrev pub IsFileFrom : List ℕ → ℕ → List Glyph → Type 0
IsFileFrom bytes first glyphs = IsFile bytes glyphs × (first + size glyphs ≡ length bytes)

-- The bytes from `start` to before `end`.
pub record Extent : Type 0 where
  pub start : ℕ
  pub end : ℕ

-- the bytes of this text, of which the first is the byte `start`
abbrev pub extent : ℕ → List Glyph → Extent
extent start text = record { start = start; end = start + size text }

-- ---- comments

-- the bytes of the comments, each from its `#` on, among pieces of which the first begins with this byte
abbrev pub comments_in : ℕ → List Piece → List Extent
comments_in at [] = []
comments_in at (Comment cs ∷ ps) = extent at (text_of (Comment cs)) ∷ comments_in (at + size (text_of (Comment cs))) ps
comments_in at (p ∷ ps) = comments_in (at + size (text_of p)) ps

-- The file is cut into pieces, and these are the bytes of the comments among them, in order.
pub record AreComments (bytes : List ℕ) (comments : List Extent) : Type 0 where
  pub glyphs : List Glyph
  pub first : ℕ
  pub file : IsFileFrom bytes first glyphs
  pub pieces : List Piece
  pub cut : IsCut glyphs pieces []
  pub comments_are : comments ≡ comments_in first pieces

-- ---- tokens

-- What spells a token of this kind before what is left: a line feed, or the end of the file, spells Newline, nothing spells
-- Indent, Dedent and End, and the longest text that writes a token spells any other.
abbrev pub Spells : TokenKind → List Glyph → List Glyph → Type 0
Spells kinds.Newline text rest = (text ≡ Char 10 ∷ []) ⊎ ((text ≡ []) × (rest ≡ []))
Spells kinds.Indent text rest = text ≡ []
Spells kinds.Dedent text rest = text ≡ []
Spells kinds.End text rest = text ≡ []
Spells kind text rest = (cs : List ℕ) × (text ≡ map Char cs) × Stands (Tok kind cs) rest

-- In the file of this number, whose glyphs begin with the byte `first`, the token is spelled at its place, by these bytes.
pub record IsSpelled (file first : ℕ) (glyphs : List Glyph) (token : Token) (bytes : Extent) : Type 0 where
  pub before : List Glyph
  pub text : List Glyph
  pub rest : List Glyph
  pub split : glyphs ≡ before ++ text ++ rest
  pub place : token.pos ≡ place_behind file before
  pub spells : Spells token.kind text rest
  pub bytes_are : bytes ≡ extent (first + size before) text
