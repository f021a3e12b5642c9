-- What is noted of the bytes of a file: which of them are its tokens and its comments.
use Rattle.std.specs.Prelude.{◌≡◌, ℕ, ◌+◌, Bool, List, [], ◌∷◌, ◌++◌, map, None, if◌then◌else◌}
use Rattle.gd_syntax.specs.declared.pos.Pos.{Pos}
use Rattle.gd_syntax.specs.declared.token.Token.{Token}
use Rattle.gd_lexis.specs.declared.glyph.Glyph.{Glyph}
use Rattle.gd_lexis.specs.Chars.{place_behind}
use Rattle.gd_lexis.specs.Pieces.{Piece, IsCut}
use Rattle.gd_lexis.specs.Lexemes.{Extent, size, comments_in, IsFileFrom, IsSpelled}
use Rattle.gd_lexer.specs.declared.found.Span.{Span}
use Rattle.gd_lexer.specs.declared.found.Whole.{Whole}
use Rattle.gd_lexer.specs.declared.lexer.Lexer.{Lexer}
use Rattle.gd_lexer.specs.Cursor.{Spot, IsAt}
use Rattle.gd_lexer.specs.Found.{FoundList}

abbrev pub extent_of : Span → Extent
extent_of s = record { start = s.start; end = s.end }

-- The spot stands at its byte among the file's glyphs, which begin with the byte `first`.
abbrev pub IsFrom : ℕ → List Glyph → Spot → Type 0
IsFrom first all s = s.offset + size s.glyphs ≡ first + size all

-- Up to a rest the file's glyphs are cut into pieces, and these are the bytes of the comments among them.
pub record AreNoted (first : ℕ) (all rest : List Glyph) (comments : List Span) : Type 0 where
  pub pieces : List Piece
  pub cut : IsCut all pieces rest
  pub comments_are : map extent_of comments ≡ comments_in first pieces

-- each token is spelled by its bytes
abbrev pub AreSpelledBy : ℕ → ℕ → List Glyph → List Token → List Span → Type 0
AreSpelledBy file first all [] [] = Unit {0}
AreSpelledBy file first all (t ∷ ts) (s ∷ ss) = IsSpelled file first all t (extent_of s) × AreSpelledBy file first all ts ss
AreSpelledBy file first all tokens spans = ⊥

-- What is noted of the file before the spot that is read: the bytes of the tokens, and unless a stray character was put off
-- those of the comments.
pub record Notes (file first : ℕ) (all : List Glyph) (l : Lexer) : Type 0 where
  pub at : IsAt file all l.cursor
  pub from : IsFrom first all l.cursor
  pub tokens : AreSpelledBy file first all l.found.tokens l.found.spans
  pub comments : l.lines.lead.hidden ≡ None → AreNoted first all l.cursor.glyphs l.found.comments

-- it stays so
abbrev pub KeepsNotes : Lexer → Lexer → Type 0
KeepsNotes old new = (file first : ℕ) (all : List Glyph) → Notes file first all old → Notes file first all new

-- The place and the byte are those behind some of the file's glyphs.
abbrev pub IsHere : ℕ → ℕ → List Glyph → Pos → ℕ → Type 0
IsHere file first all pos at =
    (before : List Glyph) × (rest : List Glyph) × (all ≡ before ++ rest) × (pos ≡ place_behind file before) × (at ≡ first + size before)

-- tokens that came at this place, before this byte, are spelled there
abbrev pub KeepsSpelled : Pos → ℕ → FoundList → FoundList → Type 0
KeepsSpelled pos at old new =
    (file first : ℕ) (all : List Glyph) → IsHere file first all pos at → AreSpelledBy file first all old.tokens old.spans → AreSpelledBy file first all new.tokens new.spans

-- the bytes of Newline, if the line has a token
abbrev pub span_if : Bool → Span → List Span
span_if b span = if b then span ∷ [] else []

-- The bytes of all tokens and comments of the file are noted.
pub record IsNoted (file first : ℕ) (all : List Glyph) (w : Whole) : Type 0 where
  pub tokens : AreSpelledBy file first all w.tokens.items w.spans.items
  pub comments : AreNoted first all [] w.comments.items

-- so for the file with these bytes
pub record AreFileNotes (file : ℕ) (bytes : List ℕ) (w : Whole) : Type 0 where
  pub first : ℕ
  pub all : List Glyph
  pub file_is : IsFileFrom bytes first all
  pub noted : IsNoted file first all w
