-- What the glyphs of a file are cut into (docs/language.md, "Between tokens").
use Rattle.std.specs.Prelude.{◌≡◌, ◌≢◌, ℕ, pos, ◌<◌, ◌^◌, ◌⊎◌, List, [], ◌∷◌, ◌++◌, length, map, All}
use Rattle.gd_syntax.specs.declared.token.TokenKind.{TokenKind}
use Rattle.gd_syntax.specs.declared.token.TokenKind.TheVariants as kinds
use Rattle.gd_syntax.specs.declared.token.Keyword.{Keyword}
use Rattle.gd_lexis.specs.declared.glyph.Glyph.{Glyph}
use Rattle.gd_lexis.specs.declared.glyph.Glyph.TheVariants.{Char}
use Rattle.gd_lexis.specs.Words.{IsName, IsFloatName, GoesOn, keyword_text, mark_text}
use Rattle.gd_lexis.specs.Numbers.{WritesNumber, WritesDecimal, IsDigit}
use Rattle.gd_lexis.specs.Strings.{WritesString, Quote, opening, closing}

-- The text writes a token of this kind. Newline, Indent, Dedent and End have no text.
abbrev pub Writes : TokenKind → List ℕ → Type 0
Writes (kinds.Word name) text = IsName text × (name ≡ text) × ((k : Keyword) → text ≢ keyword_text k)
Writes (kinds.Keyword k) text = text ≡ keyword_text k
Writes (kinds.Number n) text = (v : ℕ) × WritesNumber text v × (n ≡ pos v)
Writes (kinds.Quoted t) text = WritesString text t
Writes (kinds.Mark m) text = text ≡ mark_text m
Writes _ text = ⊥

pub data Piece : Type 0 where
  -- a space, a tab, or a carriage return before its line feed
  Blank : ℕ → Piece
  LineFeed : Piece
  -- the line end behind a backslash
  Join : List ℕ → Piece
  -- what a comment has behind its `#`
  Comment : List ℕ → Piece
  -- a token and its text
  Tok : TokenKind → List ℕ → Piece

abbrev pub text_of : Piece → List Glyph
text_of (Blank c) = Char c ∷ []
text_of LineFeed = Char 10 ∷ []
text_of (Join end) = map Char (92 ∷ end)
text_of (Comment cs) = map Char (35 ∷ cs)
text_of (Tok kind text) = map Char text

-- the glyphs begin with these characters
abbrev pub BeginsWith : List ℕ → List Glyph → Type 0
BeginsWith cs gs = (rest : List Glyph) × (gs ≡ map Char cs ++ rest)

-- the glyphs begin with a character of which this holds
abbrev pub BeginsBy : (ℕ → Type 0) → List Glyph → Type 0
BeginsBy P gs = (c : ℕ) × P c × BeginsWith (c ∷ []) gs

abbrev pub IsLineEnd : List ℕ → Type 0
IsLineEnd cs = (cs ≡ 10 ∷ []) ⊎ (cs ≡ 13 ∷ 10 ∷ [])

-- no text that the glyphs begin with and that is longer writes a token
abbrev pub IsLongest : List ℕ → List Glyph → Type 0
IsLongest text gs = (longer : List ℕ) (kind : TokenKind) → length text < length longer → BeginsWith longer gs → Writes kind longer → ⊥

-- The token has no fault of its own. A name is no float's, and no `r` that opens a string; a number is within the limit,
-- with no letter, digit or `_` directly behind it and, if it is decimal, no dot; a dot is not before a digit; and an empty
-- string is not the front of three quotes.
abbrev pub IsClear : TokenKind → List ℕ → List Glyph → Type 0
IsClear (kinds.Word name) text rest = (IsFloatName text → ⊥) × (text ≡ 114 ∷ [] → BeginsBy (λ c. (c ≡ 34) ⊎ (c ≡ 39)) rest → ⊥)
IsClear (kinds.Number n) text rest =
    ((v : ℕ) → WritesNumber text v → v < 2 ^ 63) × (BeginsBy GoesOn rest → ⊥) × ((v : ℕ) → WritesDecimal text v → BeginsWith (46 ∷ []) rest → ⊥)
IsClear (kinds.Mark m) text rest = text ≡ 46 ∷ [] → BeginsBy (IsDigit 10) rest → ⊥
IsClear (kinds.Quoted t) text rest = (q : Quote) → q.count ≡ 1 → text ≡ opening q ++ closing q → BeginsWith (q.mark ∷ []) rest → ⊥
IsClear _ text rest = Unit {0}

-- The piece can stand before what is left: a carriage return before its line feed, a comment up to the end of its line, a
-- token where none that is longer begins.
abbrev pub Stands : Piece → List Glyph → Type 0
Stands (Blank c) rest = (c ≡ 32) ⊎ ((c ≡ 9) ⊎ ((c ≡ 13) × BeginsWith (10 ∷ []) rest))
Stands LineFeed rest = Unit {0}
Stands (Join end) rest = IsLineEnd end
Stands (Comment cs) rest =
    All (λ c. c ≢ 10) cs × ((rest ≡ []) ⊎ BeginsWith (10 ∷ []) rest)
    × ((front : List ℕ) (back : List ℕ) → cs ≡ front ++ 13 ∷ back → (back ≡ []) × BeginsWith (10 ∷ []) rest)
Stands (Tok kind text) rest = Writes kind text × IsLongest text (map Char text ++ rest) × IsClear kind text rest

-- The texts of the pieces, in order, are these glyphs up to a rest.
abbrev pub IsCut : List Glyph → List Piece → List Glyph → Type 0
IsCut gs [] rest = gs ≡ rest
IsCut gs (p ∷ ps) rest = (more : List Glyph) × (gs ≡ text_of p ++ more) × Stands p more × IsCut more ps rest
