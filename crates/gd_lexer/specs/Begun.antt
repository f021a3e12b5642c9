-- The tokens of a file that is read up to some piece.
use Rattle.std.specs.Prelude.{ℕ, Bool, List, [], ◌∷◌, ◌++◌, flat_map, if◌then◌else◌}
use Rattle.gd_syntax.specs.declared.pos.Pos.{Pos}
use Rattle.gd_syntax.specs.declared.token.Token.{Token}
use Rattle.gd_syntax.specs.declared.token.TokenKind.TheVariants as kinds
use Rattle.gd_lexis.specs.declared.glyph.Glyph.{Glyph}
use Rattle.gd_lexis.specs.declared.glyph.Glyph.TheVariants.{Char}
use Rattle.gd_lexis.specs.Chars.{place_behind}
use Rattle.gd_lexis.specs.Pieces.{Piece}
use Rattle.gd_lexis.specs.Lines.{parted, is_logical, lead, depth, open_blocks, texts, token, tokens_in, turn, tokens_if_logical, blocks_after}

-- the lines that are whole
abbrev pub whole : List Piece → List (List Piece)
whole pieces = (parted pieces).whole

-- the line that is read
abbrev pub line : List Piece → List Piece
line pieces = (parted pieces).rest

-- the blocks that are open behind the whole lines
abbrev pub blocks : List Piece → List ℕ
blocks pieces = open_blocks (whole pieces)

-- the glyphs of whole lines, with their ends
abbrev pub glyphs_of : List (List Piece) → List Glyph
glyphs_of = flat_map (λ line. texts line ++ Char 10 ∷ [])

-- the tokens of whole lines that stand behind these glyphs, where these blocks are open
abbrev pub laid_whole : ℕ → List Glyph → List ℕ → List (List Piece) → List Token
laid_whole file before blocks [] = []
laid_whole file before blocks (line ∷ lines) =
    tokens_if_logical file before blocks line ++ laid_whole file (before ++ texts line ++ Char 10 ∷ []) (blocks_after blocks line) lines

-- the tokens of a line so far
abbrev pub begun_line : ℕ → List Glyph → List ℕ → List Piece → List Token
begun_line file before blocks line =
    if is_logical line then turn (place_behind file (before ++ texts (lead line))) blocks (depth line) ++ tokens_in file before line else []

-- the tokens so far
abbrev pub begun : ℕ → List Piece → List Token
begun file pieces = laid_whole file [] [] (whole pieces) ++ begun_line file (glyphs_of (whole pieces)) (blocks pieces) (line pieces)

-- Newline, if the line has a token
abbrev pub newline_if : Bool → Pos → List Token
newline_if b at = if b then token at kinds.Newline ∷ [] else []
