-- Bracket levels, logical lines, and the blocks that they open and close (docs/language.md, "Brackets" and "Logical lines and blocks").
use Rattle.std.specs.Prelude.{ℕ, ◌+◌, ◌-◌, ◌==◌, ◌&&◌, ◌||◌, Bool, true, false, not, if◌then◌else◌, nat_le, nat_lt, List, [], ◌∷◌, ◌++◌, length, fold, filter, flat_map, replicate, slice_index}
use Rattle.std.specs.List.{list_any, take_while}
use Rattle.gd_syntax.specs.declared.pos.Pos.{Pos}
use Rattle.gd_syntax.specs.declared.token.Token.{Token}
use Rattle.gd_syntax.specs.declared.token.TokenKind.{TokenKind}
use Rattle.gd_syntax.specs.declared.token.TokenKind.TheVariants as kinds
use Rattle.gd_syntax.specs.declared.token.Mark.{Mark}
use Rattle.gd_syntax.specs.declared.token.Mark.TheVariants.{LeftParen, RightParen, LeftBracket, RightBracket, LeftBrace, RightBrace}
use Rattle.gd_lexis.specs.declared.glyph.Glyph.{Glyph}
use Rattle.gd_lexis.specs.declared.glyph.Glyph.TheVariants.{Char}
use Rattle.gd_lexis.specs.Chars.{place_behind}
use Rattle.gd_lexis.specs.Pieces.{Piece, Blank, LineFeed, Tok, text_of}

abbrev pub is_token : Piece → Bool
is_token (Tok kind text) = true
is_token _ = false

abbrev pub is_line_end : Piece → Bool
is_line_end LineFeed = true
is_line_end _ = false

abbrev pub is_opening : Mark → Bool
is_opening LeftParen = true
is_opening LeftBracket = true
is_opening LeftBrace = true
is_opening _ = false

abbrev pub is_closing : Mark → Bool
is_closing RightParen = true
is_closing RightBracket = true
is_closing RightBrace = true
is_closing _ = false

-- the bracket level behind a piece: subtraction stops at 0
abbrev pub level_behind : ℕ → Piece → ℕ
level_behind n (Tok (kinds.Mark m) text) = if is_opening m then n + 1 else (if is_closing m then n - 1 else n)
level_behind n _ = n

abbrev pub level : List Piece → ℕ
level = fold level_behind 0

-- The lines of a file's pieces: the line ends outside brackets part them. The first are whole, the last is the rest.
pub record Parted : Type 0 where
  pub whole : List (List Piece)
  pub rest : List Piece

abbrev pub parted_behind : Parted → Piece → Parted
parted_behind lines p =
    if is_line_end p && level lines.rest == 0 then record { whole = lines.whole ++ lines.rest ∷ []; rest = [] }
    else record { whole = lines.whole; rest = lines.rest ++ p ∷ [] }

abbrev pub parted : List Piece → Parted
parted = fold parted_behind (record { whole = []; rest = [] })

abbrev pub lines_of : List Piece → List (List Piece)
lines_of ps = (parted ps).whole ++ (parted ps).rest ∷ []

abbrev pub is_logical : List Piece → Bool
is_logical = list_any is_token

-- what stands before the first token
abbrev pub lead : List Piece → List Piece
lead = take_while (λ p. not (is_token p))

abbrev pub is_indentation : Piece → Bool
is_indentation (Blank c) = c == 32 || c == 9
is_indentation _ = false

-- the level of a logical line
abbrev pub depth : List Piece → ℕ
depth line = length (filter is_indentation (lead line))

-- the open blocks, by their levels, that a line of this level leaves open
abbrev pub kept : ℕ → List ℕ → List ℕ
kept d blocks = filter (λ b. nat_le b d) blocks

abbrev pub innermost : List ℕ → ℕ
innermost blocks = slice_index blocks (length blocks - 1)

-- the blocks that are open behind the beginning of a line of this level
abbrev pub blocks_behind : List ℕ → ℕ → List ℕ
blocks_behind blocks d = if d == innermost (kept d blocks) then kept d blocks else kept d blocks ++ d ∷ []

abbrev pub open_blocks : List (List Piece) → List ℕ
open_blocks lines = fold (λ blocks line. if is_logical line then blocks_behind blocks (depth line) else blocks) [] lines

-- ---- the tokens of lines

abbrev pub token : Pos → TokenKind → Token
token at kind = record { pos = at; kind = kind }

abbrev pub texts : List Piece → List Glyph
texts = flat_map text_of

-- the tokens of the pieces that stand behind these glyphs
abbrev pub tokens_in : ℕ → List Glyph → List Piece → List Token
tokens_in file before [] = []
tokens_in file before (Tok kind text ∷ ps) = token (place_behind file before) kind ∷ tokens_in file (before ++ text_of (Tok kind text)) ps
tokens_in file before (p ∷ ps) = tokens_in file (before ++ text_of p) ps

-- the blocks that end and begin at a line's first token
abbrev pub turn : Pos → List ℕ → ℕ → List Token
turn at blocks d =
    replicate (length blocks - length (kept d blocks)) (token at kinds.Dedent)
    ++ (if nat_lt (length (kept d blocks)) (length (blocks_behind blocks d)) then token at kinds.Indent ∷ [] else [])

abbrev pub tokens_of_line : ℕ → List Glyph → List ℕ → List Piece → List Token
tokens_of_line file before blocks line =
    turn (place_behind file (before ++ texts (lead line))) blocks (depth line)
    ++ tokens_in file before line
    ++ token (place_behind file (before ++ texts line)) kinds.Newline ∷ []

abbrev pub blocks_after : List ℕ → List Piece → List ℕ
blocks_after blocks line = if is_logical line then blocks_behind blocks (depth line) else blocks

abbrev pub tokens_if_logical : ℕ → List Glyph → List ℕ → List Piece → List Token
tokens_if_logical file before blocks line = if is_logical line then tokens_of_line file before blocks line else []

-- Dedents for the blocks that are open at the end, and End
abbrev pub last_tokens : Pos → List ℕ → List Token
last_tokens at blocks = replicate (length blocks) (token at kinds.Dedent) ++ token at kinds.End ∷ []

-- the tokens of lines that stand behind these glyphs, where these blocks are open
abbrev pub laid : ℕ → List Glyph → List ℕ → List (List Piece) → List Token
laid file before blocks [] = last_tokens (place_behind file before) blocks
laid file before blocks (line ∷ []) =
    tokens_if_logical file before blocks line ++ last_tokens (place_behind file (before ++ texts line)) (blocks_after blocks line)
laid file before blocks (line ∷ next ∷ lines) =
    tokens_if_logical file before blocks line ++ laid file (before ++ texts line ++ Char 10 ∷ []) (blocks_after blocks line) (next ∷ lines)
