-- The tokens of a file.
use Rattle.std.specs.Prelude.{◌≡◌, ℕ, ◌≤◌, ◌⊎◌, true, List, [], ◌∷◌, ◌++◌, length, All}
use Rattle.gd_syntax.specs.declared.token.Token.{Token}
use Rattle.gd_lexis.specs.declared.glyph.Glyph.{Glyph}
use Rattle.gd_lexis.specs.Chars.{IsFile}
use Rattle.gd_lexis.specs.Pieces.{Piece, Blank, IsCut}
use Rattle.gd_lexis.specs.Lines.{lines_of, laid, level, depth, is_logical, is_indentation, open_blocks, kept, innermost, lead}
use Rattle.gd_lexis.specs.Items.{items}

-- in each line at most so many brackets are open at once, and no item has more tokens
abbrev pub IsWithin : List Piece → Type 0
IsWithin line = (front : List Piece) (back : List Piece) → line ≡ front ++ back → (level front ≤ 32) × All (λ n. n ≤ 100) (items front)

-- a line's level is that of an open block, or 0, or above all of them
abbrev pub IsMatched : List ℕ → ℕ → Type 0
IsMatched blocks d = (innermost (kept d blocks) ≡ d) ⊎ (length (kept d blocks) ≡ length blocks)

-- behind each logical line at most 32 blocks are open, and its level matches the blocks before it
abbrev pub AreBlocks : List (List Piece) → Type 0
AreBlocks lines =
    (front : List (List Piece)) (line : List Piece) (back : List (List Piece)) → lines ≡ front ++ line ∷ back → is_logical line ≡ true
    → IsMatched (open_blocks front) (depth line) × (length (open_blocks (front ++ line ∷ [])) ≤ 32)

-- every blank before the first token of a logical line is of one kind, in the whole file
abbrev pub IndentBy : ℕ → List (List Piece) → Type 0
IndentBy c lines = All (λ line. is_logical line ≡ true → All (λ p. is_indentation p ≡ true → p ≡ Blank c) (lead line)) lines

-- These are the tokens of the bytes of the file with this number.
pub record Lexes (file : ℕ) (bytes : List ℕ) (tokens : List Token) : Type 0 where
  pub glyphs : List Glyph
  pub read : IsFile bytes glyphs
  pub pieces : List Piece
  pub cut : IsCut glyphs pieces []
  pub within : All IsWithin (lines_of pieces)
  pub blocks : AreBlocks (lines_of pieces)
  pub indented : IndentBy 32 (lines_of pieces) ⊎ IndentBy 9 (lines_of pieces)
  pub tokens_are : tokens ≡ laid file [] [] (lines_of pieces)
