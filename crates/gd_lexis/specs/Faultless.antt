-- A file of which no rule is broken before some place, and what stands there.
use Rattle.std.specs.Prelude.{◌≡◌, ◌≢◌, ℕ, ◌⊎◌, true, false, List, [], ◌∷◌, ◌++◌, map, All}
use Rattle.gd_syntax.specs.declared.token.TokenKind.{TokenKind}
use Rattle.gd_rules.specs.declared.rule.Rule.{Rule}
use Rattle.gd_rules.specs.declared.rule.Rule.TheVariants as rules
use Rattle.gd_lexis.specs.declared.glyph.Glyph.{Glyph}
use Rattle.gd_lexis.specs.declared.glyph.Glyph.TheVariants.{Char, Bad}
use Rattle.gd_lexis.specs.Chars.{IsFile}
use Rattle.gd_lexis.specs.Strings.{Quote, IsEscape}
use Rattle.gd_lexis.specs.Pieces.{Piece, Blank, Tok, Stands, IsCut}
use Rattle.gd_lexis.specs.Lines.{lines_of, lead, is_indentation, is_logical, depth}
use Rattle.gd_lexis.specs.Lexes.{IsWithin, AreBlocks, IndentBy, IsMatched}
use Rattle.gd_lexis.specs.Faults.{HasToken, IsWhole, line, blocks}

-- the blanks before the first token of the line are of this kind
abbrev pub IsLedBy : ℕ → List Piece → Type 0
IsLedBy c line = All (λ p. is_indentation p ≡ true → p ≡ Blank c) (lead line)

-- The file is cut into these pieces and what is left, and the pieces keep all bounds. The line that goes on is led by
-- blanks of the file's kind if it has a token, be it one that is still to come.
pub record IsFaultless (bytes : List ℕ) (before : List Piece) (gs : List Glyph) : Type 0 where
  pub glyphs : List Glyph
  pub read : IsFile bytes glyphs
  pub cut : IsCut glyphs before gs
  pub within : All IsWithin (lines_of before)
  pub matched : AreBlocks (lines_of before)
  pub blank : ℕ
  pub indented : IndentBy blank (lines_of before)
  pub led : HasToken gs → IsLedBy blank (line before)

-- a token that comes next matches the open blocks, if it is the first of its line
abbrev pub IsFitting : List Piece → Type 0
IsFitting before = is_logical (line before) ≡ false → IsMatched (blocks before) (depth (line before))

-- a token stands here, or a string begins that ends
abbrev pub IsReadable : List Glyph → Type 0
IsReadable gs =
    ((kind : TokenKind) × (text : List ℕ) × (rest : List Glyph) × (gs ≡ map Char text ++ rest) × Stands (Tok kind text) rest)
    ⊎ ((q : Quote) × (body : List Glyph) × (rest : List Glyph) × IsWhole q body rest gs)

-- The front of what stands between the ends of a string, up to its first fault: characters that stand for themselves,
-- and whole escapes, or in a raw string any characters.
pub data Clean (q : Quote) : List Glyph → Type 0 where
  no_more : Clean q []
  itself : (c : ℕ) (gs : List Glyph) → c ≢ 92 → Clean q gs → Clean q (Char c ∷ gs)
  whole_escape : (e s : List ℕ) (gs : List Glyph) → q.is_raw ≡ false → IsEscape e s → Clean q gs → Clean q (map Char e ++ gs)
  in_raw : (c : ℕ) (gs : List Glyph) → q.is_raw ≡ true → Clean q gs → Clean q (Char c ∷ gs)

-- with this glyph the rule can be broken in a comment
abbrev pub IsCommentFault : Rule → Glyph → Type 0
IsCommentFault rules.NotUtf8 g = (b : ℕ) × (g ≡ Bad b)
IsCommentFault rules.StrayCharacter g = g ≡ Char 13
IsCommentFault _ g = ⊥

-- with this glyph the rule can be broken in a string
abbrev pub IsStringFault : Rule → Glyph → Type 0
IsStringFault rules.NotUtf8 g = (b : ℕ) × (g ≡ Bad b)
IsStringFault rules.BadEscape g = g ≡ Char 92
IsStringFault _ g = ⊥

-- the line has a token from the one place on where it has one from the other
abbrev pub IsAsFar : List Glyph → List Glyph → Type 0
IsAsFar gs hs = (HasToken gs → HasToken hs) × (HasToken hs → HasToken gs)
