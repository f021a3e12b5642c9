-- Tokens and comments with their bytes.
use Rattle.std.specs.Prelude.{ℕ, List, map, All}
use Rattle.gd_syntax.specs.declared.token.Token.{Token}
use Rattle.gd_lexis.specs.declared.glyph.Glyph.{Glyph}
use Rattle.gd_lexis.specs.Lexemes.{Extent, IsFileFrom, IsSpelled}
use Rattle.gd_lexer.specs.declared.spelled.Lexeme.{Lexeme}
use Rattle.gd_lexer.specs.declared.spelled.Comment.{Comment}

abbrev pub tokens_of : List Lexeme → List Token
tokens_of = map (λ l. l.token)

abbrev pub bytes_of : Lexeme → Extent
bytes_of l = record { start = l.start; end = l.end }

abbrev pub comments_of : List Comment → List Extent
comments_of = map (λ c. record { start = c.start; end = c.end })

-- In the file of this number and these bytes each token is spelled by its own bytes.
pub record AreSpelled (file : ℕ) (bytes : List ℕ) (lexemes : List Lexeme) : Type 0 where
  pub glyphs : List Glyph
  pub first : ℕ
  pub file_is : IsFileFrom bytes first glyphs
  pub each : All (λ l. IsSpelled file first glyphs l.token (bytes_of l)) lexemes
