-- The tokens that were found so far.
use Rattle.std.specs.Prelude.{◌≡◌, ℕ, ◌≤◌, ◌++◌, List, [], ◌∷◌, All, AllPairs}
use Rattle.gd_syntax.specs.declared.pos.Pos.{Pos}
use Rattle.gd_syntax.specs.declared.token.Token.{Token}
use Rattle.gd_syntax.specs.declared.token.TokenKind.{TokenKind}
use Rattle.gd_syntax.specs.declared.token.TokenKind.TheVariants.{End}
use Rattle.gd_lexer.specs.declared.found.Span.{Span}
use Rattle.gd_lexer.specs.Follows.{IsAtMost}

pub record FoundList : Type 0 where
  pub tokens : List Token
  pub spans : List Span
  pub comments : List Span
  -- the place of the last token, or the file's start
  pub last : Pos

abbrev pub IsNotEnd : TokenKind → Type 0
IsNotEnd End = ⊥
IsNotEnd _ = Unit {0}

-- a token of this file, at a line and a column from 1
abbrev pub IsOfFile : ℕ → Token → Type 0
IsOfFile file t = (t.pos.file ≡ file) × (1 ≤ t.pos.line) × (1 ≤ t.pos.column)

-- tokens before the end of a file, in order up to this place
pub record AreUpTo (tokens : List Token) (last : Pos) : Type 0 where
  pub rising : AllPairs (λ a b. IsAtMost a.pos b.pos) tokens
  pub before : All (λ t. IsAtMost t.pos last) tokens
  pub of_file : All (IsOfFile last.file) tokens
  pub unended : All (λ t. IsNotEnd t.kind) tokens

-- the tokens of a whole file: their places rise, and the last is the only End
pub record AreWhole (file : ℕ) (tokens : List Token) : Type 0 where
  pub rising : AllPairs (λ a b. IsAtMost a.pos b.pos) tokens
  pub of_file : All (IsOfFile file) tokens
  pub ended : (front : List Token) × (pos : Pos) × All (λ t. IsNotEnd t.kind) front × (tokens ≡ front ++ record { pos = pos; kind = End } ∷ [])
