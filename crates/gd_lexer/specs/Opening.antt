-- What a token makes of the blocks.
use Rattle.std.specs.Prelude.{◌≡◌, ℕ, ◌<◌, ◌-◌, Bool, true, false, List, [], ◌∷◌, ◌++◌, length, replicate, Option, Some, None}
use Rattle.gd_syntax.specs.declared.pos.Pos.{Pos}
use Rattle.gd_syntax.specs.declared.token.Token.{Token}
use Rattle.gd_syntax.specs.declared.token.TokenKind.TheVariants.{Indent, Dedent}
use Rattle.gd_lexis.specs.Lines.{kept, innermost, token}
use Rattle.gd_lexer.specs.declared.lexer.Lexer.{Lexer}
use Rattle.gd_lexer.specs.Lines.{KeepsLine}

-- Blocks above the level were closed, the innermost first, each with Dedent at this place.
pub record AreClosed (level : ℕ) (at : Pos) (old new : List ℕ) (before after : List Token) : Type 0 where
  pub front : (closed : List ℕ) × (old ≡ new ++ closed)
  pub same : kept level new ≡ kept level old
  pub dedents : after ≡ before ++ replicate (length old - length new) (token at Dedent)

-- The line has its first token: the file is indented as by the blanks before it, which are of one kind.
pub record BeginsLine (old new : Lexer) : Type 0 where
  pub one : old.lines.lead.mixed ≡ None
  pub kind : new.lines.kind ≡ old.lines.lead.kind
  pub lead : new.lines.lead ≡ old.lines.lead
  pub has_token : new.lines.is_open ≡ true
  pub brackets : new.brackets ≡ old.brackets

-- a block will begin, or those above the level of a block ended
abbrev pub Turns : Option ℕ → Pos → Lexer → Lexer → Type 0
Turns (Some level) at old new =
    (level ≡ old.lines.lead.level) × (innermost old.lines.blocks < level) × (new.lines.blocks ≡ old.lines.blocks) × (new.found ≡ old.found)
Turns None at old new =
    AreClosed old.lines.lead.level at old.lines.blocks new.lines.blocks old.found.tokens new.found.tokens × (innermost new.lines.blocks ≡ old.lines.lead.level)

-- what a token does before it is read, where its line has one or not
abbrev pub Opens : Bool → Option ℕ → Pos → Lexer → Lexer → Type 0
Opens true deeper at old new = (deeper ≡ None) × (new ≡ old)
Opens false deeper at old new = BeginsLine old new × Turns deeper at old new

-- a block begins with Indent at this place
pub record IsDeeper (level : ℕ) (at : Pos) (old new : Lexer) : Type 0 where
  pub blocks : new.lines.blocks ≡ old.lines.blocks ++ level ∷ []
  pub room : length old.lines.blocks < 32
  pub indent : new.found.tokens ≡ old.found.tokens ++ token at Indent ∷ []
  pub line : KeepsLine old.lines new.lines
  pub brackets : new.brackets ≡ old.brackets

abbrev pub Deepens : Option ℕ → Pos → Lexer → Lexer → Type 0
Deepens None at old new = new ≡ old
Deepens (Some level) at old new = IsDeeper level at old new

-- a token was read, and what was found is as before
abbrev pub KeepsRest : Lexer → Lexer → Type 0
KeepsRest old new = (new.found ≡ old.found) × (new.lines ≡ old.lines) × (new.brackets ≡ old.brackets)
