-- The token that stands at some glyphs, and the rule that is broken there.
use Rattle.std.specs.Prelude.{◌≡◌, ℕ, List, [], ◌∷◌, ◌++◌, map}
use Rattle.gd_syntax.specs.declared.pos.Pos.{Pos}
use Rattle.gd_syntax.specs.declared.token.TokenKind.{TokenKind}
use Rattle.gd_syntax.specs.declared.token.TokenKind.TheVariants as kinds
use Rattle.gd_rules.specs.declared.rule.Rule.{Rule}
use Rattle.gd_rules.specs.declared.rule.Rule.TheVariants.{UnterminatedString, Float, IntegerTooLarge, BadNumber}
use Rattle.gd_lexis.specs.declared.glyph.Glyph.{Glyph}
use Rattle.gd_lexis.specs.declared.glyph.Glyph.TheVariants.{Char}
use Rattle.gd_lexis.specs.Pieces.{Piece, Tok, Stands}
use Rattle.gd_lexis.specs.Strings.{Quote, opening}
use Rattle.gd_lexis.specs.Faults.{Breaks, IsWhole}
use Rattle.gd_lexis.specs.Faultless.{Clean, IsStringFault}
use Rattle.gd_lexis.specs.Chars.{place_behind}
use Rattle.gd_lexer.specs.Cursor.{Spot}
use Rattle.gd_lexer.specs.declared.stop.Stop.{Stop}
use Rattle.gd_lexer.specs.declared.stop.Fault.{Fault}
use Rattle.gd_lexer.specs.declared.stop.Stop.TheVariants as stops

-- a token of this kind stands between these glyphs and those
abbrev pub IsToken : TokenKind → List Glyph → List Glyph → Type 0
IsToken kind gs rest = (text : List ℕ) × (gs ≡ map Char text ++ rest) × Stands (Tok kind text) rest

-- the rule is broken by what begins with these glyphs, whatever stands before
abbrev pub IsBrokenAt : Rule → List Glyph → Type 0
IsBrokenAt rule gs = (before : List Piece) → Breaks rule before gs []

-- a whole string begins here
pub record IsString (gs : List Glyph) : Type 0 where
  pub quote : Quote
  pub body : List Glyph
  pub rest : List Glyph
  pub whole : IsWhole quote body rest gs

-- The rule is broken at this place inside the string that begins at the spot, behind a front with no fault.
pub record IsInner (s : Spot) (pos : Pos) (rule : Rule) : Type 0 where
  pub string : IsString s.glyphs
  pub front : List Glyph
  pub clean : Clean string.quote front
  pub glyph : Glyph
  pub back : List Glyph
  pub split : s.glyphs ≡ (map Char (opening string.quote) ++ front) ++ glyph ∷ back
  pub wrong : IsStringFault rule glyph
  pub broken : (before : List Piece) → Breaks rule before s.glyphs (map Char (opening string.quote) ++ front)
  pub place : (file : ℕ) (before : List Glyph) → s.pos ≡ place_behind file before → pos ≡ place_behind file (before ++ (map Char (opening string.quote) ++ front))

-- the kind is that of a string
abbrev pub IsQuoted : TokenKind → Type 0
IsQuoted (kinds.Quoted t) = Unit {0}
IsQuoted _ = ⊥

-- the fault stands inside the string of this kind that begins at the spot
abbrev pub IsInnerOf : TokenKind → Spot → Fault → Type 0
IsInnerOf kind s f = IsQuoted kind × IsInner s f.pos f.rule

-- What is read here is a token of this kind, or a string with a fault inside.
pub data ReadAs (gs : List Glyph) : TokenKind → Type 0 where
  as_token : (kind : TokenKind) (rest : List Glyph) → IsToken kind gs rest → ReadAs gs kind
  as_string : (text : List ℕ) → IsString gs → ReadAs gs (kinds.Quoted text)

abbrev pub IsUnbrokenAt : Rule → List Glyph → Type 0
IsUnbrokenAt rule gs = (before : List Piece) → Breaks rule before gs [] → ⊥

-- the rule is one on the token that begins here alone, and none of those that come before it is broken by that
abbrev pub IsLeastAt : Rule → List Glyph → Type 0
IsLeastAt UnterminatedString gs = Unit {0}
IsLeastAt Float gs = Unit {0}
IsLeastAt IntegerTooLarge gs = IsUnbrokenAt Float gs
IsLeastAt BadNumber gs = IsUnbrokenAt Float gs × IsUnbrokenAt IntegerTooLarge gs
IsLeastAt _ gs = ⊥

-- the fault of what begins with these glyphs at this place
abbrev pub IsFaultOf : Pos → List Glyph → Stop → Type 0
IsFaultOf pos gs (stops.Fault f) = (f.pos ≡ pos) × IsBrokenAt f.rule gs × IsLeastAt f.rule gs
IsFaultOf pos gs stops.NoMemory = Unit {0}
