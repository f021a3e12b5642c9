-- Which fault stops reading: the first of the file.
use Rattle.std.specs.Prelude.{◌≡◌, ◌≢◌, ℕ, ◌≤◌, length, false, List, [], ◌∷◌, ◌++◌, map, All, Option, Some, None, IfSome}
use Rattle.gd_syntax.specs.declared.pos.Pos.{Pos}
use Rattle.gd_rules.specs.declared.rule.Rule.{Rule}
use Rattle.gd_rules.specs.declared.rule.Rule.TheVariants.{NotUtf8, StrayCharacter, UnmatchedDedent, BlocksTooDeep}
use Rattle.gd_lexis.specs.declared.glyph.Glyph.{Glyph}
use Rattle.gd_lexis.specs.declared.glyph.Glyph.TheVariants.{Char, Bad}
use Rattle.gd_lexis.specs.Chars.{IsFile, place_behind}
use Rattle.gd_lexis.specs.Pieces.{Piece, BeginsWith, IsCut}
use Rattle.gd_lexis.specs.Lines.{lines_of, texts, kept, innermost}
use Rattle.gd_lexis.specs.Lexes.{IsWithin, AreBlocks}
use Rattle.gd_lexis.specs.Faults.{IsStray, FirstFault}
use Rattle.gd_lexis.specs.Faultless.{IsCommentFault, IsAsFar}
use Rattle.gd_lexer.specs.declared.stop.Fault.{Fault}
use Rattle.gd_lexer.specs.declared.stop.Stop.{Stop}
use Rattle.gd_lexer.specs.declared.stop.Stop.TheVariants as stops
use Rattle.gd_lexer.specs.declared.lexer.Lexer.{Lexer}
use Rattle.gd_lexer.specs.Cursor.{Spot}
use Rattle.gd_lexer.specs.Brackets.{items_of}
use Rattle.gd_lexer.specs.Blanks.{IsMixed}
use Rattle.gd_lexer.specs.PutOff.{StopsBy}
use Rattle.gd_lexer.specs.Stops.{StandsAt, IsFaultAt}
use Rattle.gd_lexer.specs.Laid.{Holds}

-- a glyph by which the rule is broken begins no token here
abbrev pub Strays : Rule → List Glyph → Type 0
Strays NotUtf8 gs = (b : ℕ) × (more : List Glyph) × (gs ≡ Bad b ∷ more)
Strays StrayCharacter gs = IsStray gs
Strays _ gs = ⊥

-- The fault stands in the text of a comment that goes on at this spot, and is the first there.
pub record IsInText (s : Spot) (f : Fault) : Type 0 where
  pub text : List ℕ
  pub clean : All (λ c. (c ≢ 10) × (c ≢ 13)) text
  pub glyph : Glyph
  pub back : List Glyph
  pub split : s.glyphs ≡ map Char text ++ glyph ∷ back
  pub wrong : IsCommentFault f.rule glyph
  pub lone : f.rule ≡ StrayCharacter → BeginsWith (10 ∷ []) back → ⊥
  pub place : (file : ℕ) (before : List Glyph) → s.pos ≡ place_behind file before → f.pos ≡ place_behind file (before ++ map Char text)

abbrev pub StopsInText : Spot → Stop → Type 0
StopsInText s (stops.Fault f) = IsInText s f
StopsInText s stops.NoMemory = Unit {0}

-- A stray character was put off: up to it the file is cut into pieces, and the line, which has no token, has a blank of the
-- other kind before it. From the character on the line has a token where it has one from the spot on.
pub record IsPutOff (file : ℕ) (all : List Glyph) (l : Lexer) (f : Fault) : Type 0 where
  pub pieces : List Piece
  pub rest : List Glyph
  pub cut : IsCut all pieces rest
  pub within : All IsWithin (lines_of pieces)
  pub matched : AreBlocks (lines_of pieces)
  pub strays : Strays f.rule rest
  pub at : f.pos ≡ place_behind file (texts pieces)
  pub blank : Fault
  pub mixed : l.lines.lead.mixed ≡ Some blank
  pub blank_is : IsMixed file pieces blank
  pub shut : l.lines.is_open ≡ false
  pub idle : items_of l.brackets ≡ 0 ∷ []
  pub far : IsAsFar rest l.cursor.glyphs

-- a fault that was put off is one of the file
abbrev pub Trails : ℕ → List Glyph → Lexer → Type 0
Trails file all l = IfSome l.lines.lead.hidden (IsPutOff file all l)

-- it stays so
abbrev pub KeepsTrail : Lexer → Lexer → Type 0
KeepsTrail old new = (file : ℕ) (all : List Glyph) → Holds file all old → Trails file all old → Trails file all new

-- The level is below that of the innermost of these blocks, or its own, and of those that are left without those above the
-- level the innermost is not of it.
pub record IsApart (level : ℕ) (blocks : List ℕ) : Type 0 where
  pub below : level ≤ innermost blocks
  pub left : List ℕ
  pub closed : List ℕ
  pub front : blocks ≡ left ++ closed
  pub same : kept level left ≡ kept level blocks
  pub low : innermost left ≤ level
  pub other : innermost left ≡ level → ⊥

-- No line begins with a token at this place: the line has blanks of both kinds before it, or its level is that of no block.
pub data Unopened (at : Pos) (l : Lexer) (stop : Stop) : Type 0 where
  mixed : StopsBy l.lines.lead.mixed stop → Unopened at l stop
  unmatched : l.lines.is_open ≡ false → l.lines.lead.mixed ≡ None → IsApart l.lines.lead.level l.lines.blocks → StandsAt at UnmatchedDedent stop → Unopened at l stop
  no_memory : stop ≡ stops.NoMemory → Unopened at l stop

-- no block begins with a token at this place, since too many are open
abbrev pub Undeepened : Option ℕ → Pos → Lexer → Stop → Type 0
Undeepened None at l stop = ⊥
Undeepened (Some level) at l stop = IsFaultAt at BlocksTooDeep (32 ≤ length l.lines.blocks) stop

-- memory is wanting
abbrev pub IsWant : Stop → Type 0
IsWant (stops.Fault f) = ⊥
IsWant stops.NoMemory = Unit {0}

-- the stop is the first fault of this file, or want of memory
abbrev pub IsFirstOf : ℕ → List ℕ → Stop → Type 0
IsFirstOf file bytes (stops.Fault f) = FirstFault file bytes f.pos f.rule
IsFirstOf file bytes stops.NoMemory = Unit {0}

-- where reading stops it is so
abbrev pub IsFirstFrom : Lexer → Stop → Type 0
IsFirstFrom l stop = (file : ℕ) (bytes : List ℕ) (all : List Glyph) → IsFile bytes all → Holds file all l → Trails file all l → IsFirstOf file bytes stop
