-- The blanks and comments that a file is cut into.
use Rattle.std.specs.Prelude.{◌≡◌, ◌≢◌, ℕ, ◌⊎◌, Bool, true, false, List, [], ◌∷◌, ◌++◌, map, drop, slice_get, Some}
use Rattle.gd_lexis.specs.declared.glyph.Glyph.{Glyph}
use Rattle.gd_lexis.specs.declared.glyph.Glyph.TheVariants.{Char}
use Rattle.gd_lexis.specs.Pieces.{Comment, BeginsWith, Stands}
use Rattle.gd_lexer.specs.declared.lines.Blank.{Blank}
use Rattle.gd_lexer.specs.declared.lines.Blank.TheVariants.{Space, Tab}

-- a blank's character
abbrev pub code_of : Blank → ℕ
code_of Space = 32
code_of Tab = 9

-- a character of a comment stands here
abbrev pub GoesOnComment : List Glyph → Type 0
GoesOnComment gs = (c : ℕ) × (gs ≡ Char c ∷ drop 1 gs) × (c ≢ 10) × (c ≡ 13 → slice_get gs 1 ≡ Some (Char 10))

abbrev pub EndsComment : List Glyph → Type 0
EndsComment gs = (gs ≡ []) ⊎ BeginsWith (10 ∷ []) gs

abbrev pub GoesOn : Bool → List Glyph → Type 0
GoesOn true gs = GoesOnComment gs
GoesOn false gs = EndsComment gs

-- between these glyphs and those stands the text of a comment
abbrev pub IsCommentText : List Glyph → List Glyph → Type 0
IsCommentText gs rest = (cs : List ℕ) × (gs ≡ map Char cs ++ rest) × Stands (Comment cs) rest
