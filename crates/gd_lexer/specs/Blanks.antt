-- By what a file is indented so far.
use Rattle.std.specs.Prelude.{◌≡◌, ℕ, false, List, [], ◌∷◌, ◌++◌, filter, flat_map, All, Option, Some, None, if◌then◌else◌}
use Rattle.gd_rules.specs.declared.rule.Rule.TheVariants.{MixedIndentation}
use Rattle.gd_lexis.specs.Chars.{place_behind}
use Rattle.gd_lexis.specs.Pieces.{Piece, Blank}
use Rattle.gd_lexis.specs.Lines.{is_logical, is_indentation, lead, texts}
use Rattle.gd_lexer.specs.declared.lines.Blank.{Blank as Kind}
use Rattle.gd_lexer.specs.declared.stop.Fault.{Fault}
use Rattle.gd_lexer.specs.Cut.{code_of}
use Rattle.gd_lexer.specs.Begun.{whole, line}

-- the blanks before a line's first token
abbrev pub blanks : List Piece → List Piece
blanks line = filter is_indentation (lead line)

-- those of the logical ones of these lines
abbrev pub blanks_of : List (List Piece) → List Piece
blanks_of = flat_map (λ line. if is_logical line then blanks line else [])

-- those of the whole lines and of the line that is read, whether it has a token or not yet
abbrev pub blanks_so_far : List Piece → List Piece
blanks_so_far pieces = blanks_of (whole pieces) ++ blanks (line pieces)

-- There are such blanks, and all are of this kind; or there are none, and so no kind.
abbrev pub AreOf : Option Kind → List Piece → Type 0
AreOf None ps = ps ≡ []
AreOf (Some kind) ps = (more : List Piece) × (ps ≡ Blank (code_of kind) ∷ more) × All (λ p. p ≡ Blank (code_of kind)) more

-- In the line that is read, which has no token, a blank is of the other kind than all before it, and the fault stands there.
pub record IsMixed (file : ℕ) (pieces : List Piece) (fault : Fault) : Type 0 where
  pub before : List Piece
  pub blank : Kind
  pub after : List Piece
  pub split : pieces ≡ before ++ Blank (code_of blank) ∷ after
  pub same_whole : whole pieces ≡ whole before
  pub same_line : line pieces ≡ line before ++ Blank (code_of blank) ∷ after
  pub tokenless : is_logical (line pieces) ≡ false
  pub kind : Kind
  pub one : AreOf (Some kind) (blanks_so_far before)
  pub other : kind ≡ blank → ⊥
  pub at : fault.pos ≡ place_behind file (texts before)
  pub rule : fault.rule ≡ MixedIndentation
