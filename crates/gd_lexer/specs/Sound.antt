-- What is true of a file that is read.
use Rattle.std.specs.Prelude.{◌≡◌, ℕ, ◌+◌, ◌*◌, ◌≤◌, Bool, if◌then◌else◌, length}
use Rattle.gd_syntax.specs.declared.pos.Pos.{Pos}
use Rattle.gd_lexer.specs.declared.lexer.Lexer.{Lexer}
use Rattle.gd_lexer.specs.Follows.{IsAtMost}
use Rattle.gd_lexer.specs.Laid.{IsKept}

abbrev pub count_of_line : Bool → ℕ
count_of_line is_open = if is_open then 1 else 0

-- the tokens that are there, and those that the open line and the open blocks will end with
abbrev pub load : Lexer → ℕ
load l = length l.found.tokens + length l.lines.blocks + count_of_line l.lines.is_open

-- a token can come at this place
pub record IsPlaced (l : Lexer) (pos : Pos) : Type 0 where
  pub order : IsAtMost l.found.last pos
  pub file : l.found.last.file ≡ pos.file
  pub line : 1 ≤ pos.line
  pub column : 1 ≤ pos.column

-- The tokens stand before what is left, and are few: a byte makes at most a token, the end of its line, and a block's
-- begin and end.
pub record IsSound (l : Lexer) : Type 0 where
  pub order : IsAtMost l.found.last l.cursor.pos
  pub file : l.found.last.file ≡ l.cursor.pos.file
  pub few : load l ≤ 4 * l.cursor.offset
  pub kept : IsKept l
