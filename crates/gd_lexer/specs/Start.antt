-- How a token begins.
use Rattle.std.specs.Prelude.{ℕ, ◌==◌, ◌||◌, ◌&&◌, Bool, false, if◌then◌else◌, List, slice_get, drop, Option, Some, None}
use Rattle.std.specs.Char.{is_ascii_digit}
use Rattle.unicode_ident.specs.Ident.{is_xid_start}
use Rattle.gd_syntax.specs.declared.token.Mark.{Mark}
use Rattle.gd_lexis.specs.declared.glyph.Glyph.{Glyph}
use Rattle.gd_lexis.specs.declared.glyph.Glyph.TheVariants.{Char, Bad}
use Rattle.gd_lexer.specs.declared.lexer.Start.{Start}
use Rattle.gd_lexer.specs.declared.lexer.Start.TheVariants as starts
use Rattle.gd_lexer.specs.Cursor.{sees}
use Rattle.gd_lexer.specs.Mark.{mark_at}

abbrev pub is_digit : Option Glyph → Bool
is_digit None = false
is_digit (Some (Bad b)) = false
is_digit (Some (Char c)) = is_ascii_digit c

abbrev pub opens_string : ℕ → List Glyph → Bool
opens_string c gs = c == 34 || c == 39 || (c == 114 && (sees 34 gs 1 || sees 39 gs 1))

abbrev pub marked : Option (Mark × ℕ) → Option Start
marked None = None
marked (Some m) = Some (starts.Mark m.0 m.1)

abbrev pub start_by : ℕ → List Glyph → Option Start
start_by c gs =
    if is_ascii_digit c then Some starts.Number
    else (if opens_string c gs then Some starts.Quoted
    else (if is_xid_start c || c == 95 then Some (starts.Name c)
    else (if c == 46 && is_digit (slice_get gs 1) then Some starts.Float else marked (mark_at c gs))))

abbrev pub start_with : Option Glyph → List Glyph → Option Start
start_with None gs = None
start_with (Some (Bad b)) gs = None
start_with (Some (Char c)) gs = start_by c gs

-- how a token begins with these glyphs
unfoldable pub start_at : List Glyph → Option Start
start_at gs = start_with (slice_get gs 0) gs

-- what stands behind a mark of so many characters
abbrev pub behind_mark : ℕ → List Glyph → List Glyph
behind_mark n gs = if n == 3 then drop 3 gs else (if n == 2 then drop 2 gs else drop 1 gs)
