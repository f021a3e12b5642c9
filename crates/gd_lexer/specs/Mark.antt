-- The longest mark at the front of some glyphs.
use Rattle.std.specs.Prelude.{ℕ, ◌==◌, ◌||◌, ◌&&◌, if◌then◌else◌, List, Option, Some, None}
use Rattle.gd_syntax.specs.declared.token.Mark.{Mark}
use Rattle.gd_syntax.specs.declared.token.Mark.TheVariants as marks
use Rattle.gd_lexis.specs.declared.glyph.Glyph.{Glyph}
use Rattle.gd_lexer.specs.Cursor.{sees}

abbrev pub with_equal : List Glyph → Mark → Mark → Mark × ℕ
with_equal gs plain equal = if sees 61 gs 1 then (equal, 2) else (plain, 1)

abbrev pub arithmetic : ℕ → List Glyph → Mark × ℕ
arithmetic c gs =
    if c == 43 then with_equal gs marks.Plus marks.PlusEqual
    else (if c == 45 then (if sees 62 gs 1 then (marks.Arrow, 2) else with_equal gs marks.Minus marks.MinusEqual)
    else (if c == 47 then with_equal gs marks.Slash marks.SlashEqual else with_equal gs marks.Percent marks.PercentEqual))

abbrev pub star : List Glyph → Mark × ℕ
star gs = if sees 42 gs 1 then (if sees 61 gs 2 then (marks.StarStarEqual, 3) else (marks.StarStar, 2)) else with_equal gs marks.Star marks.StarEqual

abbrev pub bits : ℕ → List Glyph → Mark × ℕ
bits c gs =
    if c == 38 then (if sees 38 gs 1 then (marks.AndAnd, 2) else with_equal gs marks.Ampersand marks.AmpersandEqual)
    else (if c == 124 then (if sees 124 gs 1 then (marks.OrOr, 2) else with_equal gs marks.Bar marks.BarEqual)
    else with_equal gs marks.Caret marks.CaretEqual)

abbrev pub angle : ℕ → List Glyph → Mark × ℕ
angle c gs =
    if sees c gs 1
    then (if c == 60 then (if sees 61 gs 2 then (marks.ShiftLeftEqual, 3) else (marks.ShiftLeft, 2)) else (if sees 61 gs 2 then (marks.ShiftRightEqual, 3) else (marks.ShiftRight, 2)))
    else (if c == 60 then with_equal gs marks.Less marks.LessEqual else with_equal gs marks.Greater marks.GreaterEqual)

-- a mark of one character that begins no longer one, and the dot
abbrev pub single : ℕ → Option (Mark × ℕ)
single c =
    if c == 126 then Some (marks.Tilde, 1)
    else (if c == 46 then Some (marks.Dot, 1)
    else (if c == 58 then Some (marks.Colon, 1)
    else (if c == 44 then Some (marks.Comma, 1)
    else (if c == 59 then Some (marks.Semicolon, 1)
    else (if c == 40 then Some (marks.LeftParen, 1)
    else (if c == 41 then Some (marks.RightParen, 1)
    else (if c == 91 then Some (marks.LeftBracket, 1)
    else (if c == 93 then Some (marks.RightBracket, 1)
    else (if c == 123 then Some (marks.LeftBrace, 1)
    else (if c == 125 then Some (marks.RightBrace, 1)
    else (if c == 64 then Some (marks.At, 1)
    else (if c == 36 then Some (marks.Dollar, 1) else None))))))))))))

-- The longest mark that begins with this character, the first of the glyphs, and the number of its characters.
unfoldable pub mark_at : ℕ → List Glyph → Option (Mark × ℕ)
mark_at c gs =
    if c == 43 || c == 45 || c == 47 || c == 37 then Some (arithmetic c gs)
    else (if c == 42 then Some (star gs)
    else (if c == 38 || c == 124 || c == 94 then Some (bits c gs)
    else (if c == 60 || c == 62 then Some (angle c gs)
    else (if c == 61 then Some (with_equal gs marks.Equal marks.EqualEqual)
    else (if c == 33 then Some (with_equal gs marks.Bang marks.BangEqual)
    else (if c == 46 && sees 46 gs 1 then Some (marks.DotDot, 2) else single c))))))
