-- Strings.
use Rattle.std.specs.Prelude.{◌≡◌, ℕ, ◌&&◌, ◌==◌, Bool, true, false, if◌then◌else◌, slice_get, Option, Some, None}
use Rattle.gd_lexis.specs.declared.glyph.Glyph.{Glyph}
use Rattle.gd_lexis.specs.declared.glyph.Glyph.TheVariants.{Char, Bad}
use Rattle.gd_lexer.specs.declared.quoted.Quote.{Quote}
use Rattle.gd_lexer.specs.Cursor.{Spot, advanced, sees}
use Rattle.gd_lexer.specs.Escape.{Reading, moved, plain, kept, escaped}

abbrev pub three : Spot → Spot
three s = advanced (advanced (advanced s))

-- this mark stands here three times
abbrev pub sees_three : ℕ → Spot → Bool
sees_three c s = sees c s.glyphs 1 && sees c s.glyphs 2

abbrev pub mark_here : Spot → ℕ
mark_here s = if sees 34 s.glyphs 0 then 34 else 39

abbrev pub quote_here : Bool → Spot → Quote
quote_here raw s = record { mark = mark_here s; is_triple = sees_three (mark_here s) s; is_raw = raw }

abbrev pub behind_quote : Spot → Spot
behind_quote s = if sees_three (mark_here s) s then three s else advanced s

-- what opens a string here, and the spot behind it
abbrev pub at_quote : Spot → Spot
at_quote s = if sees 114 s.glyphs 0 then advanced s else s

unfoldable pub quote_of : Spot → Quote
quote_of s = quote_here (sees 114 s.glyphs 0) (at_quote s)

unfoldable pub opened : Spot → Spot
opened s = behind_quote (at_quote s)

-- the spot behind the end of the string, if it ends here
unfoldable pub closed : Quote → Spot → Option Spot
closed q s =
    if sees q.mark s.glyphs 0 then (if q.is_triple then (if sees_three q.mark s then Some (three s) else None) else Some (advanced s)) else None

-- one step over what stands between the ends
abbrev pub step_by : Bool → Bool → Glyph → Reading → Reading
step_by false raw g r = plain g r
step_by true true g r = kept r
step_by true false g r = escaped r

abbrev pub is_backslash : Glyph → Bool
is_backslash (Bad b) = false
is_backslash (Char c) = c == 92

-- The steps over a string from here on: whether it ends, and what was read.
pub data Steps (q : Quote) : Reading → Bool → Reading → Type 0 where
  open_end : (r : Reading) → slice_get r.at.glyphs 0 ≡ None → Steps q r false r
  end : (r : Reading) (s : Spot) → closed q r.at ≡ Some s → Steps q r true (moved s r)
  step : (r t : Reading) (b : Bool) (g : Glyph) → slice_get r.at.glyphs 0 ≡ Some g → closed q r.at ≡ None → Steps q (step_by (is_backslash g) q.is_raw g r) b t → Steps q r b t

-- the whole string that begins here
abbrev pub Scans : Reading → Bool → Reading → Type 0
Scans r b t = Steps (quote_of r.at) (moved (opened r.at) r) b t
