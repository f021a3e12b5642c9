-- The escapes of a string.
use Rattle.std.specs.Prelude.{ℕ, ◌+◌, ◌-◌, ◌*◌, ◌==◌, ◌||◌, ◌&&◌, nat_lt, nat_le, Bool, if◌then◌else◌, List, [], ◌∷◌, ◌++◌, slice_get, Option, Some, None}
use Rattle.gd_syntax.specs.declared.pos.Pos.{Pos}
use Rattle.gd_rules.specs.declared.rule.Rule.{Rule}
use Rattle.gd_rules.specs.declared.rule.Rule.TheVariants.{BadEscape, NotUtf8}
use Rattle.gd_lexis.specs.declared.glyph.Glyph.{Glyph}
use Rattle.gd_lexis.specs.declared.glyph.Glyph.TheVariants.{Char, Bad}
use Rattle.gd_lexis.specs.Strings.{simple}
use Rattle.gd_lexer.specs.declared.quoted.Body.{Body}
use Rattle.gd_lexer.specs.declared.stop.Fault.{Fault}
use Rattle.gd_lexer.specs.Cursor.{Spot, advanced, sees}
use Rattle.gd_lexer.specs.Glyphs.{scalar_of}
use Rattle.gd_lexer.specs.Number.{digit_at}

-- What was read, if it could be read, and the spot behind it.
pub record Taken : Type 0 where
  pub value : Option ℕ
  pub at : Spot

abbrev pub none_at : Spot → Taken
none_at s = record { value = None; at = s }

abbrev pub some_at : ℕ → Spot → Taken
some_at n s = record { value = Some n; at = s }

-- goes on with what was read
abbrev pub go_on : Option ℕ → Spot → (ℕ → Spot → Taken) → Taken
go_on None s f = none_at s
go_on (Some n) s f = f n s

abbrev pub and_then : Taken → (ℕ → Spot → Taken) → Taken
and_then r f = go_on r.value r.at f

abbrev pub digit_taken : Option ℕ → Spot → Taken
digit_taken None s = none_at s
digit_taken (Some d) s = some_at d (advanced s)

-- hexadecimal digits and the number that they write
unfoldable pub hex_digit : Spot → Taken
hex_digit s = digit_taken (digit_at 16 (slice_get s.glyphs 0)) s

unfoldable pub hex_pair : Spot → Taken
hex_pair s = and_then (hex_digit s) (λ high t. and_then (hex_digit t) (λ low u. some_at (high * 16 + low) u))

unfoldable pub hex_four : Spot → Taken
hex_four s = and_then (hex_pair s) (λ high t. and_then (hex_pair t) (λ low u. some_at (high * 256 + low) u))

unfoldable pub hex_six : Spot → Taken
hex_six s = and_then (hex_four s) (λ high t. and_then (hex_pair t) (λ low u. some_at (high * 256 + low) u))

abbrev pub low_of : ℕ → ℕ → Spot → Taken
low_of high low s = if nat_lt low 0xDC00 || nat_lt 0xDFFF low then none_at s else record { value = scalar_of (0x10000 + (high - 0xD800) * 0x400 + (low - 0xDC00)); at = s }

-- the low surrogate behind a high one
unfoldable pub paired : ℕ → Spot → Taken
paired high s = if sees 92 s.glyphs 0 && sees 117 s.glyphs 1 then and_then (hex_four (advanced (advanced s))) (λ low t. low_of high low t) else none_at s

abbrev pub short_of : ℕ → Spot → Taken
short_of n s = if nat_le 0xD800 n && nat_lt n 0xDC00 then paired n s else record { value = scalar_of n; at = s }

unfoldable pub short : Spot → Taken
short s = and_then (hex_four s) short_of

unfoldable pub long : Spot → Taken
long s = and_then (hex_six s) (λ n t. record { value = scalar_of n; at = t })

-- what the escape with this character behind its backslash stands for
unfoldable pub character : ℕ → Spot → Taken
character c s = if c == 117 then short (advanced s) else (if c == 85 then long (advanced s) else record { value = simple c; at = advanced s })

-- ---- what is read of a string

pub record Reading : Type 0 where
  pub at : Spot
  pub chars : List ℕ
  -- the first fault, by its place and rule
  pub fault : Option (Pos × Rule)

abbrev pub seen_fault : Option Fault → Option (Pos × Rule)
seen_fault None = None
seen_fault (Some f) = Some (f.pos, f.rule)

abbrev pub reading_of : Spot → Body → Reading
reading_of s b = record { at = s; chars = b.chars.items; fault = seen_fault b.fault }

-- the first of two faults
abbrev pub or_fault : Option (Pos × Rule) → Pos × Rule → Option (Pos × Rule)
or_fault None f = Some f
or_fault (Some f) g = Some f

abbrev pub moved : Spot → Reading → Reading
moved s r = record { at = s; chars = r.chars; fault = r.fault }

abbrev pub pushed : ℕ → Spot → Reading → Reading
pushed c s r = record { at = s; chars = r.chars ++ c ∷ []; fault = r.fault }

abbrev pub refused : Pos → Rule → Spot → Reading → Reading
refused pos rule s r = record { at = s; chars = r.chars; fault = or_fault r.fault (pos, rule) }

-- a glyph that stands for itself, or a line end
unfoldable pub plain : Glyph → Reading → Reading
plain (Bad b) r = refused r.at.pos NotUtf8 (advanced r.at) r
plain (Char c) r = if c == 13 && sees 10 r.at.glyphs 1 then pushed 10 (advanced (advanced r.at)) r else pushed c (advanced r.at) r

abbrev pub kept_glyph : Option Glyph → Reading → Reading
kept_glyph None r = r
kept_glyph (Some g) r = plain g r

-- a backslash of a raw string and the glyph behind it
unfoldable pub kept : Reading → Reading
kept r = kept_glyph (slice_get (advanced r.at).glyphs 0) (pushed 92 (advanced r.at) r)

abbrev pub escaped_by : Pos → Option ℕ → Spot → Reading → Reading
escaped_by pos None s r = refused pos BadEscape s r
escaped_by pos (Some c) s r = pushed c s r

abbrev pub escaped_glyph : Pos → Option Glyph → Spot → Reading → Reading
escaped_glyph pos None s r = moved s r
escaped_glyph pos (Some (Bad b)) s r = refused pos BadEscape (advanced s) r
escaped_glyph pos (Some (Char c)) s r = escaped_by pos (character c s).value (character c s).at r

abbrev pub is_line_end : Spot → Bool
is_line_end s = sees 10 s.glyphs 0 || (sees 13 s.glyphs 0 && sees 10 s.glyphs 1)

abbrev pub after_line_end : Spot → Spot
after_line_end s = if sees 10 s.glyphs 0 then advanced s else (if sees 13 s.glyphs 0 && sees 10 s.glyphs 1 then advanced (advanced s) else s)

-- behind a backslash
abbrev pub escaped_at : Pos → Spot → Reading → Reading
escaped_at pos s r = if is_line_end s then moved (after_line_end s) r else escaped_glyph pos (slice_get s.glyphs 0) s r

unfoldable pub escaped : Reading → Reading
escaped r = escaped_at r.at.pos (advanced r.at) r
