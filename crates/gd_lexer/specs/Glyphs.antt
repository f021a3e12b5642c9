-- How bytes are read as glyphs: well-formed characters of UTF-8, and bytes that are part of none.
use Rattle.std.specs.Prelude.{ℕ, zero, suc, ◌+◌, ◌-◌, ◌*◌, Bool, true, ◌&&◌, nat_lt, nat_le, if◌then◌else◌, List, [], ◌∷◌, drop, Option, Some, None}
use Rattle.gd_lexis.specs.declared.glyph.Glyph.{Glyph}
use Rattle.gd_lexis.specs.declared.glyph.Glyph.TheVariants.{Char, Bad}
use Rattle.gd_lexis.specs.Lexemes.{width}

-- the number is the code of a character
abbrev pub is_scalar : ℕ → Bool
is_scalar c = if nat_lt c 0xD800 then true else (nat_le 0xE000 c && nat_lt c 0x110000)

abbrev pub scalar_of : ℕ → Option ℕ
scalar_of c = if is_scalar c then Some c else None

-- the byte can continue a character
abbrev pub continues : ℕ → Bool
continues b = nat_le 0x80 b && nat_lt b 0xC0

-- the character of a first byte and those behind it, which has no shorter form
abbrev pub two : ℕ → List ℕ → Option ℕ
two a [] = None
two a (b ∷ bs) = if continues b then scalar_of ((a - 0xC0) * 64 + (b - 0x80)) else None

abbrev pub three_code : ℕ → ℕ → ℕ → ℕ
three_code a b c = (a - 0xE0) * 4096 + (b - 0x80) * 64 + (c - 0x80)

abbrev pub three : ℕ → List ℕ → Option ℕ
three a [] = None
three a (b ∷ []) = None
three a (b ∷ c ∷ bs) = if continues b && continues c && nat_le 0x800 (three_code a b c) then scalar_of (three_code a b c) else None

abbrev pub four_code : ℕ → ℕ → ℕ → ℕ → ℕ
four_code a b c d = (a - 0xF0) * 262144 + (b - 0x80) * 4096 + (c - 0x80) * 64 + (d - 0x80)

abbrev pub four : ℕ → List ℕ → Option ℕ
four a [] = None
four a (b ∷ []) = None
four a (b ∷ c ∷ []) = None
four a (b ∷ c ∷ d ∷ bs) =
    if continues b && continues c && continues d && nat_le 0x10000 (four_code a b c d) then scalar_of (four_code a b c d) else None

-- the well-formed character that the bytes begin with
unfoldable pub decoded : List ℕ → Option ℕ
decoded [] = None
decoded (b ∷ bs) =
    if nat_lt b 0x80 then Some b
    else (if nat_lt b 0xC2 then None
    else (if nat_lt b 0xE0 then two b bs
    else (if nat_lt b 0xF0 then three b bs
    else (if nat_lt b 0xF5 then four b bs else None))))

abbrev pub glyph_or : ℕ → Option ℕ → Glyph
glyph_or b (Some c) = Char c
glyph_or b None = Bad b

-- the first glyph of some bytes
unfoldable pub first_glyph : List ℕ → Option Glyph
first_glyph [] = None
first_glyph (b ∷ bs) = Some (glyph_or b (decoded (b ∷ bs)))

abbrev pub width_of_first : Option Glyph → ℕ
width_of_first None = 0
width_of_first (Some g) = width g

-- the bytes after the first glyph
abbrev pub after_first : List ℕ → List ℕ
after_first bs = drop (width_of_first (first_glyph bs)) bs

-- the glyphs of some bytes, of which so many belong to a glyph before them
abbrev pub glyphs_past : ℕ → List ℕ → List Glyph
glyphs_past n [] = []
glyphs_past (suc n) (b ∷ bs) = glyphs_past n bs
glyphs_past zero (b ∷ bs) = glyph_or b (decoded (b ∷ bs)) ∷ glyphs_past (width (glyph_or b (decoded (b ∷ bs))) - 1) bs

-- the glyphs of some bytes
unfoldable pub glyphs : List ℕ → List Glyph
glyphs bs = glyphs_past 0 bs
