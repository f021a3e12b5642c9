-- How the bytes of a file are read as characters, and where each stands (docs/language.md, "Characters, lines and columns").
use Rattle.std.specs.Prelude.{◌≡◌, ℕ, ◌+◌, ◌==◌, Bool, false, not, ◌⊎◌, List, [], ◌∷◌, ◌++◌, reverse, count_by, encode_utf8}
use Rattle.std.specs.List.{prefix_len}
use Rattle.std.specs.Char.{IsScalar}
use Rattle.std.specs.Str.{StartsWithNoChar}
use Rattle.gd_syntax.specs.declared.pos.Pos.{Pos}
-- a well-formed character, or a byte that is part of none
use Rattle.gd_lexis.specs.declared.glyph.Glyph.{Glyph}
use Rattle.gd_lexis.specs.declared.glyph.Glyph.TheVariants.{Char, Bad}

-- The bytes read as these glyphs, in order. A byte at which no well-formed character begins stands for itself.
abbrev pub Reads : List ℕ → List Glyph → Type 0
Reads bs [] = bs ≡ []
Reads bs (Char c ∷ gs) = IsScalar c × ((rest : List ℕ) × (bs ≡ encode_utf8 c ++ rest) × Reads rest gs)
Reads bs (Bad b ∷ gs) = StartsWithNoChar bs × ((rest : List ℕ) × (bs ≡ b ∷ rest) × Reads rest gs)

abbrev pub begins_with_mark : List Glyph → Bool
begins_with_mark (Char c ∷ gs) = c == 0xFEFF
begins_with_mark _ = false

-- the glyphs of a file, without a byte order mark at its start
abbrev pub IsFile : List ℕ → List Glyph → Type 0
IsFile bytes gs = Reads bytes (Char 0xFEFF ∷ gs) ⊎ (Reads bytes gs × (begins_with_mark gs ≡ false))

abbrev pub is_line_feed : Glyph → Bool
is_line_feed (Char c) = c == 10
is_line_feed (Bad b) = false

-- The place behind these glyphs of a file: lines are counted by their line feeds, columns from the last of these on.
abbrev pub place_behind : ℕ → List Glyph → Pos
place_behind file before = record {
  file = file;
  line = count_by is_line_feed before + 1;
  column = prefix_len (λ g. not (is_line_feed g)) (reverse before) + 1;
}
