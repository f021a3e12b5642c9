-- The characters that go on a name.
use Rattle.std.specs.Prelude.{ℕ, Bool, ◌&&◌, nat_lt, if◌then◌else◌, List, [], ◌∷◌, ◌++◌, Option, Some, None}
use Rattle.unicode_ident.specs.Ident.{is_xid_continue}
use Rattle.gd_lexis.specs.declared.glyph.Glyph.{Glyph}
use Rattle.gd_lexis.specs.declared.glyph.Glyph.TheVariants.{Char, Bad}

-- the byte is an ASCII character with which a name goes on
abbrev pub is_word_byte : ℕ → Bool
is_word_byte b = nat_lt b 128 && is_xid_continue b

-- the character with which a name goes on here
abbrev pub next_in_name : Option Glyph → Option ℕ
next_in_name None = None
next_in_name (Some (Bad b)) = None
next_in_name (Some (Char c)) = if is_xid_continue c then Some c else None

-- these characters and those with which a name goes on behind them
unfoldable pub name_behind : List ℕ → List Glyph → List ℕ
name_behind cs [] = cs
name_behind cs (Bad b ∷ gs) = cs
name_behind cs (Char c ∷ gs) = if is_xid_continue c then name_behind (cs ++ c ∷ []) gs else cs

-- what stands behind them
unfoldable pub after_name : List Glyph → List Glyph
after_name [] = []
after_name (Bad b ∷ gs) = Bad b ∷ gs
after_name (Char c ∷ gs) = if is_xid_continue c then after_name gs else Char c ∷ gs
