-- Laws of cursors.
use Rattle.std.proofs.Common.{◌≡◌, ℕ, suc, ◌+◌, ◌≤◌, List, [], ◌∷◌, length, drop, slice_get, length-drop, refl, ap, sym, ◌∙◌, arith}
use Rattle.std.proofs.lemmas.Bool.Decides.{nat_tests}
use Rattle.std.specs.Prelude.{Option, Some, None, OnSome, IfNone, ◌<◌, slice_index}
use Rattle.gd_syntax.specs.declared.pos.Pos.{Pos}
use Rattle.gd_lexis.specs.declared.glyph.Glyph.{Glyph}
use Rattle.gd_lexis.specs.declared.glyph.Glyph.TheVariants.{Char}
use Rattle.gd_lexis.specs.Lexemes.{width}
use Rattle.gd_lexer.specs.Glyphs.{decoded, glyph_or, first_glyph, glyphs, after_first}
use Rattle.gd_lexer.specs.Cursor.{Spot, advanced, after_glyph}
use Rattle.gd_lexer.proofs.GlyphLemmas.{glyphs_cons}

pub glyph_0 : (bs : List ℕ) → first_glyph bs ≡ slice_get (glyphs bs) 0
unfolding glyphs first_glyph
glyph_0 [] = refl
glyph_0 (b ∷ bs) = refl

glyph_suc : (n : ℕ) (bs : List ℕ) → slice_get (glyphs (after_first bs)) n ≡ slice_get (glyphs bs) (suc n)
unfolding glyphs first_glyph
glyph_suc n [] = refl
glyph_suc n (b ∷ bs) = sym (ap (λ t. slice_get t (suc n)) (glyphs_cons b bs))

pub glyph_1 : (bs : List ℕ) → first_glyph (after_first bs) ≡ slice_get (glyphs bs) 1
glyph_1 bs = glyph_0 (after_first bs) ∙ glyph_suc 0 bs

pub glyph_2 : (bs : List ℕ) → first_glyph (after_first (after_first bs)) ≡ slice_get (glyphs bs) 2
glyph_2 bs = glyph_0 (after_first (after_first bs)) ∙ glyph_suc 0 (after_first bs) ∙ glyph_suc 1 bs

pub stays : (bs : List ℕ) (o : ℕ) (p : Pos) → first_glyph bs ≡ None
    → advanced (record { glyphs = glyphs bs; left = length bs; offset = o; pos = p }) ≡ record { glyphs = glyphs bs; left = length bs; offset = o; pos = p }
unfolding advanced first_glyph glyphs
stays [] o p h = refl
stays (b ∷ bs) o p h = cc

same_head : (g h : Glyph) → Some g ≡ Some h → g ≡ h
same_head g h e = cc

pub goes : (bs : List ℕ) (g : Glyph) (o : ℕ) (p : Pos) → first_glyph bs ≡ Some g
    → advanced (record { glyphs = glyphs bs; left = length bs; offset = o; pos = p })
    ≡ record { glyphs = glyphs (drop (width g) bs); left = length (drop (width g) bs); offset = o + width g; pos = after_glyph g p }
unfolding advanced first_glyph
goes [] g o p h = cc
goes (b ∷ bs) g o p h =
    let same = same_head (glyph_or b (decoded (b ∷ bs))) g h in
    rw (glyphs_cons b bs, same, length-drop) refl

pub goes_on : (s : Spot) (bs rest : List ℕ) (g : Glyph) (w o : ℕ) (p q : Pos)
    → record { glyphs = glyphs bs; left = length bs; offset = o; pos = p } ≡ s → Some g ≡ first_glyph bs → w ≡ width g → rest ≡ drop w bs → q ≡ after_glyph g p
    → record { glyphs = glyphs rest; left = length rest; offset = o + w; pos = q } ≡ advanced s
goes_on s bs rest g w o p q shown first wide cut place =
    rw (cut, wide, place) (sym (goes bs g o p (sym first)) ∙ ap advanced shown)

pub head_some : (gs : List Glyph) (r : Option Glyph) → r ≡ slice_get gs 0 → OnSome r (0 < length gs)
head_some [] r e = rw e tt
head_some (g ∷ gs) r e = rw e (omega arith)

pub head_none : (gs : List Glyph) (r : Option Glyph) → r ≡ slice_get gs 0 → IfNone r (length gs ≡ 0)
head_none [] r e = rw e refl
head_none (g ∷ gs) r e = rw e tt

-- bytes that begin with one below 128 begin with that character
pub ascii_first : (bs : List ℕ) → 1 ≤ length bs → slice_index bs 0 < 128 → Some (Char (slice_index bs 0)) ≡ first_glyph bs
unfolding first_glyph decoded
ascii_first [] n h = absurd (omega arith)
ascii_first (b ∷ bs) n h = grind (arith, nat_tests)

pub ascii_width : (b : ℕ) → b < 128 → 1 ≡ width (Char b)
ascii_width b h = grind (arith, nat_tests)
