-- Steps over a string.
use Rattle.std.proofs.Common.{◌≡◌, ℕ, Bool, true, false, cond, slice_get, refl, sym, ◌∙◌, subst}
use Rattle.std.specs.Prelude.{Option, Some, None, Result, Ok, Err, OnOk, ◌||◌, ◌&&◌}
use Rattle.gd_syntax.specs.declared.pos.Pos.{Pos}
use Rattle.gd_lexis.specs.declared.glyph.Glyph.{Glyph}
use Rattle.gd_lexis.specs.declared.glyph.Glyph.TheVariants.{Char, Bad}
use Rattle.gd_lexer.specs.declared.quoted.Body.{Body}
use Rattle.gd_lexer.specs.declared.quoted.Quote.{Quote}
use Rattle.gd_lexer.specs.Cursor.{Spot, advanced, sees}
use Rattle.gd_lexer.specs.Escape.{Reading, reading_of, escaped, escaped_by, escaped_glyph, is_line_end, after_line_end, character}
use Rattle.gd_lexer.specs.Quoted.{Steps, step, closed, step_by, is_backslash}
use Rattle.gd_lexer.proofs.DecodeLemmas.{left}

pub on_ok : {T E : Type 0} (r : Result T E) (P Q : Type 0) → (P → Q) → OnOk r P → OnOk r Q
on_ok (Ok x) P Q f h = f h
on_ok (Err e) P Q f h = h

neither : {A : Type 0} (x y : Bool) (s u v : A) → (x || y) ≡ false → cond x u (cond y v s) ≡ s
neither true y s u v e = cc
neither false true s u v e = cc
neither false false s u v e = refl

-- where no line end stands, none is gone over
pub no_line_end : (s : Spot) → is_line_end s ≡ false → after_line_end s ≡ s
no_line_end s e = neither (sees 10 s.glyphs 0) (sees 13 s.glyphs 0 && sees 10 s.glyphs 1) s (advanced s) (advanced (advanced s)) e

escaped_one : (s : Spot) (b : Body) (o : Option Glyph) → is_line_end (advanced s) ≡ false → o ≡ slice_get (advanced s).glyphs 0
    → escaped (reading_of s b) ≡ escaped_glyph s.pos o (advanced s) (reading_of s b)
unfolding escaped
escaped_one s b o none e = left (is_line_end (advanced s)) _ _ _ none (rw (← e) refl)

pub escaped_bad : (s t u : Spot) (b : Body) (k : Pos) (x : ℕ) → t ≡ advanced s → is_line_end t ≡ false → Some (Bad x) ≡ slice_get t.glyphs 0 → u ≡ advanced t → k ≡ s.pos
    → escaped_by k None u (reading_of u b) ≡ escaped (reading_of s b)
escaped_bad s t u b k x e none head f at =
    let P : Spot → Type 0 = λ v. is_line_end v ≡ false in
    let Q : Spot → Type 0 = λ v. Some (Bad x) ≡ slice_get v.glyphs 0 in
    rw (f, e, at) (sym (escaped_one s b (Some (Bad x)) (subst P e none) (subst Q e head)))

pub escaped_char : (s t u : Spot) (b : Body) (k : Pos) (x : ℕ) (found : Option ℕ) → t ≡ advanced s → is_line_end t ≡ false → Some (Char x) ≡ slice_get t.glyphs 0
    → found ≡ (character x t).value → u ≡ (character x t).at → k ≡ s.pos → escaped_by k found u (reading_of u b) ≡ escaped (reading_of s b)
escaped_char s t u b k x found e none head v f at =
    let P : Spot → Type 0 = λ v. is_line_end v ≡ false in
    let Q : Spot → Type 0 = λ v. Some (Char x) ≡ slice_get v.glyphs 0 in
    rw (v, f, e, at) (by_value (character x (advanced s)).value (character x (advanced s)).at ∙ sym (escaped_one s b (Some (Char x)) (subst P e none) (subst Q e head)))
  where
    by_value : (o : Option ℕ) (w : Spot) → escaped_by s.pos o w (reading_of w b) ≡ escaped_by s.pos o w (reading_of s b)
    by_value None w = refl
    by_value (Some n) w = refl

-- one step more before steps
pub step_more : (q : Quote) (s t u : Spot) (b d : Body) (g : Glyph) → Some g ≡ slice_get s.glyphs 0 → closed q s ≡ None → t ≡ s
    → reading_of u d ≡ step_by (is_backslash g) q.is_raw g (reading_of t b) → (ended : Bool) (r : Reading) → Steps q (reading_of u d) ended r → Steps q (reading_of s b) ended r
step_more q s t u b d g head going same e ended r steps =
    let P : Spot → Type 0 = λ v. reading_of u d ≡ step_by (is_backslash g) q.is_raw g (reading_of v b) in
    let Q : Reading → Type 0 = λ v. Steps q v ended r in
    step (reading_of s b) r ended g (sym head) going (subst Q (subst P same e) steps)
