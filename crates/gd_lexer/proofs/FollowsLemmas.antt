-- Laws of spots that follow one another.
use Rattle.std.proofs.Common.{◌≡◌, ℕ, ◌+◌, ◌-◌, ◌≤◌, Bool, true, false, cond, List, [], ◌∷◌, length, drop, length-drop, ◌++◌, append_assoc, reverse, refl, ap, sym, ◌∙◌, arith, subst, inl, inr}
use Rattle.std.proofs.lemmas.List.{reverse-append}
use Rattle.std.proofs.lemmas.List.Sums.{sum_by-append, sum_by-cons}
use Rattle.std.specs.Prelude.{Some, ◌==◌, not, count_by}
use Rattle.std.specs.List.{prefix_len}
use Rattle.gd_syntax.specs.declared.pos.Pos.{Pos}
use Rattle.gd_lexis.specs.declared.glyph.Glyph.{Glyph}
use Rattle.gd_lexis.specs.declared.glyph.Glyph.TheVariants.{Char, Bad}
use Rattle.gd_lexis.specs.Chars.{is_line_feed, place_behind}
use Rattle.gd_lexis.specs.Lexemes.{width, size}
use Rattle.gd_lexer.specs.Glyphs.{decoded, glyph_or, first_glyph, glyphs}
use Rattle.gd_lexer.specs.Cursor.{Spot, advanced, advanced_over, after_glyph}
use Rattle.gd_lexer.specs.Follows.{Follows, IsAtMost}
use Rattle.gd_lexer.proofs.GlyphLemmas.{glyphs_cons, width_positive}

pub IsAtMost-refl : (p : Pos) → IsAtMost p p
IsAtMost-refl p = inr (refl, omega arith)

pub IsAtMost-trans : (p q r : Pos) → IsAtMost p q → IsAtMost q r → IsAtMost p r
IsAtMost-trans p q r (inl a) (inl b) = inl (omega arith)
IsAtMost-trans p q r (inl a) (inr b) = inl (omega arith)
IsAtMost-trans p q r (inr a) (inl b) = inl (omega arith)
IsAtMost-trans p q r (inr a) (inr b) = inr (omega arith, omega arith)

later_char : (b : Bool) (p : Pos) → IsAtMost p (cond b (record { file = p.file; line = p.line + 1; column = 1 }) (record { file = p.file; line = p.line; column = p.column + 1 }))
later_char true p = inl (omega arith)
later_char false p = inr (refl, omega arith)

same_file : (b : Bool) (p : Pos) → (cond b (let q : Pos = record { file = p.file; line = p.line + 1; column = 1 } in q) (record { file = p.file; line = p.line; column = p.column + 1 })).file ≡ p.file
same_file true p = refl
same_file false p = refl

later_glyph : (g : Glyph) (p : Pos) → IsAtMost p (after_glyph g p)
later_glyph (Char c) p = later_char (c == 10) p
later_glyph (Bad b) p = inr (refl, omega arith)

file_glyph : (g : Glyph) (p : Pos) → (after_glyph g p).file ≡ p.file
file_glyph (Char c) p = same_file (c == 10) p
file_glyph (Bad b) p = refl

pub Follows-refl : (s : Spot) → Follows s s
Follows-refl s = record { fewer = omega arith; wide = omega arith; whole = refl; bytes = refl; later = IsAtMost-refl s.pos; file = refl; place = λ file all h. h }

pub Follows-trans : (a b c : Spot) → Follows a b → Follows b c → Follows a c
Follows-trans a b c h k = record { fewer = omega arith; wide = omega arith; whole = k.whole ∙ h.whole; bytes = k.bytes ∙ h.bytes; later = IsAtMost-trans a.pos b.pos c.pos h.later k.later; file = k.file ∙ h.file; place = λ file all p. k.place file all (h.place file all p) }

pub advanced_rest : (s : Spot) → (advanced s).glyphs ≡ drop 1 s.glyphs
unfolding advanced
advanced_rest s = over s.glyphs s refl
  where
    over : (gs : List Glyph) (t : Spot) → t.glyphs ≡ gs → (advanced_over gs t).glyphs ≡ drop 1 gs
    over [] t e = e
    over (g ∷ gs) t e = refl

pub advanced_fewer : (s : Spot) → length (advanced s).glyphs ≡ length s.glyphs - 1
unfolding advanced
advanced_fewer s = over s.glyphs s refl
  where
    over : (gs : List Glyph) (t : Spot) → t.glyphs ≡ gs → length (advanced_over gs t).glyphs ≡ length gs - 1
    over [] t e = ap length e
    over (g ∷ gs) t e = omega arith

count_push : (before : List Glyph) (g : Glyph) → count_by is_line_feed (before ++ g ∷ []) ≡ count_by is_line_feed before + cond (is_line_feed g) 1 0
count_push before g = omega (arith, sum_by-append (λ h. cond (is_line_feed h) 1 0) before (g ∷ []))

column_push : (before : List Glyph) (g : Glyph)
    → prefix_len (λ h. not (is_line_feed h)) (reverse (before ++ g ∷ [])) ≡ cond (not (is_line_feed g)) (1 + prefix_len (λ h. not (is_line_feed h)) (reverse before)) 0
column_push before g = rw (reverse-append before (g ∷ [])) refl

abbrev spot_at : ℕ → ℕ → ℕ → Pos
spot_at file line column = record { file = file; line = line; column = column }

same_spot : (file l m c d : ℕ) → l ≡ m → c ≡ d → spot_at file l c ≡ spot_at file m d
same_spot file l m c d e f = rw (e, f) refl

place_char : (b : Bool) (file : ℕ) (before : List Glyph) (g : Glyph) → is_line_feed g ≡ b
    → cond b (spot_at file (count_by is_line_feed before + 1 + 1) 1) (spot_at file (count_by is_line_feed before + 1) (prefix_len (λ h. not (is_line_feed h)) (reverse before) + 1 + 1))
    ≡ place_behind file (before ++ g ∷ [])
place_char true file before g e =
    let lines = count_push before g in let column = column_push before g in
    same_spot file _ _ _ _ (rw (lines, e) (omega arith)) (rw (column, e) refl)
place_char false file before g e =
    let lines = count_push before g in let column = column_push before g in
    same_spot file _ _ _ _ (rw (lines, e) (omega arith)) (rw (column, e) (omega arith))

-- the place behind one glyph more
pub place_more : (file : ℕ) (before : List Glyph) (g : Glyph) → after_glyph g (place_behind file before) ≡ place_behind file (before ++ g ∷ [])
place_more file before (Char c) = place_char (c == 10) file before (Char c) refl
place_more file before (Bad b) = place_char false file before (Bad b) refl

head_of : (bs : List ℕ) (g : Glyph) → Some g ≡ first_glyph bs → glyphs bs ≡ g ∷ glyphs (drop (width g) bs)
unfolding first_glyph
head_of [] g e = cc
head_of (b ∷ bs) g e = let same : glyph_or b (decoded (b ∷ bs)) ≡ g = cc in rw (glyphs_cons b bs, same) refl

pub Follows-advance : (s : Spot) (bs rest : List ℕ) (g : Glyph) (w o : ℕ) (p q : Pos)
    → record { glyphs = glyphs bs; left = length bs; offset = o; pos = p } ≡ s → Some g ≡ first_glyph bs → w ≡ width g → w ≤ length bs → rest ≡ drop w bs → q ≡ after_glyph g p
    → Follows s (record { glyphs = glyphs rest; left = length rest; offset = o + w; pos = q })
Follows-advance s bs rest g w o p q shown first wide fits cut place =
    let at : Spot = record { glyphs = glyphs bs; left = length bs; offset = o; pos = p } in
    let P : Spot → Type 0 = λ t. Follows t (record { glyphs = glyphs rest; left = length rest; offset = o + w; pos = q }) in
    let tail : rest ≡ drop (width g) bs = rw (← wide) cut in
    let longer : length (glyphs bs) ≡ length (glyphs rest) + 1 = omega (arith, ap length (head_of bs g first), ap (λ t. length (glyphs t)) tail) in
    subst P shown (record {
      fewer = omega arith;
      wide = omega (arith, width_positive g);
      whole = omega (arith, ap length cut, length-drop w bs);
      bytes = omega (arith, wide, ap (λ t. size t) (head_of bs g first), sum_by-cons width g (glyphs (drop (width g) bs)), ap (λ t. size (glyphs t)) tail);
      later = rw place (later_glyph g p);
      file = rw place (file_glyph g p);
      place = λ file all h. (
        h.0 ++ g ∷ [],
        h.1 ∙ ap (λ t. h.0 ++ t) (head_of bs g first) ∙ sym (append_assoc h.0 (g ∷ []) (glyphs (drop (width g) bs))) ∙ ap (λ t. (h.0 ++ g ∷ []) ++ glyphs t) (sym tail),
        place ∙ ap (after_glyph g) h.2 ∙ place_more file h.0 g,
      );
    })

pub IsAtMost-same : (p q : Pos) → p ≡ q → IsAtMost p q
IsAtMost-same p q e = rw e (IsAtMost-refl q)
