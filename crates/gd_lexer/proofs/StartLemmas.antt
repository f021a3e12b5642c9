-- The start of a file.
use Rattle.std.proofs.Common.{◌≡◌, ℕ, ◌+◌, length, Bool, true, false, cond, List, [], ◌∷◌, ◌++◌, drop, slice_index, refl, ap, sym, ◌∙◌, arith, subst, inl, inr}
use Rattle.std.specs.Prelude.{◌==◌, ◌&&◌}
use Rattle.std.specs.Char.{encode_utf8}
use Rattle.std.proofs.lemmas.Bool.{and_parts, eqb-true}
use Rattle.gd_lexis.specs.declared.glyph.Glyph.{Glyph}
use Rattle.gd_lexis.specs.declared.glyph.Glyph.TheVariants.{Char, Bad}
use Rattle.gd_lexis.specs.Chars.{Reads, IsFile, begins_with_mark}
use Rattle.gd_lexis.specs.Lexemes.{IsFileFrom, size}
use Rattle.gd_lexer.specs.Glyphs.{glyphs}
use Rattle.gd_lexer.specs.Cursor.{start_of, has_mark, IsAt}
use Rattle.gd_lexer.proofs.DecodeLemmas.{glyphs-Reads}
use Rattle.gd_lexer.proofs.GlyphLemmas.{glyphs_size}

mark_bytes : encode_utf8 0xFEFF ≡ 239 ∷ 187 ∷ 191 ∷ []
unfolding encode_utf8
mark_bytes = refl

marked_file : (rest : List ℕ) (gs : List Glyph) → Reads rest gs → Reads (239 ∷ 187 ∷ 191 ∷ rest) (Char 0xFEFF ∷ gs)
marked_file rest gs r = (refl, (rest, ap (λ t. t ++ rest) (sym mark_bytes), r))

front : (bs rest : List ℕ) → bs ≡ 239 ∷ 187 ∷ 191 ∷ rest → has_mark bs ≡ true
front bs rest e = rw e refl

no_front : (bs : List ℕ) (gs : List Glyph) → has_mark bs ≡ false → Reads bs gs → begins_with_mark gs ≡ false
no_front bs [] h r = refl
no_front bs (Bad b ∷ gs) h r = refl
no_front bs (Char c ∷ gs) h r = decide (c == 0xFEFF) refl
  where
    decide : (t : Bool) → (c == 0xFEFF) ≡ t → (c == 0xFEFF) ≡ false
    decide false e = e
    decide true e = let same : c ≡ 0xFEFF = eqb-true c 0xFEFF e in let whole : bs ≡ 239 ∷ 187 ∷ 191 ∷ r.1.0 = r.1.1 ∙ ap (λ t. encode_utf8 t ++ r.1.0) same ∙ ap (λ t. t ++ r.1.0) mark_bytes in let yes = front bs r.1.0 whole in cc

three_first : (bs : List ℕ) → slice_index bs 0 ≡ 239 → slice_index bs 1 ≡ 187 → slice_index bs 2 ≡ 191 → bs ≡ 239 ∷ 187 ∷ 191 ∷ drop 3 bs
three_first [] d e f = absurd (omega arith)
three_first (a ∷ []) d e f = absurd (omega arith)
three_first (a ∷ b ∷ []) d e f = absurd (omega arith)
three_first (a ∷ b ∷ c ∷ rest) d e f = rw (d, e, f) refl

split : (bs : List ℕ) → has_mark bs ≡ true → bs ≡ 239 ∷ 187 ∷ 191 ∷ drop 3 bs
split bs h =
    let p = and_parts (slice_index bs 0 == 239 && slice_index bs 1 == 187) (slice_index bs 2 == 191) h in
    let q = and_parts (slice_index bs 0 == 239) (slice_index bs 1 == 187) p.0 in
    three_first bs (eqb-true _ 239 q.0) (eqb-true _ 187 q.1) (eqb-true _ 191 p.1)

file_of : (b : Bool) (bs : List ℕ) → has_mark bs ≡ b → IsFile bs (glyphs (drop (cond b 3 0) bs))
file_of true bs h = let P : List ℕ → Type 0 = λ t. Reads t (Char 0xFEFF ∷ glyphs (drop 3 bs)) in inl (subst P (sym (split bs h)) (marked_file (drop 3 bs) (glyphs (drop 3 bs)) (glyphs-Reads (drop 3 bs))))
file_of false bs h = inr (glyphs-Reads bs, no_front bs (glyphs bs) h (glyphs-Reads bs))

bytes_of : (b : Bool) (bs : List ℕ) → has_mark bs ≡ b → cond b 3 0 + size (glyphs (drop (cond b 3 0) bs)) ≡ length bs
bytes_of true bs h = omega (arith, glyphs_size (drop 3 bs), ap length (split bs h))
bytes_of false bs h = omega (arith, glyphs_size bs)

pub start_file : (file : ℕ) (bs : List ℕ) → IsFileFrom bs (start_of file bs).offset (start_of file bs).glyphs
start_file file bs = (file_of (has_mark bs) bs refl, bytes_of (has_mark bs) bs refl)

pub start_at : (file : ℕ) (bs : List ℕ) → IsAt file (start_of file bs).glyphs (start_of file bs)
start_at file bs = ([], refl, refl)
