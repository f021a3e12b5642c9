-- Laws of a name's ASCII characters, which are taken whole.
use Rattle.std.proofs.Common.{◌≡◌, ℕ, ◌+◌, ◌<◌, false, List, [], ◌∷◌, ◌++◌, length, map, take, drop, refl, ap, sym, ◌∙◌, arith, subst}
use Rattle.std.proofs.lemmas.Bool.Decides.{nat_tests}
use Rattle.std.proofs.lemmas.List.{take-append-drop, get_or-take}
use Rattle.std.proofs.lemmas.List.Elements.{All-head, All-tail}
use Rattle.std.proofs.lemmas.List.Folds.{length-prefix_len}
use Rattle.std.proofs.lemmas.List.Sums.{prefix_len_passes}
use Rattle.std.specs.List.{prefix_len}
use Rattle.std.specs.Prelude.{◌==◌, All, IsTrue}
use Rattle.gd_syntax.specs.declared.pos.Pos.{Pos}
use Rattle.gd_lexis.specs.declared.glyph.Glyph.TheVariants.{Char}
use Rattle.gd_lexis.specs.Words.{GoesOn}
use Rattle.gd_lexer.specs.Glyphs.{decoded, glyph_or, glyphs}
use Rattle.gd_lexer.specs.Cursor.{Spot, after_glyph}
use Rattle.gd_lexer.specs.Follows.{Follows}
use Rattle.gd_lexer.specs.Name.{is_word_byte}
use Rattle.gd_lexer.proofs.GlyphLemmas.{glyphs_cons}
use Rattle.gd_lexer.proofs.CursorLemmas.{ascii_first, ascii_width}
use Rattle.gd_lexer.proofs.NameLemmas.{ascii_continues}
use Rattle.gd_lexer.proofs.FollowsLemmas.{Follows-refl, Follows-trans, Follows-advance}

-- an ASCII character with which a name goes on
abbrev IsWordByte : ℕ → Type 0
IsWordByte b = IsTrue (is_word_byte b)

is_ascii : (b : ℕ) → IsWordByte b → b < 128
is_ascii b h = grind (arith, nat_tests)

goes_on : (b : ℕ) → IsWordByte b → GoesOn b
goes_on b h = grind (arith, nat_tests)

-- a line feed goes on no name
no_line_feed : (b : ℕ) → IsWordByte b → (b == 10) ≡ false
no_line_feed b h = grind (arith, nat_tests, ascii_continues)

glyphs_ascii : (b : ℕ) (bs : List ℕ) → b < 128 → glyphs (b ∷ bs) ≡ Char b ∷ glyphs bs
unfolding decoded
glyphs_ascii b bs h =
    let same : glyph_or b (decoded (b ∷ bs)) ≡ Char b = grind (arith, nat_tests) in
    rw (glyphs_cons b bs, same, ← ascii_width b h) refl

glyphs_word : (w bs : List ℕ) → All IsWordByte w → glyphs (w ++ bs) ≡ map Char w ++ glyphs bs
glyphs_word [] bs h = refl
glyphs_word (b ∷ w) bs h = glyphs_ascii b (w ++ bs) (is_ascii b (All-head IsWordByte b w h)) ∙ ap (λ t. Char b ∷ t) (glyphs_word w bs (All-tail IsWordByte b w h))

-- what a cursor shows that has these bytes left, behind so many, at this place
abbrev pub spot : List ℕ → ℕ → Pos → Spot
spot bs o p = record { glyphs = glyphs bs; left = length bs; offset = o; pos = p }

-- the place at another column of the line
abbrev pub at_column : Pos → ℕ → Pos
at_column p c = record { file = p.file; line = p.line; column = c }

same_spot : (bs : List ℕ) (o u : ℕ) (p : Pos) (c d : ℕ) → o ≡ u → c ≡ d → spot bs o (at_column p c) ≡ spot bs u (at_column p d)
same_spot bs o u p c d e f = rw (e, f) refl

Follows-ascii : (b : ℕ) (bs : List ℕ) (o : ℕ) (p : Pos) → IsWordByte b → Follows (spot (b ∷ bs) o p) (spot bs (o + 1) (at_column p (p.column + 1)))
Follows-ascii b bs o p h =
    let small = is_ascii b h in
    let place : at_column p (p.column + 1) ≡ after_glyph (Char b) p = rw (no_line_feed b h) refl in
    Follows-advance (spot (b ∷ bs) o p) (b ∷ bs) bs (Char b) 1 o p (at_column p (p.column + 1)) refl (ascii_first (b ∷ bs) (omega arith) small) (ascii_width b small) (omega arith) refl place

-- such characters are gone over a byte and a column each
Follows-word : (w bs : List ℕ) (o : ℕ) (p : Pos) → All IsWordByte w → Follows (spot (w ++ bs) o p) (spot bs (o + length w) (at_column p (p.column + length w)))
Follows-word [] bs o p h =
    let same = same_spot bs o (o + 0) p p.column (p.column + 0) (omega arith) (omega arith) in
    subst (λ t. Follows (spot bs o p) t) same (Follows-refl (spot bs o p))
Follows-word (b ∷ w) bs o p h =
    let first = Follows-ascii b (w ++ bs) o p (All-head IsWordByte b w h) in
    let others = Follows-word w bs (o + 1) (at_column p (p.column + 1)) (All-tail IsWordByte b w h) in
    let same = same_spot bs (o + 1 + length w) (o + length (b ∷ w)) p (p.column + 1 + length w) (p.column + length (b ∷ w)) (omega arith) (omega arith) in
    subst (λ t. Follows (spot (b ∷ (w ++ bs)) o p) t) same (Follows-trans _ _ _ first others)

-- ---- as many of them as come next

All-taken : (bs : List ℕ) (n : ℕ) → n ≡ prefix_len is_word_byte bs → All IsWordByte (take n bs)
All-taken bs n e k d l =
    let within : k < n = omega (arith, length-prefix_len is_word_byte bs, ap (λ m. length (take m bs)) e, e) in
    rw (get_or-take n bs k d within) (prefix_len_passes is_word_byte bs k d (omega (arith, e)))

pub taken_goes_on : (bs : List ℕ) (n : ℕ) → n ≡ prefix_len is_word_byte bs → All GoesOn (take n bs)
taken_goes_on bs n e k d l = goes_on _ (All-taken bs n e k d l)

pub glyphs_taken : (s : Spot) (bs rest : List ℕ) (n o : ℕ) (p : Pos) → spot bs o p ≡ s → n ≡ prefix_len is_word_byte bs → rest ≡ drop n bs → s.glyphs ≡ map Char (take n bs) ++ glyphs rest
glyphs_taken s bs rest n o p shown e cut =
    sym (ap (λ (t : Spot). t.glyphs) shown) ∙ ap glyphs (sym (take-append-drop n bs)) ∙ glyphs_word (take n bs) (drop n bs) (All-taken bs n e) ∙ ap (λ t. map Char (take n bs) ++ glyphs t) (sym cut)

pub Follows-taken : (s : Spot) (bs rest : List ℕ) (n o : ℕ) (p : Pos) → spot bs o p ≡ s → n ≡ prefix_len is_word_byte bs → rest ≡ drop n bs → Follows s (spot rest (o + n) (at_column p (p.column + n)))
Follows-taken s bs rest n o p shown e cut =
    let long : length (take n bs) ≡ n = rw e (length-prefix_len is_word_byte bs) in
    let word = Follows-word (take n bs) (drop n bs) o p (All-taken bs n e) in
    let whole : Follows (spot bs o p) (spot (drop n bs) (o + n) (at_column p (p.column + n))) = rw (take-append-drop n bs, long) at word in
    subst (λ t. Follows t (spot rest (o + n) (at_column p (p.column + n)))) shown (rw cut whole)
