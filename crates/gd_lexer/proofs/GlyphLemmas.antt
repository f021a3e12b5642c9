-- Laws of glyphs.
use Rattle.std.proofs.Common.{◌≡◌, ℕ, zero, suc, ◌+◌, ◌-◌, ◌*◌, ◌≤◌, ◌<◌, true, false, cond, Bool, List, [], ◌∷◌, length, drop, refl, ap, sym, ◌∙◌, arith, subst}
use Rattle.std.proofs.lemmas.Bool.Decides.{nat_tests}
use Rattle.std.proofs.lemmas.List.Sums.{sum_by-cons}
use Rattle.std.specs.Prelude.{Option, Some, None, IfSome, ◌&&◌, nat_lt, nat_le}
use Rattle.std.specs.Char.{len_utf8}
use Rattle.gd_lexis.specs.declared.glyph.Glyph.{Glyph}
use Rattle.gd_lexis.specs.declared.glyph.Glyph.TheVariants.{Char, Bad}
use Rattle.gd_lexis.specs.Lexemes.{width, size}
use Rattle.gd_lexer.specs.Glyphs.{is_scalar, scalar_of, continues, two, three, three_code, four, four_code, decoded, glyph_or, first_glyph, glyphs_past, glyphs}

len_two : (c : ℕ) → c < 0x800 → len_utf8 c ≤ 2
len_two c h = grind (arith, nat_tests)

len_three : (c : ℕ) → c < 0x10000 → len_utf8 c ≤ 3
len_three c h = grind (arith, nat_tests)

len_four : (c : ℕ) → len_utf8 c ≤ 4
len_four c = grind (arith, nat_tests)

scalar_within : (x c n : ℕ) → 1 ≤ n → len_utf8 c ≤ n → width (glyph_or x (scalar_of c)) ≤ n
scalar_within x c n one fits = elim (is_scalar c) as (λ t. width (glyph_or x (cond t (Some c) None)) ≤ n) [ true ↦ fits | false ↦ one ]

-- what a test lets through is within the bound, and what it does not is one byte
tested : (x c n : ℕ) (t : Bool) → 1 ≤ n → (t ≡ true → len_utf8 c ≤ n) → width (glyph_or x (cond t (scalar_of c) None)) ≤ n
tested x c n true one fits = scalar_within x c n one (fits refl)
tested x c n false one fits = one

two_within : (x a : ℕ) (bs : List ℕ) → a < 0xE0 → width (glyph_or x (two a bs)) ≤ length bs + 1
two_within x a [] h = omega arith
two_within x a (b ∷ bs) h =
    tested x ((a - 0xC0) * 64 + (b - 0x80)) (length (b ∷ bs) + 1) (continues b) (omega arith)
    (λ t. let small : (a - 0xC0) * 64 + (b - 0x80) < 0x800 = grind (arith, nat_tests) in omega (arith, len_two _ small))

three_within : (x a : ℕ) (bs : List ℕ) → a < 0xF0 → width (glyph_or x (three a bs)) ≤ length bs + 1
three_within x a [] h = omega arith
three_within x a (b ∷ []) h = omega arith
three_within x a (b ∷ c ∷ bs) h =
    tested x (three_code a b c) (length (b ∷ c ∷ bs) + 1) (continues b && continues c && nat_le 0x800 (three_code a b c)) (omega arith)
    (λ t. let small : three_code a b c < 0x10000 = grind (arith, nat_tests) in omega (arith, len_three _ small))

four_within : (x a : ℕ) (bs : List ℕ) → width (glyph_or x (four a bs)) ≤ length bs + 1
four_within x a [] = omega arith
four_within x a (b ∷ []) = omega arith
four_within x a (b ∷ c ∷ []) = omega arith
four_within x a (b ∷ c ∷ d ∷ bs) =
    tested x (four_code a b c d) (length (b ∷ c ∷ d ∷ bs) + 1) (continues b && continues c && continues d && nat_le 0x10000 (four_code a b c d)) (omega arith)
    (λ t. omega (arith, len_four (four_code a b c d)))

chosen : (b : Bool) (x y : Option ℕ) (w n : ℕ) → (b ≡ true → width (glyph_or w x) ≤ n) → (b ≡ false → width (glyph_or w y) ≤ n) → width (glyph_or w (cond b x y)) ≤ n
chosen true x y w n f g = f refl
chosen false x y w n f g = g refl

decoded_within : (b : ℕ) (bs : List ℕ) → width (glyph_or b (decoded (b ∷ bs))) ≤ length bs + 1
unfolding decoded
decoded_within b bs =
    chosen (nat_lt b 0x80) _ _ b (length bs + 1) (λ h. grind (arith, nat_tests))
    (λ _. chosen (nat_lt b 0xC2) _ _ b (length bs + 1) (λ _. omega arith)
    (λ _. chosen (nat_lt b 0xE0) _ _ b (length bs + 1) (λ h. let small : b < 0xE0 = grind (arith, nat_tests) in two_within b b bs small)
    (λ _. chosen (nat_lt b 0xF0) _ _ b (length bs + 1) (λ h. let small : b < 0xF0 = grind (arith, nat_tests) in three_within b b bs small)
    (λ _. chosen (nat_lt b 0xF5) _ _ b (length bs + 1) (λ _. four_within b b bs) (λ _. omega arith)))))

pub width_positive : (g : Glyph) → 1 ≤ width g
width_positive (Char c) = grind (arith, nat_tests)
width_positive (Bad b) = omega arith

pub first_within : (bs : List ℕ) → IfSome (first_glyph bs) (λ g. width g ≤ length bs)
unfolding first_glyph
first_within [] = tt
first_within (b ∷ bs) = omega (arith, decoded_within b bs)

glyphs_past-drop : (n : ℕ) (bs : List ℕ) → glyphs_past n bs ≡ glyphs_past 0 (drop n bs)
glyphs_past-drop zero bs = refl
glyphs_past-drop (suc n) [] = refl
glyphs_past-drop (suc n) (b ∷ bs) = glyphs_past-drop n bs

drop-cons : (n b : ℕ) (bs : List ℕ) → 1 ≤ n → drop (n - 1) bs ≡ drop n (b ∷ bs)
drop-cons zero b bs h = absurd (omega arith)
drop-cons (suc n) b bs h = let e : suc n - 1 ≡ n = omega arith in ap (λ k. drop k bs) e

pub decoded_fits : (bs : List ℕ) (c : ℕ) → Some c ≡ decoded bs → len_utf8 c ≤ length bs
unfolding decoded
decoded_fits [] c e = cc
decoded_fits (b ∷ bs) c e = let P : Option ℕ → Type 0 = λ o. width (glyph_or b o) ≤ length bs + 1 in let h : len_utf8 c ≤ length bs + 1 = subst P (sym e) (decoded_within b bs) in omega arith

pub glyphs_cons : (b : ℕ) (bs : List ℕ) → glyphs (b ∷ bs) ≡ glyph_or b (decoded (b ∷ bs)) ∷ glyphs (drop (width (glyph_or b (decoded (b ∷ bs)))) (b ∷ bs))
unfolding glyphs
glyphs_cons b bs =
    let g = glyph_or b (decoded (b ∷ bs)) in
    ap (λ t. g ∷ t) (glyphs_past-drop (width g - 1) bs ∙ ap (λ t. glyphs_past 0 t) (drop-cons (width g) b bs (width_positive g)))

past_few : (n : ℕ) (bs : List ℕ) → length (glyphs_past n bs) ≤ length bs
past_few n [] = omega arith
past_few (suc n) (b ∷ bs) = omega (arith, past_few n bs)
past_few zero (b ∷ bs) = omega (arith, past_few (width (glyph_or b (decoded (b ∷ bs))) - 1) bs)

-- a glyph has at least a byte
pub glyphs_few : (bs : List ℕ) → length (glyphs bs) ≤ length bs
unfolding glyphs
glyphs_few bs = past_few 0 bs

past_size : (n : ℕ) (bs : List ℕ) → n ≤ length bs → n + size (glyphs_past n bs) ≡ length bs
past_size n [] h = omega arith
past_size (suc n) (b ∷ bs) h = omega (arith, past_size n bs (omega arith))
past_size zero (b ∷ bs) h =
    let g = glyph_or b (decoded (b ∷ bs)) in
    let one = width_positive g in
    let fits = decoded_within b bs in
    omega (arith, one, fits, sum_by-cons width g (glyphs_past (width g - 1) bs), past_size (width g - 1) bs (omega arith))

-- all bytes are those of glyphs
pub glyphs_size : (bs : List ℕ) → size (glyphs bs) ≡ length bs
unfolding glyphs
glyphs_size bs = omega (arith, past_size 0 bs (omega arith))
