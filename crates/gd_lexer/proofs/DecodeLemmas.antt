-- Bytes are read as their glyphs.
use Rattle.std.proofs.Common.{◌≡◌, ℕ, zero, suc, ◌+◌, ◌-◌, ◌*◌, ◌/◌, ◌%◌, ◌≤◌, ◌<◌, true, false, cond, Bool, List, [], ◌∷◌, ◌++◌, length, drop, refl, ap, sym, ◌∙◌, arith, subst, drop_at, length-drop}
use Rattle.std.proofs.lemmas.Bool.Decides.{nat_tests}
use Rattle.std.proofs.lemmas.Bool.{lt-ltb, le-ltb, le-leb, and_parts, ltb-true, ltb-false, leb-true}
use Rattle.std.proofs.lemmas.Str.{length-encode}
use Rattle.std.specs.Prelude.{Option, Some, None, ◌&&◌, nat_lt, nat_le}
use Rattle.std.specs.Char.{IsScalar, len_utf8, encode_utf8}
use Rattle.std.specs.Str.{StartsWithNoChar}
use Rattle.gd_lexis.specs.declared.glyph.Glyph.{Glyph}
use Rattle.gd_lexis.specs.Chars.{Reads}
use Rattle.gd_lexis.specs.Lexemes.{width}
use Rattle.gd_lexer.specs.Glyphs.{is_scalar, scalar_of, continues, two, three, three_code, four, four_code, decoded, glyph_or, glyphs}
use Rattle.gd_lexer.proofs.GlyphLemmas.{glyphs_cons, width_positive}

pub taken : {A : Type 0} (b : Bool) (x y z : A) → b ≡ true → x ≡ z → cond b x y ≡ z
taken true x y z h e = e
taken false x y z h e = cc

pub left : {A : Type 0} (b : Bool) (x y z : A) → b ≡ false → y ≡ z → cond b x y ≡ z
left true x y z h e = cc
left false x y z h e = e

pub pick : {A : Type 0} (P : Type 0) (b : Bool) (x y z : A) → (b ≡ true → x ≡ z → P) → (b ≡ false → y ≡ z → P) → cond b x y ≡ z → P
pick P true x y z f g e = f refl e
pick P false x y z f g e = g refl e

scalar_again : (c : ℕ) → IsScalar c → scalar_of c ≡ Some c
scalar_again c s = taken (is_scalar c) (Some c) None (Some c) s refl

-- ---- what is written is decoded

next_continues : (n : ℕ) → continues (128 + n % 64) ≡ true
next_continues n = let small : n % 64 < 64 = omega arith in grind (arith, nat_tests)

encode_1 : (c : ℕ) → c < 128 → encode_utf8 c ≡ c ∷ []
unfolding encode_utf8
encode_1 c h = taken (nat_lt c 128) _ _ _ (lt-ltb c 128 h) refl

encode_2 : (c : ℕ) → 128 ≤ c → c < 2048 → encode_utf8 c ≡ (192 + c / 64) ∷ (128 + c % 64) ∷ []
unfolding encode_utf8
encode_2 c h k = left (nat_lt c 128) _ _ _ (le-ltb c 128 h) (taken (nat_lt c 2048) _ _ _ (lt-ltb c 2048 k) refl)

encode_3 : (c : ℕ) → 2048 ≤ c → c < 65536 → encode_utf8 c ≡ (224 + c / 4096) ∷ (128 + (c / 64) % 64) ∷ (128 + c % 64) ∷ []
unfolding encode_utf8
encode_3 c h k =
    left (nat_lt c 128) _ _ _ (le-ltb c 128 (omega arith)) (left (nat_lt c 2048) _ _ _ (le-ltb c 2048 h) (taken (nat_lt c 65536) _ _ _ (lt-ltb c 65536 k) refl))

encode_4 : (c : ℕ) → 65536 ≤ c → encode_utf8 c ≡ (240 + c / 262144) ∷ (128 + (c / 4096) % 64) ∷ (128 + (c / 64) % 64) ∷ (128 + c % 64) ∷ []
unfolding encode_utf8
encode_4 c h =
    left (nat_lt c 128) _ _ _ (le-ltb c 128 (omega arith)) (left (nat_lt c 2048) _ _ _ (le-ltb c 2048 (omega arith)) (left (nat_lt c 65536) _ _ _ (le-ltb c 65536 h) refl))

decoded_1 : (a : ℕ) (bs : List ℕ) → a < 0x80 → decoded (a ∷ bs) ≡ Some a
unfolding decoded
decoded_1 a bs h = taken (nat_lt a 0x80) _ _ _ (lt-ltb a 0x80 h) refl

decoded_2 : (a : ℕ) (bs : List ℕ) → 0xC2 ≤ a → a < 0xE0 → decoded (a ∷ bs) ≡ two a bs
unfolding decoded
decoded_2 a bs h k =
    left (nat_lt a 0x80) _ _ _ (le-ltb a 0x80 (omega arith)) (left (nat_lt a 0xC2) _ _ _ (le-ltb a 0xC2 h) (taken (nat_lt a 0xE0) _ _ _ (lt-ltb a 0xE0 k) refl))

decoded_3 : (a : ℕ) (bs : List ℕ) → 0xE0 ≤ a → a < 0xF0 → decoded (a ∷ bs) ≡ three a bs
unfolding decoded
decoded_3 a bs h k =
    left (nat_lt a 0x80) _ _ _ (le-ltb a 0x80 (omega arith)) (left (nat_lt a 0xC2) _ _ _ (le-ltb a 0xC2 (omega arith))
    (left (nat_lt a 0xE0) _ _ _ (le-ltb a 0xE0 h) (taken (nat_lt a 0xF0) _ _ _ (lt-ltb a 0xF0 k) refl)))

decoded_4 : (a : ℕ) (bs : List ℕ) → 0xF0 ≤ a → a < 0xF5 → decoded (a ∷ bs) ≡ four a bs
unfolding decoded
decoded_4 a bs h k =
    left (nat_lt a 0x80) _ _ _ (le-ltb a 0x80 (omega arith)) (left (nat_lt a 0xC2) _ _ _ (le-ltb a 0xC2 (omega arith))
    (left (nat_lt a 0xE0) _ _ _ (le-ltb a 0xE0 (omega arith)) (left (nat_lt a 0xF0) _ _ _ (le-ltb a 0xF0 h) (taken (nat_lt a 0xF5) _ _ _ (lt-ltb a 0xF5 k) refl))))

two_again : (c : ℕ) (rest : List ℕ) → 128 ≤ c → c < 2048 → IsScalar c → two (192 + c / 64) ((128 + c % 64) ∷ rest) ≡ Some c
two_again c rest h k s =
    let same : (192 + c / 64 - 0xC0) * 64 + (128 + c % 64 - 0x80) ≡ c = omega arith in
    taken (continues (128 + c % 64)) _ _ _ (next_continues c) (ap scalar_of same ∙ scalar_again c s)

three_again : (c : ℕ) (rest : List ℕ) → 2048 ≤ c → c < 65536 → IsScalar c → three (224 + c / 4096) ((128 + (c / 64) % 64) ∷ (128 + c % 64) ∷ rest) ≡ Some c
three_again c rest h k s =
    let same : three_code (224 + c / 4096) (128 + (c / 64) % 64) (128 + c % 64) ≡ c = omega arith in
    let low : nat_le 0x800 (three_code (224 + c / 4096) (128 + (c / 64) % 64) (128 + c % 64)) ≡ true = ap (nat_le 0x800) same ∙ le-leb 0x800 c h in
    taken (continues (128 + (c / 64) % 64) && continues (128 + c % 64) && nat_le 0x800 (three_code (224 + c / 4096) (128 + (c / 64) % 64) (128 + c % 64))) _ _ _ (rw (next_continues (c / 64), next_continues c) low) (ap scalar_of same ∙ scalar_again c s)

four_again : (c : ℕ) (rest : List ℕ) → 65536 ≤ c → c < 0x110000 → IsScalar c
    → four (240 + c / 262144) ((128 + (c / 4096) % 64) ∷ (128 + (c / 64) % 64) ∷ (128 + c % 64) ∷ rest) ≡ Some c
four_again c rest h k s =
    let same : four_code (240 + c / 262144) (128 + (c / 4096) % 64) (128 + (c / 64) % 64) (128 + c % 64) ≡ c = omega arith in
    let low : nat_le 0x10000 (four_code (240 + c / 262144) (128 + (c / 4096) % 64) (128 + (c / 64) % 64) (128 + c % 64)) ≡ true = ap (nat_le 0x10000) same ∙ le-leb 0x10000 c h in
    taken (continues (128 + (c / 4096) % 64) && continues (128 + (c / 64) % 64) && continues (128 + c % 64) && nat_le 0x10000 (four_code (240 + c / 262144) (128 + (c / 4096) % 64) (128 + (c / 64) % 64) (128 + c % 64))) _ _ _ (rw (next_continues (c / 4096), next_continues (c / 64), next_continues c) low) (ap scalar_of same ∙ scalar_again c s)

scalar_small : (c : ℕ) → IsScalar c → c < 0x110000
scalar_small c s = grind (arith, nat_tests)

decoded-encode : (c : ℕ) (rest : List ℕ) → IsScalar c → decoded (encode_utf8 c ++ rest) ≡ Some c
decoded-encode c rest s =
    by_size (nat_lt c 128) (nat_lt c 2048) (nat_lt c 65536) refl refl refl
  where
    by_size : (x y z : Bool) → nat_lt c 128 ≡ x → nat_lt c 2048 ≡ y → nat_lt c 65536 ≡ z → decoded (encode_utf8 c ++ rest) ≡ Some c
    by_size true y z p q r = let h : c < 128 = ltb-true c 128 p in rw (encode_1 c h) (decoded_1 c rest h)
    by_size false true z p q r =
        let h : 128 ≤ c = ltb-false c 128 p in let k : c < 2048 = ltb-true c 2048 q in
        rw (encode_2 c h k) (decoded_2 (192 + c / 64) _ (omega arith) (omega arith) ∙ two_again c rest h k s)
    by_size false false true p q r =
        let h : 2048 ≤ c = ltb-false c 2048 q in let k : c < 65536 = ltb-true c 65536 r in
        rw (encode_3 c h k) (decoded_3 (224 + c / 4096) _ (omega arith) (omega arith) ∙ three_again c rest h k s)
    by_size false false false p q r =
        let h : 65536 ≤ c = ltb-false c 65536 r in let k : c < 0x110000 = scalar_small c s in
        rw (encode_4 c h) (decoded_4 (240 + c / 262144) _ (omega arith) (omega arith) ∙ four_again c rest h k s)

-- ---- what is decoded was written

abbrev Begins : List ℕ → ℕ → Type 0
Begins bs c = IsScalar c × ((rest : List ℕ) × (bs ≡ encode_utf8 c ++ rest))

scalar_is : (n c : ℕ) → scalar_of n ≡ Some c → IsScalar c × (n ≡ c)
scalar_is n c = pick _ (is_scalar n) (Some n) None (Some c) (λ s e. let same : n ≡ c = cc in (subst (λ k. is_scalar k ≡ true) same s, same)) (λ s e. cc)

continues_in : (b : ℕ) → continues b ≡ true → (0x80 ≤ b) × (b < 0xC0)
continues_in b h = let both = and_parts (nat_le 0x80 b) (nat_lt b 0xC0) h in (leb-true 0x80 b both.0, ltb-true b 0xC0 both.1)

two_was : (a : ℕ) (bs : List ℕ) (c : ℕ) → 0xC2 ≤ a → a < 0xE0 → two a bs ≡ Some c → Begins (a ∷ bs) c
two_was a [] c h k e = cc
two_was a (b ∷ bs) c h k was =
    pick _ (continues b) _ None (Some c)
    (λ t e.
    let r = continues_in b t in
    let s = scalar_is ((a - 0xC0) * 64 + (b - 0x80)) c e in
    let same : (a - 0xC0) * 64 + (b - 0x80) ≡ c = s.1 in
    let low : 128 ≤ c = omega (arith, r.0, r.1) in
    let high : c < 2048 = omega (arith, r.0, r.1) in
    let first : 192 + c / 64 ≡ a = omega (arith, r.0, r.1) in
    let second : 128 + c % 64 ≡ b = omega (arith, r.0, r.1) in
    (s.0, (bs, rw (encode_2 c low high, first, second) refl)))
    (λ t e. cc) was

three_was : (a : ℕ) (bs : List ℕ) (c : ℕ) → 0xE0 ≤ a → a < 0xF0 → three a bs ≡ Some c → Begins (a ∷ bs) c
three_was a [] c h k e = cc
three_was a (b ∷ []) c h k e = cc
three_was a (b ∷ d ∷ bs) c h k was =
    pick _ (continues b && continues d && nat_le 0x800 (three_code a b d)) _ None (Some c)
    (λ t e.
    let both = and_parts (continues b && continues d) (nat_le 0x800 (three_code a b d)) t in
    let two_parts = and_parts (continues b) (continues d) both.0 in
    let r = continues_in b two_parts.0 in
    let q = continues_in d two_parts.1 in
    let s = scalar_is (three_code a b d) c e in
    let same : (a - 0xE0) * 4096 + (b - 0x80) * 64 + (d - 0x80) ≡ c = s.1 in
    let low : 2048 ≤ c = omega (arith, leb-true 0x800 (three_code a b d) both.1) in
    let high : c < 65536 = omega (arith, r.0, r.1, q.0, q.1) in
    let first : 224 + c / 4096 ≡ a = omega (arith, r.0, r.1, q.0, q.1) in
    let second : 128 + (c / 64) % 64 ≡ b = omega (arith, r.0, r.1, q.0, q.1) in
    let third : 128 + c % 64 ≡ d = omega (arith, r.0, r.1, q.0, q.1) in
    (s.0, (bs, rw (encode_3 c low high, first, second, third) refl)))
    (λ t e. cc) was

four_was : (a : ℕ) (bs : List ℕ) (c : ℕ) → 0xF0 ≤ a → a < 0xF5 → four a bs ≡ Some c → Begins (a ∷ bs) c
four_was a [] c h k e = cc
four_was a (b ∷ []) c h k e = cc
four_was a (b ∷ d ∷ []) c h k e = cc
four_was a (b ∷ d ∷ f ∷ bs) c h k was =
    pick _ (continues b && continues d && continues f && nat_le 0x10000 (four_code a b d f)) _ None (Some c)
    (λ t e.
    let both = and_parts (continues b && continues d && continues f) (nat_le 0x10000 (four_code a b d f)) t in
    let more = and_parts (continues b && continues d) (continues f) both.0 in
    let two_parts = and_parts (continues b) (continues d) more.0 in
    let r = continues_in b two_parts.0 in
    let q = continues_in d two_parts.1 in
    let p = continues_in f more.1 in
    let s = scalar_is (four_code a b d f) c e in
    let same : (a - 0xF0) * 262144 + (b - 0x80) * 4096 + (d - 0x80) * 64 + (f - 0x80) ≡ c = s.1 in
    let low : 65536 ≤ c = omega (arith, leb-true 0x10000 (four_code a b d f) both.1) in
    let first : 240 + c / 262144 ≡ a = omega (arith, r.0, r.1, q.0, q.1, p.0, p.1) in
    let second : 128 + (c / 4096) % 64 ≡ b = omega (arith, r.0, r.1, q.0, q.1, p.0, p.1) in
    let third : 128 + (c / 64) % 64 ≡ d = omega (arith, r.0, r.1, q.0, q.1, p.0, p.1) in
    let fourth : 128 + c % 64 ≡ f = omega (arith, r.0, r.1, q.0, q.1, p.0, p.1) in
    (s.0, (bs, rw (encode_4 c low, first, second, third, fourth) refl)))
    (λ t e. cc) was

decoded_was : (bs : List ℕ) (c : ℕ) → decoded bs ≡ Some c → Begins bs c
unfolding decoded
decoded_was [] c e = cc
decoded_was (a ∷ bs) c was =
    pick _ (nat_lt a 0x80) (Some a) _ (Some c)
    (λ t e.
    let same : a ≡ c = cc in
    let small : c < 128 = omega (arith, ltb-true a 0x80 t) in
    let scalar : IsScalar c = grind (arith, nat_tests) in
    (scalar, (bs, rw (encode_1 c small, same) refl)))
    (λ _. pick _ (nat_lt a 0xC2) None _ (Some c) (λ _ e. cc)
    (λ low. pick _ (nat_lt a 0xE0) (two a bs) _ (Some c) (λ t. two_was a bs c (ltb-false a 0xC2 low) (ltb-true a 0xE0 t))
    (λ low. pick _ (nat_lt a 0xF0) (three a bs) _ (Some c) (λ t. three_was a bs c (ltb-false a 0xE0 low) (ltb-true a 0xF0 t))
    (λ low. pick _ (nat_lt a 0xF5) (four a bs) None (Some c) (λ t. four_was a bs c (ltb-false a 0xF0 low) (ltb-true a 0xF5 t)) (λ _ e. cc))))) was

-- ---- the glyphs of some bytes

no_char : (bs : List ℕ) → decoded bs ≡ None → StartsWithNoChar bs
no_char bs none c rest s e = let some : decoded bs ≡ Some c = rw e (decoded-encode c rest s) in cc

one_more : (b : ℕ) (bs : List ℕ) (o : Option ℕ) → decoded (b ∷ bs) ≡ o → Reads (drop (width (glyph_or b o)) (b ∷ bs)) (glyphs (drop (width (glyph_or b o)) (b ∷ bs)))
    → Reads (b ∷ bs) (glyph_or b o ∷ glyphs (drop (width (glyph_or b o)) (b ∷ bs)))
one_more b bs (Some c) e r =
    let was = decoded_was (b ∷ bs) c e in
    let cut : drop (len_utf8 c) (b ∷ bs) ≡ was.1.0 = ap (drop (len_utf8 c)) was.1.1 ∙ drop_at (encode_utf8 c) was.1.0 (len_utf8 c) (length-encode c) in
    (was.0, (drop (len_utf8 c) (b ∷ bs), was.1.1 ∙ ap (λ t. encode_utf8 c ++ t) (sym cut), r))
one_more b bs None e r = (no_char (b ∷ bs) e, (bs, refl, r))

reads_nothing : Reads [] (glyphs [])
unfolding glyphs
reads_nothing = refl

reads_up_to : (n : ℕ) (bs : List ℕ) → length bs ≤ n → Reads bs (glyphs bs)
reads_up_to n [] h = reads_nothing
reads_up_to zero (b ∷ bs) h = absurd (omega arith)
reads_up_to (suc n) (b ∷ bs) h =
    let g = glyph_or b (decoded (b ∷ bs)) in
    let rest = drop (width g) (b ∷ bs) in
    let P : List Glyph → Type 0 = λ t. Reads (b ∷ bs) t in
    let shorter : length rest ≤ n = omega (arith, length-drop (width g) (b ∷ bs), width_positive g) in
    subst P (sym (glyphs_cons b bs)) (one_more b bs (decoded (b ∷ bs)) refl (reads_up_to n rest shorter))

pub glyphs-Reads : (bs : List ℕ) → Reads bs (glyphs bs)
glyphs-Reads bs = reads_up_to (length bs) bs (omega arith)
