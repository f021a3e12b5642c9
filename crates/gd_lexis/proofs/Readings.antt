-- Bytes read in one way.
use Rattle.std.proofs.Common.{◌≡◌, ℕ, ◌≤◌, List, [], ◌∷◌, ◌++◌, length, refl, ap, sym, ◌∙◌, arith, subst, length-append}
use Rattle.std.specs.Prelude.{encode_utf8}
use Rattle.std.proofs.lemmas.Str.{encode_same, length-encode, len_utf8_bounds}
use Rattle.gd_lexis.specs.declared.glyph.Glyph.{Glyph}
use Rattle.gd_lexis.specs.declared.glyph.Glyph.TheVariants.{Char, Bad}
use Rattle.gd_lexis.specs.Chars.{Reads}

longer : (c : ℕ) (rest : List ℕ) → 1 ≤ length (encode_utf8 c ++ rest)
longer c rest = omega (arith, length-append (encode_utf8 c) rest, length-encode c, len_utf8_bounds c)

no_char : (bs rest : List ℕ) (c : ℕ) → bs ≡ [] → bs ≡ encode_utf8 c ++ rest → ⊥
no_char bs rest c e h = omega (arith, longer c rest, ap length e, ap length h)

pub one_reading : (gs hs : List Glyph) (bs : List ℕ) → Reads bs gs → Reads bs hs → gs ≡ hs
one_reading [] [] bs r s = refl
one_reading [] (Char d ∷ hs) bs r s = absurd (no_char bs s.1.0 d r s.1.1)
one_reading [] (Bad d ∷ hs) bs r s = let e : [] ≡ d ∷ s.1.0 = sym r ∙ s.1.1 in cc
one_reading (Char c ∷ gs) [] bs r s = absurd (no_char bs r.1.0 c s r.1.1)
one_reading (Bad c ∷ gs) [] bs r s = let e : [] ≡ c ∷ r.1.0 = sym s ∙ r.1.1 in cc
one_reading (Char c ∷ gs) (Bad d ∷ hs) bs r s = absurd (s.0 c r.1.0 r.0 r.1.1)
one_reading (Bad c ∷ gs) (Char d ∷ hs) bs r s = absurd (r.0 d s.1.0 s.0 s.1.1)
one_reading (Char c ∷ gs) (Char d ∷ hs) bs r s =
    let same = encode_same c d r.1.0 s.1.0 (sym r.1.1 ∙ s.1.1) in
    let P : List ℕ → Type 0 = λ t. Reads t hs in
    let rest : gs ≡ hs = one_reading gs hs r.1.0 r.1.2 (subst P (sym same.1) s.1.2) in
    let head : c ≡ d = same.0 in
    cc
one_reading (Bad c ∷ gs) (Bad d ∷ hs) bs r s =
    let e : c ∷ r.1.0 ≡ d ∷ s.1.0 = sym r.1.1 ∙ s.1.1 in
    let tail : s.1.0 ≡ r.1.0 = cc in
    let P : List ℕ → Type 0 = λ t. Reads t hs in
    let rest : gs ≡ hs = one_reading gs hs r.1.0 r.1.2 (subst P tail s.1.2) in
    let head : c ≡ d = cc in
    cc
