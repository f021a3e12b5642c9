-- Whether the line has a token from some place on, by what stands there.
use Rattle.std.proofs.Common.{◌≡◌, ℕ, List, [], ◌∷◌, ◌++◌, map, refl, ap, sym, ◌∙◌, subst, inl, inr, arith}
use Rattle.std.specs.Prelude.{◌⊎◌, All}
use Rattle.std.proofs.lemmas.List.{append_cancel_left}
use Rattle.std.proofs.lemmas.List.Elements.{All-head, All-tail}
use Rattle.gd_lexis.specs.declared.glyph.Glyph.{Glyph}
use Rattle.gd_lexis.specs.declared.glyph.Glyph.TheVariants.{Char, Bad}
use Rattle.gd_lexis.specs.Pieces.{Piece, Blank, Join, text_of, IsLineEnd, Stands, IsCut}
use Rattle.gd_lexis.specs.Faults.{BeginsToken, HasToken, here, over, joined, IsStray}
use Rattle.gd_lexis.specs.Faultless.{IsAsFar}
use Rattle.gd_lexis.proofs.Cuts.{IsGap, char_parts, one_end, glyph_not_empty, join_gap}
use Rattle.gd_lexis.proofs.Heads.{token_code, token_code_no_gap}
use Rattle.gd_lexis.proofs.Numerals.{char_bad}
use Rattle.gd_lexis.proofs.Indents.{behind_blank, no_token_at_feed, no_token_at_end}

glyph_tail : (g h : Glyph) (us vs : List Glyph) → g ∷ us ≡ h ∷ vs → us ≡ vs
glyph_tail g h us vs e = cc

glyph_head : (g h : Glyph) (us vs : List Glyph) → g ∷ us ≡ h ∷ vs → g ≡ h
glyph_head g h us vs e = cc

gap_no_token : (c : ℕ) (gs us : List Glyph) → IsGap c → BeginsToken gs → gs ≡ Char c ∷ us → ⊥
gap_no_token c gs us g t e =
    let code = token_code gs t in
    let P : ℕ → Type 0 = IsGap in
    token_code_no_gap code.0 code.3 (subst P (char_parts c code.0 us code.1 (sym e ∙ code.2)).0 g)

-- ---- no token comes where the line ends

pub none_at_end : {gs : List Glyph} → HasToken gs → gs ≡ [] → ⊥
none_at_end (here gs b) e = let code = token_code gs b in glyph_not_empty (Char code.0) code.1 (sym code.2 ∙ e)
none_at_end (over g gs n m h) e = glyph_not_empty g gs e
none_at_end (joined end gs k h) e = glyph_not_empty (Char 92) (map Char end ++ gs) e

pub none_at_comment : {gs : List Glyph} (us : List Glyph) → HasToken gs → gs ≡ Char 35 ∷ us → ⊥
none_at_comment us (here gs b) e = gap_no_token 35 gs us (inr (inr (inr (inr (inl refl))))) b e
none_at_comment us (over g gs n m h) e = m (glyph_head g (Char 35) gs us e)
none_at_comment us (joined end gs k h) e = omega (arith, (char_parts 92 35 (map Char end ++ gs) us e).0)

pub none_at_feed : (us : List Glyph) → HasToken (Char 10 ∷ us) → ⊥
none_at_feed us h = no_token_at_feed us h refl

-- ---- what is gone over on the way to it

pub far_itself : (gs : List Glyph) → IsAsFar gs gs
far_itself gs = (λ h. h, λ h. h)

pub far_further : (gs hs is : List Glyph) → IsAsFar gs hs → IsAsFar hs is → IsAsFar gs is
far_further gs hs is h k = (λ t. k.0 (h.0 t), λ t. h.1 (k.1 t))

glyph_same : (c d : ℕ) → Char c ≡ Char d → c ≡ d
glyph_same c d e = cc

-- a blank
pub far_blank : (c : ℕ) (us : List Glyph) → (c ≡ 32) ⊎ ((c ≡ 9) ⊎ (c ≡ 13)) → IsAsFar (Char c ∷ us) us
far_blank c us g =
    (λ h. behind_blank c us (by_code c g) (λ e. omega arith) h refl, λ h. over (Char c) us (λ e. let same = glyph_same c 10 e in omega arith) (λ e. let same = glyph_same c 35 e in omega arith) h)
  where
    by_code : (c : ℕ) → (c ≡ 32) ⊎ ((c ≡ 9) ⊎ (c ≡ 13)) → IsGap c
    by_code c (inl e) = inl e
    by_code c (inr (inl e)) = inr (inl e)
    by_code c (inr (inr e)) = inr (inr (inl e))

-- a line end that is joined
from_join : (end : List ℕ) {gs : List Glyph} (us : List Glyph) → IsLineEnd end → HasToken gs → gs ≡ map Char (92 ∷ end) ++ us → HasToken us
from_join end us k (here gs b) e = absurd (gap_no_token 92 gs (map Char end ++ us) join_gap b e)
from_join end us k (over g gs n m h) e = absurd (no_token_at_end end gs us k h (glyph_tail g (Char 92) gs (map Char end ++ us) e))
from_join end us k (joined other gs l h) e =
    let behind = (char_parts 92 92 (map Char other ++ gs) (map Char end ++ us) e).1 in
    let same : other ≡ end = one_end other end gs us l k behind in
    let tails : gs ≡ us = append_cancel_left (map Char other) gs us (behind ∙ ap (λ t. map Char t ++ us) (sym same)) in
    let P : List Glyph → Type 0 = HasToken in
    subst P tails h

pub far_join : (end : List ℕ) (us : List Glyph) → IsLineEnd end → IsAsFar (map Char (92 ∷ end) ++ us) us
far_join end us k = (λ h. from_join end us k h refl, λ h. joined end us k h)

-- a byte that is part of no character
from_bad : (b : ℕ) {gs : List Glyph} (us : List Glyph) → HasToken gs → gs ≡ Bad b ∷ us → HasToken us
from_bad b us (here gs t) e = let code = token_code gs t in absurd (char_bad code.0 b code.1 us (sym code.2 ∙ e))
from_bad b us (over g gs n m h) e = let P : List Glyph → Type 0 = HasToken in subst P (glyph_tail g (Bad b) gs us e) h
from_bad b us (joined end gs k h) e = absurd (char_bad 92 b (map Char end ++ gs) us e)

bad_char : (b c : ℕ) → Bad b ≡ Char c → ⊥
bad_char b c e = cc

pub far_bad : (b : ℕ) (us : List Glyph) → IsAsFar (Bad b ∷ us) us
far_bad b us = (λ h. from_bad b us h refl, λ h. over (Bad b) us (bad_char b 10) (bad_char b 35) h)

-- a stray character
from_stray : {gs : List Glyph} (c : ℕ) (us : List Glyph) → IsStray gs → HasToken gs → gs ≡ Char c ∷ us → HasToken us
from_stray c us s (here gs t) e = absurd (s.2 t)
from_stray c us s (over g gs n m h) e = let P : List Glyph → Type 0 = HasToken in subst P (glyph_tail g (Char c) gs us e) h
from_stray c us s (joined end gs (inl k) h) e = absurd (s.8 (gs, ap (λ t. map Char (92 ∷ t) ++ gs) k))
from_stray c us s (joined end gs (inr k) h) e = absurd (s.9 (gs, ap (λ t. map Char (92 ∷ t) ++ gs) k))

pub far_stray : (c : ℕ) (us : List Glyph) → IsStray (Char c ∷ us) → IsAsFar (Char c ∷ us) us
far_stray c us s =
    let same : s.0 ≡ c = sym (char_parts c s.0 us s.1.0 s.1.1).0 in
    (λ h. from_stray c us s h refl, λ h. over (Char c) us (λ e. s.5 (same ∙ glyph_same c 10 e)) (λ e. s.6 (same ∙ glyph_same c 35 e)) h)

-- pieces with no token, no comment and no line feed among them
abbrev pub IsGapPiece : Piece → Type 0
IsGapPiece (Blank c) = Unit {0}
IsGapPiece (Join end) = Unit {0}
IsGapPiece _ = ⊥

far_piece : (p : Piece) (us : List Glyph) → IsGapPiece p → Stands p us → IsAsFar (text_of p ++ us) us
far_piece (Blank c) us g (inl e) = far_blank c us (inl e)
far_piece (Blank c) us g (inr (inl e)) = far_blank c us (inr (inl e))
far_piece (Blank c) us g (inr (inr e)) = far_blank c us (inr (inr e.0))
far_piece (Join end) us g s = far_join end us s
far_piece _ us g s = absurd g

pub far_pieces : (ps : List Piece) (gs end : List Glyph) → All IsGapPiece ps → IsCut gs ps end → IsAsFar gs end
far_pieces [] gs end g h = let P : List Glyph → Type 0 = λ t. IsAsFar gs t in subst P h (far_itself gs)
far_pieces (p ∷ ps) gs end g h =
    let P : List Glyph → Type 0 = λ t. IsAsFar t h.0 in
    far_further gs h.0 end (subst P (sym h.1) (far_piece p h.0 (All-head IsGapPiece p ps g) h.2)) (far_pieces ps h.0 end (All-tail IsGapPiece p ps g) h.3)
