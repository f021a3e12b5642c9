-- Where a piece stands next, every byte there is part of a character.
use Rattle.std.proofs.Common.{◌≡◌, ◌≢◌, ℕ, ◌+◌, ◌<◌, ◌≤◌, List, [], ◌∷◌, ◌++◌, length, map, ap, sym, ◌∙◌, inl, inr, arith, append_assoc, length-append}
use Rattle.std.specs.Prelude.{◌⊎◌, All}
use Rattle.std.proofs.lemmas.List.{append_cancel_left, length-map}
use Rattle.std.proofs.lemmas.List.Elements.{All-head, All-tail}
use Rattle.gd_rules.specs.declared.rule.Rule.TheVariants as rules
use Rattle.gd_lexis.specs.declared.glyph.Glyph.{Glyph}
use Rattle.gd_lexis.specs.declared.glyph.Glyph.TheVariants.{Char, Bad}
use Rattle.gd_lexis.specs.Strings.{Quote, opening, closing}
use Rattle.gd_lexis.specs.Pieces.{Piece, BeginsWith}
use Rattle.gd_lexis.specs.Faults.{IsWhole, Breaks}
use Rattle.gd_lexis.proofs.Cuts.{glyph_not_empty, piece_begins}
use Rattle.gd_lexis.proofs.Heads.{Front, front}
use Rattle.gd_lexis.proofs.Numerals.{char_bad, comment_here}
use Rattle.gd_lexis.proofs.Slashes.{Left, ends_first}
use Rattle.gd_lexis.proofs.Wholes.{string_here}

glyph_head : (g h : Glyph) (us vs : List Glyph) → g ∷ us ≡ h ∷ vs → g ≡ h
glyph_head g h us vs e = cc

glyph_tail : (g h : Glyph) (us vs : List Glyph) → g ∷ us ≡ h ∷ vs → us ≡ vs
glyph_tail g h us vs e = cc

at_head : (b : ℕ) (more gs : List Glyph) (ps : List Piece) → gs ≡ Bad b ∷ more → Front gs ps → ⊥
at_head b more gs ps e (front p us rest f g s) =
    let begins = piece_begins p us s in
    char_bad begins.0 b (map Char begins.1 ++ us) more (ap (λ t. t ++ us) (sym begins.2) ∙ sym g ∙ e)

in_comment : (cs : List ℕ) (inner us more : List Glyph) (b : ℕ) → map Char cs ++ us ≡ inner ++ Bad b ∷ more → (us ≡ []) ⊎ BeginsWith (10 ∷ []) us → All (λ g. g ≢ Char 10) inner → ⊥
in_comment [] [] us more b e (inl k) l = glyph_not_empty (Bad b) more (sym e ∙ k)
in_comment [] [] us more b e (inr k) l = char_bad 10 b k.0 more (sym k.1 ∙ e)
in_comment [] (g ∷ inner) us more b e (inl k) l = glyph_not_empty g (inner ++ Bad b ∷ more) (sym e ∙ k)
in_comment [] (g ∷ inner) us more b e (inr k) l = All-head (λ g. g ≢ Char 10) g inner l (glyph_head g (Char 10) (inner ++ Bad b ∷ more) k.0 (sym e ∙ k.1))
in_comment (c ∷ cs) [] us more b e k l = char_bad c b (map Char cs ++ us) more e
in_comment (c ∷ cs) (g ∷ inner) us more b e k l =
    in_comment cs inner us more b (glyph_tail (Char c) g (map Char cs ++ us) (inner ++ Bad b ∷ more) e) k (All-tail (λ g. g ≢ Char 10) g inner l)

comment : (gs inner more : List Glyph) (ps : List Piece) (b : ℕ) → gs ≡ Char 35 ∷ inner ++ Bad b ∷ more → All (λ g. g ≢ Char 10) inner → Front gs ps → ⊥
comment gs inner more ps b e l first =
    let c = comment_here (inner ++ Bad b ∷ more) gs ps e first in
    in_comment c.0 inner c.1 more b (glyph_tail (Char 35) (Char 35) (map Char c.0 ++ c.1) (inner ++ Bad b ∷ more) (sym c.2 ∙ e)) c.3.1 l

-- characters have no such byte among them
pub no_bad : (cs : List ℕ) (us start more : List Glyph) (b : ℕ) → map Char cs ++ us ≡ start ++ Bad b ∷ more → length start < length cs → ⊥
no_bad [] us start more b e less = omega arith
no_bad (c ∷ cs) us [] more b e less = char_bad c b (map Char cs ++ us) more e
no_bad (c ∷ cs) us (g ∷ start) more b e less = no_bad cs us start more b (glyph_tail (Char c) g (map Char cs ++ us) (start ++ Bad b ∷ more) e) (omega arith)

string : (q : Quote) (body rest start gs ahead more : List Glyph) (ps : List Piece) (b : ℕ) → IsWhole q body rest gs → ahead ≡ map Char (opening q) ++ start
    → length ahead < length (opening q) + length body → gs ≡ ahead ++ Bad b ∷ more → Front gs ps → ⊥
string q body rest start gs ahead more ps b w e less g first =
    let end = map Char (closing q) ++ rest in
    let f = string_here q gs ps w.0 first in
    let ends : List Glyph = map Char (closing q) ++ f.2 in
    let same : body ++ end ≡ Left q f.0 f.2 = append_cancel_left (map Char (opening q)) (body ++ end) (Left q f.0 f.2) (sym w.1 ∙ f.4) in
    let most : length ends ≤ length end = ends_first q f.0 f.1 f.2 end body w.0.0 f.3 w.2 same in
    let sizes : length (body ++ end) ≡ length (Left q f.0 f.2) = ap length same in
    let place : length ahead ≡ length (map Char (opening q) ++ start) = ap length e in
    let glyphs : Left q f.0 f.2 ≡ start ++ Bad b ∷ more =
    append_cancel_left (map Char (opening q)) (Left q f.0 f.2) (start ++ Bad b ∷ more) (sym f.4 ∙ g ∙ ap (λ t. t ++ Bad b ∷ more) e ∙ append_assoc (map Char (opening q)) start (Bad b ∷ more)) in
    no_bad f.0 ends start more b glyphs
    (omega (arith, length-append body end, length-append (map Char f.0) ends, length-map f.0 Char, length-append (map Char (opening q)) start, length-map (opening q) Char))

pub not_utf8 : (before : List Piece) (gs ahead : List Glyph) (ps : List Piece) → Front gs ps → Breaks rules.NotUtf8 before gs ahead → ⊥
not_utf8 before gs ahead ps first (b, more, e, inl k) = at_head b more gs ps (e ∙ ap (λ t. t ++ Bad b ∷ more) k) first
not_utf8 before gs ahead ps first (b, more, e, inr (inl k)) = comment gs k.0 more ps b (e ∙ ap (λ t. t ++ Bad b ∷ more) k.1) k.2 first
not_utf8 before gs ahead ps first (b, more, e, inr (inr k)) = string k.0 k.1 k.2 k.3 gs ahead more ps b k.4 k.5 k.6 e first
