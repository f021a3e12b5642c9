-- One piece more, and the glyphs that make it.
use Rattle.std.proofs.Common.{◌≡◌, ◌≢◌, ℕ, true, List, [], ◌∷◌, ◌++◌, drop, slice_get, map, refl, ap, sym, ◌∙◌, inl, inr, append_assoc}
use Rattle.std.proofs.lemmas.List.{append-nil}
use Rattle.std.specs.Prelude.{Some, ◌⊎◌, All}
use Rattle.gd_lexis.specs.declared.glyph.Glyph.{Glyph}
use Rattle.gd_lexis.specs.declared.glyph.Glyph.TheVariants.{Char}
use Rattle.gd_lexis.specs.Chars.{place_behind}
use Rattle.std.proofs.lemmas.List.Elements.{All-nil, All-cons, All-head}
use Rattle.gd_lexis.specs.Pieces.{Piece, Blank, LineFeed, Join, Comment, Tok, text_of, Stands, IsCut, BeginsWith}
use Rattle.gd_lexis.specs.Lines.{texts, tokens_in, token}
use Rattle.gd_lexer.specs.Cursor.{Spot, sees}
use Rattle.gd_lexer.specs.Cut.{IsCommentText, GoesOnComment, EndsComment, code_of}
use Rattle.gd_lexer.specs.declared.lines.Blank.{Blank as Blanks}
use Rattle.gd_lexer.specs.declared.lines.Blank.TheVariants.{Space, Tab}
use Rattle.gd_lexer.proofs.MarkMeets.{char_is, head_seen}

pub cut_more : (gs : List Glyph) (ps : List Piece) (p : Piece) (more : List Glyph) → IsCut gs ps (text_of p ++ more) → Stands p more → IsCut gs (ps ++ p ∷ []) more
cut_more gs [] p more c s = (more, c, s, refl)
cut_more gs (q ∷ ps) p more c s = (c.0, c.1, c.2, cut_more c.0 ps p more c.3 s)

pub texts_more : (ps : List Piece) (p : Piece) → texts (ps ++ p ∷ []) ≡ texts ps ++ text_of p
texts_more [] p = append-nil (text_of p)
texts_more (q ∷ ps) p = ap (λ t. text_of q ++ t) (texts_more ps p) ∙ sym (append_assoc (text_of q) (texts ps) (text_of p))

pub cut_whole : (gs : List Glyph) (ps : List Piece) (rest : List Glyph) → IsCut gs ps rest → gs ≡ texts ps ++ rest
cut_whole gs [] rest c = c
cut_whole gs (p ∷ ps) rest c = c.1 ∙ ap (λ t. text_of p ++ t) (cut_whole c.0 ps rest c.3) ∙ sym (append_assoc (text_of p) (texts ps) rest)

pub tokens_more : (file : ℕ) (before : List Glyph) (ps : List Piece) (p : Piece) → tokens_in file before (ps ++ p ∷ []) ≡ tokens_in file before ps ++ tokens_in file (before ++ texts ps) (p ∷ [])
tokens_more file before [] p = ap (λ t. tokens_in file t (p ∷ [])) (sym (append-nil before))
tokens_more file before (Blank c ∷ ps) p = tokens_more file (before ++ text_of (Blank c)) ps p ∙ ap (λ t. tokens_in file (before ++ text_of (Blank c)) ps ++ tokens_in file t (p ∷ [])) (append_assoc before (text_of (Blank c)) (texts ps))
tokens_more file before (LineFeed ∷ ps) p = tokens_more file (before ++ text_of LineFeed) ps p ∙ ap (λ t. tokens_in file (before ++ text_of LineFeed) ps ++ tokens_in file t (p ∷ [])) (append_assoc before (text_of LineFeed) (texts ps))
tokens_more file before (Join e ∷ ps) p = tokens_more file (before ++ text_of (Join e)) ps p ∙ ap (λ t. tokens_in file (before ++ text_of (Join e)) ps ++ tokens_in file t (p ∷ [])) (append_assoc before (text_of (Join e)) (texts ps))
tokens_more file before (Comment cs ∷ ps) p = tokens_more file (before ++ text_of (Comment cs)) ps p ∙ ap (λ t. tokens_in file (before ++ text_of (Comment cs)) ps ++ tokens_in file t (p ∷ [])) (append_assoc before (text_of (Comment cs)) (texts ps))
tokens_more file before (Tok k text ∷ ps) p =
    ap (λ t. token (place_behind file before) k ∷ t) (tokens_more file (before ++ text_of (Tok k text)) ps p ∙ ap (λ t. tokens_in file (before ++ text_of (Tok k text)) ps ++ tokens_in file t (p ∷ [])) (append_assoc before (text_of (Tok k text)) (texts ps)))

-- ---- comments

no_thirteen : (front back : List ℕ) → [] ≡ front ++ 13 ∷ back → ⊥
no_thirteen [] back e = cc
no_thirteen (f ∷ front) back e = cc

pub comment_feed : (gs : List Glyph) → Some (Char 10) ≡ slice_get gs 0 → EndsComment gs
comment_feed gs e = inr (drop 1 gs, head_seen gs (Char 10) (sym e))

pub text_end : (gs : List Glyph) → EndsComment gs → IsCommentText gs gs
text_end gs e = ([], refl, (All-nil (λ c. c ≢ 10), e, λ front back k. absurd (no_thirteen front back k)))

pub next_is : (gs : List Glyph) → slice_get gs 1 ≡ slice_get (drop 1 gs) 0
next_is [] = refl
next_is (g ∷ []) = refl
next_is (g ∷ h ∷ gs) = refl

pub text_more : (gs hs rest : List Glyph) → GoesOnComment gs → hs ≡ drop 1 gs → IsCommentText hs rest → IsCommentText gs rest
text_more gs hs rest on tail k =
    (on.0 ∷ k.0, on.1 ∙ ap (λ t. Char on.0 ∷ t) (sym tail ∙ k.1), (All-cons (λ c. c ≢ 10) on.0 k.0 on.2 k.2.0, k.2.1, returned))
  where
    -- the carriage return is the last, before a line feed
    last : (cs : List ℕ) → All (λ c. c ≢ 10) cs → map Char cs ++ rest ≡ Char 10 ∷ drop 1 hs → (cs ≡ []) × BeginsWith (10 ∷ []) rest
    last [] a e = (refl, (drop 1 hs, e))
    last (c ∷ cs) a e = let same : c ≡ 10 = cc in absurd (All-head (λ d. d ≢ 10) c cs a same)

    returned : (front back : List ℕ) → on.0 ∷ k.0 ≡ front ++ 13 ∷ back → (back ≡ []) × BeginsWith (10 ∷ []) rest
    returned [] back e =
        let cr : on.0 ≡ 13 = cc in
        let same : k.0 ≡ back = cc in
        let next : slice_get hs 0 ≡ Some (Char 10) = ap (λ t. slice_get t 0) tail ∙ sym (next_is gs) ∙ on.3 cr in
        let found = last k.0 k.2.0 (sym k.1 ∙ head_seen hs (Char 10) next) in
        (sym same ∙ found.0, found.1)
    returned (f ∷ front) back e = let same : k.0 ≡ front ++ 13 ∷ back = cc in k.2.2 front back same

-- ---- one character

pub one_blank : (c : ℕ) (s t : Spot) → (c ≡ 32) ⊎ ((c ≡ 9) ⊎ ((c ≡ 13) × BeginsWith (10 ∷ []) t.glyphs)) → Some (Char c) ≡ slice_get s.glyphs 0 → t.glyphs ≡ drop 1 s.glyphs
    → (s.glyphs ≡ text_of (Blank c) ++ t.glyphs) × Stands (Blank c) t.glyphs
one_blank c s t h head tail = (head_seen s.glyphs (Char c) (sym head) ∙ ap (λ g. Char c ∷ g) (sym tail), h)

pub a_blank : (b : Blanks) (gs : List Glyph) → (code_of b ≡ 32) ⊎ ((code_of b ≡ 9) ⊎ ((code_of b ≡ 13) × BeginsWith (10 ∷ []) gs))
a_blank Space gs = inl refl
a_blank Tab gs = inr (inl refl)

pub feed_next : (s t : Spot) → sees 10 s.glyphs 1 ≡ true → t.glyphs ≡ drop 1 s.glyphs → BeginsWith (10 ∷ []) t.glyphs
feed_next s t e tail = (drop 1 t.glyphs, head_seen t.glyphs (Char 10) (ap (λ g. slice_get g 0) tail ∙ sym (next_is s.glyphs) ∙ char_is (slice_get s.glyphs 1) 10 e))

pub second_is : (gs : List Glyph) (c d : ℕ) → Some (Char c) ≡ slice_get gs 0 → sees d gs 1 ≡ true → gs ≡ Char c ∷ Char d ∷ drop 2 gs
second_is [] c d e f = cc
second_is (g ∷ []) c d e f = cc
second_is (g ∷ h ∷ gs) c d e f =
    let q = char_is (Some h) d f in
    let first : g ≡ Char c = cc in let second : h ≡ Char d = cc in rw (first, second) refl

pub third_is : (gs : List Glyph) (c d e : ℕ) → Some (Char c) ≡ slice_get gs 0 → sees d gs 1 ≡ true → sees e gs 2 ≡ true → gs ≡ Char c ∷ Char d ∷ Char e ∷ drop 3 gs
third_is [] c d e x y z = cc
third_is (g ∷ []) c d e x y z = cc
third_is (g ∷ h ∷ []) c d e x y z = cc
third_is (g ∷ h ∷ i ∷ gs) c d e x y z =
    let q = char_is (Some h) d y in let r = char_is (Some i) e z in
    let first : g ≡ Char c = cc in let second : h ≡ Char d = cc in let third : i ≡ Char e = cc in rw (first, second, third) refl
