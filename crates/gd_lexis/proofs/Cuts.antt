-- A file is cut into pieces in one way.
use Rattle.std.proofs.Common.{◌≡◌, ◌≢◌, ℕ, ◌<◌, false, List, [], ◌∷◌, ◌++◌, length, map, refl, ap, sym, ◌∙◌, subst, inl, inr, arith, true≢false, append-nil, append_assoc}
use Rattle.std.specs.Prelude.{◌⊎◌, All}
use Rattle.std.proofs.lemmas.Bool.{cases_order}
use Rattle.std.proofs.lemmas.List.{append_cancel_left}
use Rattle.std.proofs.lemmas.List.Elements.{All-head, All-tail}
use Rattle.gd_syntax.specs.declared.token.TokenKind.{TokenKind}
use Rattle.gd_syntax.specs.declared.token.TokenKind.TheVariants as kinds
use Rattle.gd_syntax.specs.declared.token.Token.{Token}
use Rattle.gd_lexis.specs.declared.glyph.Glyph.{Glyph}
use Rattle.gd_lexis.specs.declared.glyph.Glyph.TheVariants.{Char}
use Rattle.gd_lexis.specs.Chars.{IsFile, begins_with_mark}
use Rattle.gd_lexis.specs.Pieces.{Piece, Blank, LineFeed, Join, Comment, Tok, text_of, Writes, BeginsWith, IsLineEnd, IsLongest, Stands, IsCut}
use Rattle.gd_lexis.specs.Lines.{lines_of, laid, texts}
use Rattle.gd_lexis.specs.Lexes.{Lexes}
use Rattle.gd_lexis.proofs.Lists.{same_chars}
use Rattle.gd_lexis.proofs.Readings.{one_reading}
use Rattle.gd_lexis.proofs.Tokens.{Begins, token_begins, one_kind, next}

-- ---- what a piece begins with

-- the first characters of the pieces that are no tokens
abbrev pub IsGap : ℕ → Type 0
IsGap c = (c ≡ 32) ⊎ ((c ≡ 9) ⊎ ((c ≡ 13) ⊎ ((c ≡ 10) ⊎ ((c ≡ 35) ⊎ (c ≡ 92)))))

begins_no_gap : (kind : TokenKind) (c d : ℕ) → Begins kind c d → IsGap c → ⊥
begins_no_gap (kinds.Word name) c d h g = omega arith
begins_no_gap (kinds.Keyword k) c d h g = omega arith
begins_no_gap (kinds.Number n) c d h g = omega arith
begins_no_gap (kinds.Quoted t) c d h g = omega arith
begins_no_gap (kinds.Mark m) c d h g = omega arith
begins_no_gap _ c d h g = absurd h

pub char_parts : (c d : ℕ) (us vs : List Glyph) → Char c ∷ us ≡ Char d ∷ vs → (c ≡ d) × (us ≡ vs)
char_parts c d us vs e = (cc, cc)

-- a token's text begins with no such character
pub no_gap : (kind : TokenKind) (text : List ℕ) (us vs : List Glyph) (c : ℕ) → Writes kind text → map Char text ++ us ≡ Char c ∷ vs → IsGap c → ⊥
no_gap kind text us vs c h e g =
    let b = token_begins kind text h in
    let heads = char_parts b.0 c (map Char b.1 ++ us) vs (ap (λ t. map Char t ++ us) (sym b.2) ∙ e) in
    let P : ℕ → Type 0 = λ x. Begins kind x (next b.1) in
    begins_no_gap kind c (next b.1) (subst P heads.0 b.3) g

pub blank_code : (c : ℕ) (us : List Glyph) → Stands (Blank c) us → (c ≡ 32) ⊎ ((c ≡ 9) ⊎ (c ≡ 13))
blank_code c us (inl e) = inl e
blank_code c us (inr (inl e)) = inr (inl e)
blank_code c us (inr (inr h)) = inr (inr h.0)

pub blank_gap : (c : ℕ) → (c ≡ 32) ⊎ ((c ≡ 9) ⊎ (c ≡ 13)) → IsGap c
blank_gap c (inl e) = inl e
blank_gap c (inr (inl e)) = inr (inl e)
blank_gap c (inr (inr e)) = inr (inr (inl e))

pub line_feed_gap : IsGap 10
line_feed_gap = inr (inr (inr (inl refl)))

pub comment_gap : IsGap 35
comment_gap = inr (inr (inr (inr (inl refl))))

pub join_gap : IsGap 92
join_gap = inr (inr (inr (inr (inr refl))))

-- a piece has a first character
pub piece_begins : (p : Piece) (us : List Glyph) → Stands p us → (c : ℕ) × (more : List ℕ) × (text_of p ≡ Char c ∷ map Char more)
piece_begins (Blank c) us h = (c, [], refl)
piece_begins LineFeed us h = (10, [], refl)
piece_begins (Join end) us h = (92, end, refl)
piece_begins (Comment cs) us h = (35, cs, refl)
piece_begins (Tok kind text) us h = let b = token_begins kind text h.0 in (b.0, b.1, ap (map Char) b.2)

-- ---- two pieces with which one rest of a file begins are one

pub one_end : (end other : List ℕ) (us vs : List Glyph) → IsLineEnd end → IsLineEnd other → map Char end ++ us ≡ map Char other ++ vs → end ≡ other
one_end end other us vs (inl h) (inl k) e = h ∙ sym k
one_end end other us vs (inl h) (inr k) e =
    let heads = char_parts 10 13 us (Char 10 ∷ vs) (ap (λ t. map Char t ++ us) (sym h) ∙ e ∙ ap (λ t. map Char t ++ vs) k) in absurd (omega (arith, heads.0))
one_end end other us vs (inr h) (inl k) e =
    let heads = char_parts 13 10 (Char 10 ∷ us) vs (ap (λ t. map Char t ++ us) (sym h) ∙ e ∙ ap (λ t. map Char t ++ vs) k) in absurd (omega (arith, heads.0))
one_end end other us vs (inr h) (inr k) e = h ∙ sym k

-- the file or its line ends here
abbrev pub Ends : List Glyph → Type 0
Ends us = (us ≡ []) ⊎ BeginsWith (10 ∷ []) us

pub glyph_not_empty : (g : Glyph) (us : List Glyph) → g ∷ us ≡ [] → ⊥
glyph_not_empty g us e = cc

ends_not_before : (d : ℕ) (ds us : List Glyph) → Ends us → us ≡ Char d ∷ ds → d ≢ 10 → ⊥
ends_not_before d ds us (inl h) e other = glyph_not_empty (Char d) ds (sym e ∙ h)
ends_not_before d ds us (inr h) e other = other (char_parts d 10 ds h.0 (sym e ∙ h.1)).0

pub one_comment : (cs ds : List ℕ) (us vs : List Glyph) → All (λ c. c ≢ 10) cs → All (λ c. c ≢ 10) ds → Ends us → Ends vs → map Char cs ++ us ≡ map Char ds ++ vs → cs ≡ ds
one_comment [] [] us vs h k l m e = refl
one_comment [] (d ∷ ds) us vs h k l m e = absurd (ends_not_before d (map Char ds ++ vs) us l e (All-head (λ c. c ≢ 10) d ds k))
one_comment (c ∷ cs) [] us vs h k l m e = absurd (ends_not_before c (map Char cs ++ us) vs m (sym e) (All-head (λ c. c ≢ 10) c cs h))
one_comment (c ∷ cs) (d ∷ ds) us vs h k l m e =
    let parts = char_parts c d (map Char cs ++ us) (map Char ds ++ vs) e in
    let head : c ≡ d = parts.0 in
    let tail : cs ≡ ds = one_comment cs ds us vs (All-tail (λ c. c ≢ 10) c cs h) (All-tail (λ c. c ≢ 10) d ds k) l m parts.1 in
    cc

pub one_token : (k l : TokenKind) (text other : List ℕ) (us vs : List Glyph) → Writes k text → Writes l other → IsLongest text (map Char text ++ us)
    → IsLongest other (map Char other ++ vs) → map Char text ++ us ≡ map Char other ++ vs
    → (length text ≡ length other) ⊎ ((length text < length other) ⊎ (length other < length text)) → Tok k text ≡ Tok l other
one_token k l text other us vs h i longest longest' e (inl same) =
    let texts : text ≡ other = (same_chars text other us vs same e).0 in
    let P : List ℕ → Type 0 = λ t. Writes l t in
    let kind : k ≡ l = one_kind k l text h (subst P (sym texts) i) in
    cc
one_token k l text other us vs h i longest longest' e (inr (inl less)) = absurd (longest other l less (vs, e) i)
one_token k l text other us vs h i longest longest' e (inr (inr more)) = absurd (longest' text k more (us, sym e) h)

pub one_piece : (p q : Piece) (us vs : List Glyph) → text_of p ++ us ≡ text_of q ++ vs → Stands p us → Stands q vs → p ≡ q
one_piece (Blank c) (Blank d) us vs e h k = ap Blank (char_parts c d us vs e).0
one_piece (Blank c) LineFeed us vs e h k = absurd (omega (arith, (char_parts c 10 us vs e).0, blank_code c us h))
one_piece (Blank c) (Join end) us vs e h k = absurd (omega (arith, (char_parts c 92 us (map Char end ++ vs) e).0, blank_code c us h))
one_piece (Blank c) (Comment cs) us vs e h k = absurd (omega (arith, (char_parts c 35 us (map Char cs ++ vs) e).0, blank_code c us h))
one_piece (Blank c) (Tok kind text) us vs e h k = absurd (no_gap kind text vs us c k.0 (sym e) (blank_gap c (blank_code c us h)))
one_piece LineFeed (Blank d) us vs e h k = absurd (omega (arith, (char_parts 10 d us vs e).0, blank_code d vs k))
one_piece LineFeed LineFeed us vs e h k = refl
one_piece LineFeed (Join end) us vs e h k = absurd (omega (arith, (char_parts 10 92 us (map Char end ++ vs) e).0))
one_piece LineFeed (Comment cs) us vs e h k = absurd (omega (arith, (char_parts 10 35 us (map Char cs ++ vs) e).0))
one_piece LineFeed (Tok kind text) us vs e h k = absurd (no_gap kind text vs us 10 k.0 (sym e) line_feed_gap)
one_piece (Join end) (Blank d) us vs e h k = absurd (omega (arith, (char_parts 92 d (map Char end ++ us) vs e).0, blank_code d vs k))
one_piece (Join end) LineFeed us vs e h k = absurd (omega (arith, (char_parts 92 10 (map Char end ++ us) vs e).0))
one_piece (Join end) (Join other) us vs e h k = ap Join (one_end end other us vs h k (char_parts 92 92 (map Char end ++ us) (map Char other ++ vs) e).1)
one_piece (Join end) (Comment cs) us vs e h k = absurd (omega (arith, (char_parts 92 35 (map Char end ++ us) (map Char cs ++ vs) e).0))
one_piece (Join end) (Tok kind text) us vs e h k = absurd (no_gap kind text vs (map Char end ++ us) 92 k.0 (sym e) join_gap)
one_piece (Comment cs) (Blank d) us vs e h k = absurd (omega (arith, (char_parts 35 d (map Char cs ++ us) vs e).0, blank_code d vs k))
one_piece (Comment cs) LineFeed us vs e h k = absurd (omega (arith, (char_parts 35 10 (map Char cs ++ us) vs e).0))
one_piece (Comment cs) (Join end) us vs e h k = absurd (omega (arith, (char_parts 35 92 (map Char cs ++ us) (map Char end ++ vs) e).0))
one_piece (Comment cs) (Comment ds) us vs e h k = ap Comment (one_comment cs ds us vs h.0 k.0 h.1 k.1 (char_parts 35 35 (map Char cs ++ us) (map Char ds ++ vs) e).1)
one_piece (Comment cs) (Tok kind text) us vs e h k = absurd (no_gap kind text vs (map Char cs ++ us) 35 k.0 (sym e) comment_gap)
one_piece (Tok kind text) (Blank d) us vs e h k = absurd (no_gap kind text us vs d h.0 e (blank_gap d (blank_code d vs k)))
one_piece (Tok kind text) LineFeed us vs e h k = absurd (no_gap kind text us vs 10 h.0 e line_feed_gap)
one_piece (Tok kind text) (Join end) us vs e h k = absurd (no_gap kind text us (map Char end ++ vs) 92 h.0 e join_gap)
one_piece (Tok kind text) (Comment cs) us vs e h k = absurd (no_gap kind text us (map Char cs ++ vs) 35 h.0 e comment_gap)
one_piece (Tok k text) (Tok l other) us vs e h i = one_token k l text other us vs h.0 i.0 h.1 i.1 e (cases_order (length text) (length other))

-- ---- a cut

not_over : (p : Piece) (us gs : List Glyph) → Stands p us → gs ≡ text_of p ++ us → gs ≡ [] → ⊥
not_over p us gs h e f = let b = piece_begins p us h in glyph_not_empty (Char b.0) (map Char b.1 ++ us) (ap (λ t. t ++ us) (sym b.2) ∙ sym e ∙ f)

-- what a file's beginning is cut into is the beginning of what the file is cut into
pub cut_begins : (ps qs : List Piece) (gs rest : List Glyph) → IsCut gs ps rest → IsCut gs qs [] → (back : List Piece) × (qs ≡ ps ++ back) × IsCut rest back []
cut_begins [] qs gs rest h k = let P : List Glyph → Type 0 = λ t. IsCut t qs [] in (qs, refl, subst P h k)
cut_begins (p ∷ ps) [] gs rest h k = absurd (not_over p h.0 gs h.2 h.1 k)
cut_begins (p ∷ ps) (q ∷ qs) gs rest h k =
    let same : p ≡ q = one_piece p q h.0 k.0 (sym h.1 ∙ k.1) h.2 k.2 in
    let tails : h.0 ≡ k.0 = append_cancel_left (text_of p) h.0 k.0 (sym h.1 ∙ k.1 ∙ ap (λ r. text_of r ++ k.0) (sym same)) in
    let P : List Glyph → Type 0 = λ t. IsCut t qs [] in
    let more = cut_begins ps qs h.0 rest h.3 (subst P (sym tails) k.3) in
    let behind : qs ≡ ps ++ more.0 = more.1 in
    (more.0, cc, more.2)

empty_cut : (ps : List Piece) → IsCut [] ps [] → ps ≡ []
empty_cut [] h = refl
empty_cut (p ∷ ps) h = absurd (not_over p h.0 [] h.2 h.1 refl)

pub one_cut : (ps qs : List Piece) (gs : List Glyph) → IsCut gs ps [] → IsCut gs qs [] → ps ≡ qs
one_cut ps qs gs h k =
    let front = cut_begins ps qs gs [] h k in
    sym (front.1 ∙ ap (λ t. ps ++ t) (empty_cut front.0 front.2) ∙ append-nil ps)

-- ---- a file

marked : (gs hs : List Glyph) → hs ≡ Char 0xFEFF ∷ gs → begins_with_mark hs ≡ false → ⊥
marked gs hs e h = true≢false (sym (ap begins_with_mark e) ∙ h)

pub one_file : (bytes : List ℕ) (gs hs : List Glyph) → IsFile bytes gs → IsFile bytes hs → gs ≡ hs
one_file bytes gs hs (inl h) (inl k) = (char_parts 0xFEFF 0xFEFF gs hs (one_reading (Char 0xFEFF ∷ gs) (Char 0xFEFF ∷ hs) bytes h k)).1
one_file bytes gs hs (inl h) (inr k) = absurd (marked gs hs (one_reading hs (Char 0xFEFF ∷ gs) bytes k.0 h) k.1)
one_file bytes gs hs (inr h) (inl k) = absurd (marked hs gs (one_reading gs (Char 0xFEFF ∷ hs) bytes h.0 k) h.1)
one_file bytes gs hs (inr h) (inr k) = one_reading gs hs bytes h.0 k.0

-- a file has at most one list of tokens
pub one_token_list : (file : ℕ) (bytes : List ℕ) (tokens others : List Token) → Lexes file bytes tokens → Lexes file bytes others → tokens ≡ others
one_token_list file bytes tokens others h k =
    let glyphs : h.glyphs ≡ k.glyphs = one_file bytes h.glyphs k.glyphs h.read k.read in
    let P : List Glyph → Type 0 = λ gs. IsCut gs k.pieces [] in
    let pieces : h.pieces ≡ k.pieces = one_cut h.pieces k.pieces h.glyphs h.cut (subst P (sym glyphs) k.cut) in
    h.tokens_are ∙ ap (λ ps. laid file [] [] (lines_of ps)) pieces ∙ sym k.tokens_are

-- ---- two cuts of one file, each up to some place

-- of two cuts of one beginning the one goes on with the other
pub data Compared (ps qs : List Piece) (us vs : List Glyph) : Type 0 where
  further : (back : List Piece) → qs ≡ ps ++ back → IsCut us back vs → Compared ps qs us vs
  nearer : (p : Piece) (back : List Piece) → ps ≡ qs ++ p ∷ back → IsCut vs (p ∷ back) us → Compared ps qs us vs

cons_compared : (p q : Piece) (ps qs : List Piece) (us vs : List Glyph) → p ≡ q → Compared ps qs us vs → Compared (p ∷ ps) (q ∷ qs) us vs
cons_compared p q ps qs us vs same (further back e h) = further back (ap (λ t. q ∷ t) e ∙ ap (λ x. x ∷ ps ++ back) (sym same)) h
cons_compared p q ps qs us vs same (nearer x back e h) = nearer x back (ap (λ t. p ∷ t) e ∙ ap (λ y. y ∷ qs ++ x ∷ back) same) h

pub compare_cuts : (ps qs : List Piece) (gs us vs : List Glyph) → IsCut gs ps us → IsCut gs qs vs → Compared ps qs us vs
compare_cuts [] qs gs us vs h k = let P : List Glyph → Type 0 = λ t. IsCut t qs vs in further qs refl (subst P h k)
compare_cuts (p ∷ ps) [] gs us vs h k = let P : List Glyph → Type 0 = λ t. IsCut t (p ∷ ps) us in nearer p ps refl (subst P k h)
compare_cuts (p ∷ ps) (q ∷ qs) gs us vs h k =
    let same : p ≡ q = one_piece p q h.0 k.0 (sym h.1 ∙ k.1) h.2 k.2 in
    let tails : h.0 ≡ k.0 = append_cancel_left (text_of p) h.0 k.0 (sym h.1 ∙ k.1 ∙ ap (λ r. text_of r ++ k.0) (sym same)) in
    let P : List Glyph → Type 0 = λ t. IsCut t qs vs in
    cons_compared p q ps qs us vs same (compare_cuts ps qs h.0 us vs h.3 (subst P (sym tails) k.3))

-- what is cut are the texts of the pieces, and what is left
pub cut_texts : (ps : List Piece) (gs rest : List Glyph) → IsCut gs ps rest → gs ≡ texts ps ++ rest
cut_texts [] gs rest h = h
cut_texts (p ∷ ps) gs rest h = h.1 ∙ ap (λ t. text_of p ++ t) (cut_texts ps h.0 rest h.3) ∙ sym (append_assoc (text_of p) (texts ps) rest)
