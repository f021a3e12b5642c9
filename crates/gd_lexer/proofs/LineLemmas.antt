-- What one piece more makes of the lines.
use Rattle.std.proofs.Common.{◌≡◌, ◌+◌, Bool, true, false, cond, not, ◌==◌, ◌||◌, ◌&&◌, List, [], ◌∷◌, ◌++◌, filter, take, fold, refl, ap, sym, ◌∙◌, append_assoc, append-nil, true≢false, if◌then◌else◌}
use Rattle.std.proofs.lemmas.Bool.{or_right}
use Rattle.std.proofs.lemmas.List.Sums.{fold-append}
use Rattle.std.proofs.lemmas.List.Folds.{list_any-append}
use Rattle.std.proofs.lemmas.Grind.{flat_map-append}
use Rattle.std.specs.List.{prefix_len}
use Rattle.gd_lexis.specs.declared.glyph.Glyph.{Glyph}
use Rattle.gd_lexis.specs.declared.glyph.Glyph.TheVariants.{Char}
use Rattle.gd_lexis.specs.Pieces.{Piece, Blank, LineFeed, Join, Comment, Tok, text_of}
use Rattle.gd_lexis.specs.Lines.{Parted, parted, parted_behind, is_token, is_line_end, is_logical, is_indentation, lead, depth, level, texts, blocks_after, open_blocks, blocks_behind}
use Rattle.gd_lexis.proofs.Levels.{lead_cons}
use Rattle.gd_lexis.proofs.Indents.{lead_through}
use Rattle.gd_lexer.specs.Begun.{whole, line, glyphs_of}
use Rattle.gd_lexer.specs.Blanks.{blanks, blanks_of}

-- ---- how lines go on

parted_more : (ps : List Piece) (p : Piece) → parted (ps ++ p ∷ []) ≡ parted_behind (parted ps) p
parted_more ps p = fold-append parted_behind (record { whole = []; rest = [] }) ps (p ∷ [])

-- the piece does not end the line
abbrev pub Stays : List Piece → Piece → Type 0
Stays ps p = (is_line_end p && (level (line ps) == 0)) ≡ false

by_test : (b : Bool) (ps : List Piece) (p : Piece) → (is_line_end p && (level (line ps) == 0)) ≡ b
    → parted (ps ++ p ∷ []) ≡ cond b (let P : Parted = record { whole = whole ps ++ line ps ∷ []; rest = [] } in P) (record { whole = whole ps; rest = line ps ++ p ∷ [] })
by_test b ps p h = parted_more ps p ∙ ap (λ t. cond t (let P : Parted = record { whole = whole ps ++ line ps ∷ []; rest = [] } in P) (record { whole = whole ps; rest = line ps ++ p ∷ [] })) h

pub same_whole : (ps : List Piece) (p : Piece) → Stays ps p → whole (ps ++ p ∷ []) ≡ whole ps
same_whole ps p h = ap (λ (P : Parted). P.whole) (by_test false ps p h)

pub longer_line : (ps : List Piece) (p : Piece) → Stays ps p → line (ps ++ p ∷ []) ≡ line ps ++ p ∷ []
longer_line ps p h = ap (λ (P : Parted). P.rest) (by_test false ps p h)

feed_ends : (ps : List Piece) → level (line ps) ≡ 0 → (is_line_end LineFeed && (level (line ps) == 0)) ≡ true
feed_ends ps h = ap (λ n. n == 0) h

pub more_whole : (ps : List Piece) → level (line ps) ≡ 0 → whole (ps ++ LineFeed ∷ []) ≡ whole ps ++ line ps ∷ []
more_whole ps h = ap (λ (P : Parted). P.whole) (by_test true ps LineFeed (feed_ends ps h))

pub empty_line : (ps : List Piece) → level (line ps) ≡ 0 → line (ps ++ LineFeed ∷ []) ≡ []
empty_line ps h = ap (λ (P : Parted). P.rest) (by_test true ps LineFeed (feed_ends ps h))

-- ---- whether a line has a token

or_last : (a b : Bool) → (a || (b || false)) ≡ (a || b)
or_last true b = refl
or_last false true = refl
or_last false false = refl

logical_more : (xs : List Piece) (p : Piece) → is_logical (xs ++ p ∷ []) ≡ (is_logical xs || is_token p)
logical_more xs p = list_any-append is_token xs (p ∷ []) ∙ or_last (is_logical xs) (is_token p)

or_false : (a b : Bool) → b ≡ false → (a || b) ≡ a
or_false true b h = refl
or_false false b h = h

pub silent_logical : (xs : List Piece) (p : Piece) → is_token p ≡ false → is_logical (xs ++ p ∷ []) ≡ is_logical xs
silent_logical xs p h = logical_more xs p ∙ or_false (is_logical xs) (is_token p) h

pub token_logical : (xs : List Piece) (p : Piece) → is_token p ≡ true → is_logical (xs ++ p ∷ []) ≡ true
token_logical xs p h = logical_more xs p ∙ or_right (is_logical xs) (is_token p) h

-- ---- what stands before a line's first token

lead_token : (q : Piece) (xs : List Piece) → is_token q ≡ true → lead (q ∷ xs) ≡ []
lead_token q xs h = ap (λ b. take (cond (not b) (1 + prefix_len (λ p. not (is_token p)) xs) 0) (q ∷ xs)) h

lead_open : (xs ys : List Piece) → is_logical xs ≡ true → lead (xs ++ ys) ≡ lead xs
lead_open [] ys h = absurd (true≢false (sym h))
lead_open (q ∷ xs) ys h = by_head (is_token q) refl h (λ k. lead_open xs ys k)
  where
    by_head : (b : Bool) → is_token q ≡ b → (b || is_logical xs) ≡ true → (is_logical xs ≡ true → lead (xs ++ ys) ≡ lead xs) → lead (q ∷ (xs ++ ys)) ≡ lead (q ∷ xs)
    by_head true e k more = lead_token q (xs ++ ys) e ∙ sym (lead_token q xs e)
    by_head false e k more = lead_cons q (xs ++ ys) e ∙ ap (λ t. q ∷ t) (more k) ∙ sym (lead_cons q xs e)

pub lead_whole : (xs : List Piece) → is_logical xs ≡ false → lead xs ≡ xs
lead_whole xs h = ap lead (sym (append-nil xs)) ∙ lead_through xs [] h ∙ append-nil xs

lead_by : (b : Bool) (xs : List Piece) (p : Piece) → is_logical xs ≡ b → is_token p ≡ true → lead (xs ++ p ∷ []) ≡ lead xs
lead_by true xs p h k = lead_open xs (p ∷ []) h
lead_by false xs p h k = lead_through xs (p ∷ []) h ∙ ap (λ t. xs ++ t) (lead_token p [] k) ∙ append-nil xs ∙ sym (lead_whole xs h)

pub token_lead : (xs : List Piece) (p : Piece) → is_token p ≡ true → lead (xs ++ p ∷ []) ≡ lead xs
token_lead xs p k = lead_by (is_logical xs) xs p refl k

pub open_lead : (xs : List Piece) (p : Piece) → is_logical xs ≡ true → lead (xs ++ p ∷ []) ≡ lead xs
open_lead xs p h = lead_open xs (p ∷ []) h

pub shut_lead : (xs : List Piece) (p : Piece) → is_logical xs ≡ false → is_token p ≡ false → lead (xs ++ p ∷ []) ≡ xs ++ p ∷ []
shut_lead xs p h k = lead_whole (xs ++ p ∷ []) (silent_logical xs p k ∙ h)

-- ---- blanks

filter_append : (xs ys : List Piece) → filter is_indentation (xs ++ ys) ≡ filter is_indentation xs ++ filter is_indentation ys
filter_append [] ys = refl
filter_append (x ∷ xs) ys = by_head (is_indentation x) (filter_append xs ys)
  where
    by_head : (b : Bool) → filter is_indentation (xs ++ ys) ≡ filter is_indentation xs ++ filter is_indentation ys
        → cond b (x ∷ filter is_indentation (xs ++ ys)) (filter is_indentation (xs ++ ys)) ≡ cond b (x ∷ filter is_indentation xs) (filter is_indentation xs) ++ filter is_indentation ys
    by_head true e = ap (λ t. x ∷ t) e
    by_head false e = e

-- a piece that is no token, before the first one
pub shut_blanks : (xs : List Piece) (p : Piece) → is_logical xs ≡ false → is_token p ≡ false → blanks (xs ++ p ∷ []) ≡ blanks xs ++ filter is_indentation (p ∷ [])
shut_blanks xs p h k =
    ap (λ t. filter is_indentation t) (shut_lead xs p h k) ∙ filter_append xs (p ∷ []) ∙ ap (λ t. filter is_indentation t ++ filter is_indentation (p ∷ [])) (sym (lead_whole xs h))

pub no_blank : (xs : List Piece) (p : Piece) → is_logical xs ≡ false → is_token p ≡ false → is_indentation p ≡ false → blanks (xs ++ p ∷ []) ≡ blanks xs
no_blank xs p h k i = shut_blanks xs p h k ∙ ap (λ b. blanks xs ++ cond b (p ∷ []) []) i ∙ append-nil (blanks xs)

pub one_blank : (xs : List Piece) (p : Piece) → is_logical xs ≡ false → is_token p ≡ false → is_indentation p ≡ true → blanks (xs ++ p ∷ []) ≡ blanks xs ++ p ∷ []
one_blank xs p h k i = shut_blanks xs p h k ∙ ap (λ b. blanks xs ++ cond b (p ∷ []) []) i

-- a piece that is no blank, or stands behind a token
blanks_by : (b : Bool) (xs : List Piece) (p : Piece) → is_logical xs ≡ b → is_token p ≡ false → is_indentation p ≡ false → blanks (xs ++ p ∷ []) ≡ blanks xs
blanks_by true xs p h k i = ap (λ t. filter is_indentation t) (open_lead xs p h)
blanks_by false xs p h k i = no_blank xs p h k i

pub silent_blanks : (xs : List Piece) (p : Piece) → is_token p ≡ false → is_indentation p ≡ false → blanks (xs ++ p ∷ []) ≡ blanks xs
silent_blanks xs p k i = blanks_by (is_logical xs) xs p refl k i

pub open_blanks : (xs : List Piece) (p : Piece) → is_logical xs ≡ true → blanks (xs ++ p ∷ []) ≡ blanks xs
open_blanks xs p h = ap (λ t. filter is_indentation t) (open_lead xs p h)

pub token_blanks : (xs : List Piece) (p : Piece) → is_token p ≡ true → blanks (xs ++ p ∷ []) ≡ blanks xs
token_blanks xs p k = ap (λ t. filter is_indentation t) (token_lead xs p k)

pub blanks_of_more : (lines : List (List Piece)) (xs : List Piece) → blanks_of (lines ++ xs ∷ []) ≡ blanks_of lines ++ (if is_logical xs then blanks xs else [])
blanks_of_more lines xs = flat_map-append (λ l. if is_logical l then blanks l else []) lines (xs ∷ []) ∙ ap (λ t. blanks_of lines ++ t) (append-nil (if is_logical xs then blanks xs else []))

-- ---- whole lines

pub open_blocks_more : (lines : List (List Piece)) (xs : List Piece) → open_blocks (lines ++ xs ∷ []) ≡ blocks_after (open_blocks lines) xs
open_blocks_more lines xs = fold-append (λ bs l. if is_logical l then blocks_behind bs (depth l) else bs) [] lines (xs ∷ [])

pub glyphs_of_more : (lines : List (List Piece)) (xs : List Piece) → glyphs_of (lines ++ xs ∷ []) ≡ glyphs_of lines ++ (texts xs ++ Char 10 ∷ [])
glyphs_of_more lines xs = flat_map-append (λ l. texts l ++ Char 10 ∷ []) lines (xs ∷ []) ∙ ap (λ t. glyphs_of lines ++ t) (append-nil (texts xs ++ Char 10 ∷ []))

-- ---- the glyphs of all lines are those of the pieces

abbrev all_glyphs : Parted → List Glyph
all_glyphs P = glyphs_of P.whole ++ texts P.rest

texts_more : (ps : List Piece) (p : Piece) → texts (ps ++ p ∷ []) ≡ texts ps ++ text_of p
texts_more ps p = flat_map-append text_of ps (p ∷ []) ∙ ap (λ t. texts ps ++ t) (append-nil (text_of p))

glyphs_step : (b : Bool) (P : Parted) (p : Piece) → (is_line_end p && (level P.rest == 0)) ≡ b → all_glyphs (cond b (let Q : Parted = record { whole = P.whole ++ P.rest ∷ []; rest = [] } in Q) (record { whole = P.whole; rest = P.rest ++ p ∷ [] })) ≡ all_glyphs P ++ text_of p
glyphs_step true P LineFeed h = append-nil (glyphs_of (P.whole ++ P.rest ∷ [])) ∙ glyphs_of_more P.whole P.rest ∙ sym (append_assoc (glyphs_of P.whole) (texts P.rest) (Char 10 ∷ []))
glyphs_step true P (Blank c) h = absurd (true≢false (sym h))
glyphs_step true P (Join e) h = absurd (true≢false (sym h))
glyphs_step true P (Comment cs) h = absurd (true≢false (sym h))
glyphs_step true P (Tok k t) h = absurd (true≢false (sym h))
glyphs_step false P p h = ap (λ t. glyphs_of P.whole ++ t) (texts_more P.rest p) ∙ sym (append_assoc (glyphs_of P.whole) (texts P.rest) (text_of p))

glyphs_from : (P : Parted) (ps : List Piece) → all_glyphs (fold parted_behind P ps) ≡ all_glyphs P ++ texts ps
glyphs_from P [] = sym (append-nil (all_glyphs P))
glyphs_from P (p ∷ ps) =
    glyphs_from (parted_behind P p) ps ∙ ap (λ t. t ++ texts ps) (glyphs_step (is_line_end p && (level P.rest == 0)) P p refl) ∙ append_assoc (all_glyphs P) (text_of p) (texts ps)

pub glyphs_are : (ps : List Piece) → glyphs_of (whole ps) ++ texts (line ps) ≡ texts ps
glyphs_are ps = glyphs_from (record { whole = []; rest = [] }) ps
