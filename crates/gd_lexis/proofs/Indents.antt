-- Where the file is indented by one kind of blank up to a place, the rule on indentation is not broken before it.
use Rattle.std.proofs.Common.{◌≡◌, ◌≢◌, ℕ, Bool, false, true, cond, List, [], ◌∷◌, ◌++◌, map, fold, filter, flat_map, refl, ap, sym, ◌∙◌, subst, inl, inr, arith, append_assoc, append-nil, true≢false}
use Rattle.std.specs.Prelude.{◌⊎◌, All}
use Rattle.std.proofs.lemmas.Bool.{or_parts, or_right}
use Rattle.std.proofs.lemmas.List.{append_cancel_left}
use Rattle.std.proofs.lemmas.List.Elements.{All-head, All-tail, All-nil, All-cons, All-append}
use Rattle.std.proofs.lemmas.List.Sums.{fold-append}
use Rattle.gd_syntax.specs.declared.token.TokenKind.{TokenKind}
use Rattle.gd_rules.specs.declared.rule.Rule.TheVariants as rules
use Rattle.gd_lexis.specs.declared.glyph.Glyph.{Glyph}
use Rattle.gd_lexis.specs.declared.glyph.Glyph.TheVariants.{Char}
use Rattle.gd_lexis.specs.Pieces.{Piece, Blank, LineFeed, Join, Comment, Tok, text_of, IsLineEnd, Stands, IsCut}
use Rattle.gd_lexis.specs.Lines.{Parted, parted, parted_behind, lines_of, is_token, is_logical, lead, is_indentation}
use Rattle.gd_lexis.specs.Lexes.{IndentBy}
use Rattle.gd_lexis.specs.Faults.{Breaks, BeginsToken, HasToken, here, over, joined, IsIndentedBy}
use Rattle.gd_lexis.proofs.Cuts.{IsGap, char_parts, no_gap, one_end, blank_code, blank_gap, line_feed_gap, comment_gap, join_gap}
use Rattle.gd_lexis.proofs.Heads.{no_token, token_code, token_code_no_gap}
use Rattle.gd_lexis.proofs.Bounds.{all_at, grows, lines_behind, lines_from, with_piece, piece_grown}
use Rattle.gd_lexis.proofs.Levels.{lead_cons}

-- ---- what is cut from here on

data Cut (gs : List Glyph) (ps : List Piece) (end : List Glyph) : Type 0 where
  nothing : ps ≡ [] → gs ≡ end → Cut gs ps end
  piece : (p : Piece) (more : List Glyph) (rest : List Piece) → ps ≡ p ∷ rest → gs ≡ text_of p ++ more → Stands p more → IsCut more rest end → Cut gs ps end

cut_of : (gs : List Glyph) (ps : List Piece) (end : List Glyph) → IsCut gs ps end → Cut gs ps end
cut_of gs [] end h = nothing refl h
cut_of gs (p ∷ ps) end h = piece p h.0 ps refl h.1 h.2 h.3

-- ---- the line has a token from here on

-- The line goes on with some pieces that have a token, or with all of these pieces, behind which a token comes.
abbrev Ahead : Parted → List Piece → List Glyph → Type 0
Ahead P ps end =
    (x : List Piece) × (more : List (List Piece)) × (lines_behind P ps ≡ P.whole ++ (P.rest ++ x) ∷ more)
    × ((is_logical x ≡ true) ⊎ (HasToken end × ((fold parted_behind P ps).rest ≡ P.rest ++ x)))

goes_on : (P : Parted) (p : Piece) (rest x : List Piece) (end : List Glyph) → parted_behind P p ≡ with_piece P p
    → (is_logical x ≡ true) ⊎ (HasToken end × ((fold parted_behind (with_piece P p) rest).rest ≡ (P.rest ++ p ∷ []) ++ x))
    → (is_logical (p ∷ x) ≡ true) ⊎ (HasToken end × ((fold parted_behind P (p ∷ rest)).rest ≡ P.rest ++ p ∷ x))
goes_on P p rest x end same (inl h) = inl (or_right (is_token p) (is_logical x) h)
goes_on P p rest x end same (inr h) = inr (h.0, ap (λ s. (fold parted_behind s rest).rest) same ∙ h.1 ∙ append_assoc P.rest (p ∷ []) x)

piece_ahead : (P : Parted) (p : Piece) (ps rest : List Piece) (end : List Glyph) → ps ≡ p ∷ rest → parted_behind P p ≡ with_piece P p → Ahead (with_piece P p) rest end → Ahead P ps end
piece_ahead P p ps rest end e same h =
    let lines = ap (λ s. lines_behind s rest) same ∙ h.2 ∙ ap (λ t. P.whole ++ t ∷ h.1) (append_assoc P.rest (p ∷ []) h.0) in
    let R : List Piece → Type 0 = λ t. Ahead P t end in
    subst R (sym e) (p ∷ h.0, h.1, lines, goes_on P p rest h.0 end same h.3)

at_end : (P : Parted) (gs : List Glyph) (ps : List Piece) (end : List Glyph) → ps ≡ [] → gs ≡ end → HasToken gs → Ahead P ps end
at_end P gs ps end e f h =
    let R : List Piece → Type 0 = λ t. Ahead P t end in
    let Q : List Glyph → Type 0 = HasToken in
    subst R (sym e) ([], [], ap (λ t. P.whole ++ t ∷ []) (sym (append-nil P.rest)), inr (subst Q f h, sym (append-nil P.rest)))

from_token : (P : Parted) (kind : TokenKind) (text : List ℕ) (ps rest : List Piece) (end : List Glyph) → ps ≡ Tok kind text ∷ rest → Ahead P ps end
from_token P kind text ps rest end e =
    let found = piece_grown P (Tok kind text) (lines_behind (with_piece P (Tok kind text)) rest) (grows (with_piece P (Tok kind text)) rest) in
    (Tok kind text ∷ found.0, found.1, ap (lines_behind P) e ∙ found.2, inl refl)

glyph_head : (g h : Glyph) (us vs : List Glyph) → g ∷ us ≡ h ∷ vs → g ≡ h
glyph_head g h us vs e = cc

glyph_tail : (g h : Glyph) (us vs : List Glyph) → g ∷ us ≡ h ∷ vs → us ≡ vs
glyph_tail g h us vs e = cc

begins_at_gap : (c : ℕ) (gs us : List Glyph) → BeginsToken gs → gs ≡ Char c ∷ us → IsGap c → ⊥
begins_at_gap c gs us h e g =
    let code = token_code gs h in
    let P : ℕ → Type 0 = IsGap in
    token_code_no_gap code.0 code.3 (subst P (char_parts c code.0 us code.1 (sym e ∙ code.2)).0 g)

pub no_token_at_feed : {gs : List Glyph} (us : List Glyph) → HasToken gs → gs ≡ Char 10 ∷ us → ⊥
no_token_at_feed us (here gs b) e = begins_at_gap 10 gs us b e (inr (inr (inr (inl refl))))
no_token_at_feed us (over g gs n m h) e = n (glyph_head g (Char 10) gs us e)
no_token_at_feed us (joined end gs k h) e = omega (arith, (char_parts 92 10 (map Char end ++ gs) us e).0)

pub no_token_at_return : {gs : List Glyph} (us : List Glyph) → HasToken gs → gs ≡ Char 13 ∷ Char 10 ∷ us → ⊥
no_token_at_return us (here gs b) e = begins_at_gap 13 gs (Char 10 ∷ us) b e (inr (inr (inl refl)))
no_token_at_return us (over g gs n m h) e = no_token_at_feed us h (glyph_tail g (Char 13) gs (Char 10 ∷ us) e)
no_token_at_return us (joined end gs k h) e = omega (arith, (char_parts 92 13 (map Char end ++ gs) (Char 10 ∷ us) e).0)

pub no_token_at_end : (end : List ℕ) (gs us : List Glyph) → IsLineEnd end → HasToken gs → gs ≡ map Char end ++ us → ⊥
no_token_at_end end gs us (inl k) h e = no_token_at_feed us h (e ∙ ap (λ t. map Char t ++ us) k)
no_token_at_end end gs us (inr k) h e = no_token_at_return us h (e ∙ ap (λ t. map Char t ++ us) k)

-- where a token begins, no other piece stands
token_piece : (c : ℕ) (vs gs : List Glyph) (p : Piece) (more : List Glyph) → gs ≡ Char c ∷ vs → (IsGap c → ⊥) → gs ≡ text_of p ++ more → Stands p more → is_token p ≡ true
token_piece c vs gs (Blank d) more e none k s = no_token c d vs more gs e k none (blank_gap d (blank_code d more s))
token_piece c vs gs LineFeed more e none k s = no_token c 10 vs more gs e k none line_feed_gap
token_piece c vs gs (Join end) more e none k s = no_token c 92 vs (map Char end ++ more) gs e k none join_gap
token_piece c vs gs (Comment cs) more e none k s = no_token c 35 vs (map Char cs ++ more) gs e k none comment_gap
token_piece c vs gs (Tok kind text) more e none k s = refl

from_piece : (P : Parted) (p : Piece) (ps rest : List Piece) (end : List Glyph) → ps ≡ p ∷ rest → is_token p ≡ true → Ahead P ps end
from_piece P (Tok kind text) ps rest end e h = from_token P kind text ps rest end e
from_piece P _ ps rest end e h = absurd (true≢false (sym h))

here_step : (P : Parted) (gs : List Glyph) (ps : List Piece) (end : List Glyph) → BeginsToken gs → Cut gs ps end → Ahead P ps end
here_step P gs ps end t (nothing e f) = at_end P gs ps end e f (here gs t)
here_step P gs ps end t (piece p more rest e f s b) =
    let code = token_code gs t in
    from_piece P p ps rest end e (token_piece code.0 code.1 gs p more code.2 (token_code_no_gap code.0 code.3) f s)

over_step : (P : Parted) (g : Glyph) (gs : List Glyph) (ps : List Piece) (end : List Glyph) → g ≢ Char 10 → g ≢ Char 35 → HasToken gs
    → ((Q : Parted) (rest : List Piece) → IsCut gs rest end → Ahead Q rest end) → Cut (g ∷ gs) ps end → Ahead P ps end
over_step P g gs ps end n m h goes (nothing e f) = at_end P (g ∷ gs) ps end e f (over g gs n m h)
over_step P g gs ps end n m h goes (piece (Blank c) more rest e f s b) =
    let R : List Glyph → Type 0 = λ t. IsCut t rest end in
    piece_ahead P (Blank c) ps rest end e refl (goes (with_piece P (Blank c)) rest (subst R (sym (glyph_tail g (Char c) gs more f)) b))
over_step P g gs ps end n m h goes (piece LineFeed more rest e f s b) = absurd (n (glyph_head g (Char 10) gs more f))
over_step P g gs ps end n m h goes (piece (Join ends) more rest e f s b) = absurd (no_token_at_end ends gs more s h (glyph_tail g (Char 92) gs (map Char ends ++ more) f))
over_step P g gs ps end n m h goes (piece (Comment cs) more rest e f s b) = absurd (m (glyph_head g (Char 35) gs (map Char cs ++ more) f))
over_step P g gs ps end n m h goes (piece (Tok kind text) more rest e f s b) = from_token P kind text ps rest end e

joined_step : (P : Parted) (ends : List ℕ) (gs : List Glyph) (ps : List Piece) (end : List Glyph) → IsLineEnd ends → HasToken gs
    → ((Q : Parted) (rest : List Piece) → IsCut gs rest end → Ahead Q rest end) → Cut (map Char (92 ∷ ends) ++ gs) ps end → Ahead P ps end
joined_step P ends gs ps end k h goes (nothing e f) = at_end P (map Char (92 ∷ ends) ++ gs) ps end e f (joined ends gs k h)
joined_step P ends gs ps end k h goes (piece (Blank c) more rest e f s b) = absurd (omega (arith, (char_parts 92 c (map Char ends ++ gs) more f).0, blank_code c more s))
joined_step P ends gs ps end k h goes (piece LineFeed more rest e f s b) = absurd (omega (arith, (char_parts 92 10 (map Char ends ++ gs) more f).0))
joined_step P ends gs ps end k h goes (piece (Join other) more rest e f s b) =
    let behind = (char_parts 92 92 (map Char ends ++ gs) (map Char other ++ more) f).1 in
    let same : ends ≡ other = one_end ends other gs more k s behind in
    let tails : gs ≡ more = append_cancel_left (map Char ends) gs more (behind ∙ ap (λ t. map Char t ++ more) (sym same)) in
    let R : List Glyph → Type 0 = λ t. IsCut t rest end in
    piece_ahead P (Join other) ps rest end e refl (goes (with_piece P (Join other)) rest (subst R (sym tails) b))
joined_step P ends gs ps end k h goes (piece (Comment cs) more rest e f s b) = absurd (omega (arith, (char_parts 92 35 (map Char ends ++ gs) (map Char cs ++ more) f).0))
joined_step P ends gs ps end k h goes (piece (Tok kind text) more rest e f s b) = absurd (no_gap kind text more (map Char ends ++ gs) 92 s.0 (sym f) join_gap)

token_ahead : (P : Parted) (ps : List Piece) (end : List Glyph) {gs : List Glyph} → HasToken gs → IsCut gs ps end → Ahead P ps end
token_ahead P ps end (here gs t) b = here_step P gs ps end t (cut_of gs ps end b)
token_ahead P ps end (over g gs n m h) b = over_step P g gs ps end n m h (λ Q rest. token_ahead Q rest end h) (cut_of (g ∷ gs) ps end b)
token_ahead P ps end (joined ends gs k h) b = joined_step P ends gs ps end k h (λ Q rest. token_ahead Q rest end h) (cut_of (map Char (92 ∷ ends) ++ gs) ps end b)

-- a token ahead of a blank is ahead of what follows the blank
pub behind_blank : (c : ℕ) {gs : List Glyph} (us : List Glyph) → IsGap c → c ≢ 92 → HasToken gs → gs ≡ Char c ∷ us → HasToken us
behind_blank c us g other (here gs b) e = absurd (begins_at_gap c gs us b e g)
behind_blank c us g other (over x gs n m h) e = let P : List Glyph → Type 0 = HasToken in subst P (glyph_tail x (Char c) gs us e) h
behind_blank c us g other (joined end gs k h) e = absurd (other (sym (char_parts 92 c (map Char end ++ gs) us e).0))

-- ---- what stands before a line's first token

pub lead_through : (rest x : List Piece) → is_logical rest ≡ false → lead (rest ++ x) ≡ rest ++ lead x
lead_through [] x h = refl
lead_through (q ∷ rest) x h =
    let parts = or_parts (is_token q) (is_logical rest) h in
    lead_cons q (rest ++ x) parts.0 ∙ ap (λ t. q ∷ t) (lead_through rest x parts.1)

pub logical_behind : (rest x : List Piece) → is_logical x ≡ true → is_logical (rest ++ x) ≡ true
logical_behind [] x h = h
logical_behind (q ∷ rest) x h = or_right (is_token q) (is_logical (rest ++ x)) (logical_behind rest x h)

pub all_front : {X : Type 0} (P : X → Type 0) (xs ys : List X) → All P (xs ++ ys) → All P xs
all_front P [] ys h = All-nil P
all_front P (x ∷ xs) ys h = All-cons P x xs (All-head P x (xs ++ ys) h) (all_front P xs ys (All-tail P x (xs ++ ys) h))

abbrev pub IsOne : ℕ → Piece → Type 0
IsOne c p = is_indentation p ≡ true → p ≡ Blank c

abbrev pub IsIndented : ℕ → List Piece → Type 0
IsIndented c line = is_logical line ≡ true → All (IsOne c) (lead line)

with_line : (c : ℕ) (t : Bool) (line : List Piece) (lines : List (List Piece)) → (t ≡ true → All (IsOne c) (lead line)) → All (IsOne c) (flat_map lead lines)
    → All (IsOne c) (flat_map lead (cond t (line ∷ lines) lines))
with_line c true line lines h k = All-append (IsOne c) (lead line) (flat_map lead lines) (h refl) k
with_line c false line lines h k = k

cond_append : (t : Bool) (line : List Piece) (lines more : List (List Piece)) → cond t (line ∷ lines) lines ++ more ≡ cond t (line ∷ lines ++ more) (lines ++ more)
cond_append true line lines more = refl
cond_append false line lines more = refl

all_leads : (c : ℕ) (whole : List (List Piece)) (rest : List Piece) → All (IsIndented c) whole → All (IsOne c) (lead rest) → All (IsOne c) (flat_map lead (filter is_logical whole ++ rest ∷ []))
all_leads c [] rest h k = let P : List Piece → Type 0 = λ t. All (IsOne c) t in subst P (sym (append-nil (lead rest))) k
all_leads c (line ∷ whole) rest h k =
    let more = all_leads c whole rest (All-tail (IsIndented c) line whole h) k in
    let P : List (List Piece) → Type 0 = λ t. All (IsOne c) (flat_map lead t) in
    subst P (sym (cond_append (is_logical line) line (filter is_logical whole) (rest ∷ []))) (with_line c (is_logical line) line (filter is_logical whole ++ rest ∷ []) (All-head (IsIndented c) line whole h) more)

first_kept : {X : Type 0} (P : X → Type 0) (f : X → Bool) (x y : X) (xs ys : List X) (t : Bool) → f x ≡ t → P x → (filter f xs ≡ y ∷ ys → P y × (f y ≡ true)) → cond t (x ∷ filter f xs) (filter f xs) ≡ y ∷ ys
    → P y × (f y ≡ true)
first_kept P f x y xs ys true e h more k =
    let same : x ≡ y = cc in
    (subst P same h, ap f (sym same) ∙ e)
first_kept P f x y xs ys false e h more k = more k

first_of_filter : {X : Type 0} (P : X → Type 0) (f : X → Bool) (xs ys : List X) (y : X) → All P xs → filter f xs ≡ y ∷ ys → P y × (f y ≡ true)
first_of_filter P f [] ys y h e = absurd (none e)
  where
    none : [] ≡ y ∷ ys → ⊥
    none e = cc
first_of_filter P f (x ∷ xs) ys y h e = first_kept P f x y xs ys (f x) refl (All-head P x xs h) (λ k. first_of_filter P f xs ys y (All-tail P x xs h) k) e

blank_same : (b c : ℕ) → Blank b ≡ Blank c → b ≡ c
blank_same b c e = cc

-- ---- the rule

abbrev IsSpace : ℕ → Type 0
IsSpace b = (b ≡ 32) ⊎ (b ≡ 9)

is_space : (b : ℕ) → IsSpace b → is_indentation (Blank b) ≡ true
is_space b (inl e) = ap (λ c. is_indentation (Blank c)) e
is_space b (inr e) = ap (λ c. is_indentation (Blank c)) e

space_gap : (b : ℕ) → IsSpace b → IsGap b
space_gap b (inl e) = inl e
space_gap b (inr e) = inr (inl e)

-- the line that goes on from a blank has blanks of one kind before its first token
line_lead : (c b : ℕ) (before ps all x : List Piece) (more : List (List Piece)) (end : List Glyph) → all ≡ before ++ Blank b ∷ ps
    → All (IsIndented c) ((parted before).whole ++ ((parted before).rest ++ Blank b ∷ x) ∷ more) → (HasToken end → All (IsOne c) (lead (parted all).rest))
    → (is_logical x ≡ true) ⊎ (HasToken end × ((fold parted_behind (with_piece (parted before) (Blank b)) ps).rest ≡ ((parted before).rest ++ Blank b ∷ []) ++ x))
    → All (IsOne c) (lead ((parted before).rest ++ Blank b ∷ x))
line_lead c b before ps all x more end e each running (inl h) =
    let P = parted before in
    all_at (IsIndented c) P.whole more (P.rest ++ Blank b ∷ x) each (logical_behind P.rest (Blank b ∷ x) h)
line_lead c b before ps all x more end e each running (inr h) =
    let P = parted before in
    let state : parted all ≡ fold parted_behind P (Blank b ∷ ps) = ap parted e ∙ fold-append parted_behind (record { whole = []; rest = [] }) before (Blank b ∷ ps) in
    let line : (parted all).rest ≡ P.rest ++ Blank b ∷ x = ap (λ s. s.rest) state ∙ h.1 ∙ append_assoc P.rest (Blank b ∷ []) x in
    let S : List Piece → Type 0 = λ t. All (IsOne c) (lead t) in
    subst S line (running h.0)

-- at a blank before a line's first token, every blank so far is this one
same_blank : (c b o : ℕ) (before : List Piece) (ps all : List Piece) (us end : List Glyph) → IsSpace b → IsSpace o → all ≡ before ++ Blank b ∷ ps → IsCut us ps end → HasToken us
    → IndentBy c (lines_of all) → (HasToken end → All (IsOne c) (lead (parted all).rest)) → is_logical (parted before).rest ≡ false → IsIndentedBy o before → b ≡ o
same_blank c b o before ps all us end space space' e cut token indented running first by =
    let P = parted before in
    let found = token_ahead (with_piece P (Blank b)) ps end token cut in
    let x = found.0 in
    let line = P.rest ++ Blank b ∷ x in
    let lines : lines_of all ≡ P.whole ++ line ∷ found.1 =
    ap lines_of e ∙ lines_from before (Blank b ∷ ps) ∙ found.2 ∙ ap (λ t. P.whole ++ t ∷ found.1) (append_assoc P.rest (Blank b ∷ []) x) in
    let R : List (List Piece) → Type 0 = λ t. All (IsIndented c) t in
    let each : All (IsIndented c) (P.whole ++ line ∷ found.1) = subst R lines indented in
    let front : lead line ≡ P.rest ++ Blank b ∷ lead x = lead_through P.rest (Blank b ∷ x) first ∙ ap (λ t. P.rest ++ t) (lead_cons (Blank b) x refl) in
    let S : List Piece → Type 0 = λ t. All (IsOne c) t in
    let ones : All (IsOne c) (P.rest ++ Blank b ∷ lead x) = subst S front (line_lead c b before ps all x found.1 end e each running found.3) in
    let this : Blank b ≡ Blank c = all_at (IsOne c) P.rest (lead x) (Blank b) ones (is_space b space) in
    let alone : lead P.rest ≡ P.rest = ap lead (sym (append-nil P.rest)) ∙ lead_through P.rest [] first ∙ append-nil P.rest in
    let leads = all_leads c P.whole P.rest (all_front (IsIndented c) P.whole (line ∷ found.1) each) (subst S (sym alone) (all_front (IsOne c) P.rest (Blank b ∷ lead x) ones)) in
    let first_one = first_of_filter (IsOne c) is_indentation (flat_map lead (filter is_logical P.whole ++ P.rest ∷ [])) by.0 (Blank o) leads by.1 in
    blank_same b c this ∙ sym (blank_same o c (first_one.0 first_one.1))

at_blank : (c b o : ℕ) (before : List Piece) (gs us more end : List Glyph) (p : Piece) (ps all : List Piece) → IsSpace b → IsSpace o → all ≡ before ++ p ∷ ps → gs ≡ Char b ∷ us → HasToken gs
    → IndentBy c (lines_of all) → (HasToken end → All (IsOne c) (lead (parted all).rest)) → is_logical (parted before).rest ≡ false → IsIndentedBy o before
    → gs ≡ text_of p ++ more → Stands p more → IsCut more ps end → b ≡ o
at_blank c b o before gs us more end (Blank d) ps all space space' e f token indented running first by h s k =
    let parts = char_parts b d us more (sym f ∙ h) in
    let same : d ≡ b = sym parts.0 in
    let ahead : HasToken us = behind_blank b us (space_gap b space) (λ q. omega arith) token f in
    let R : List Glyph → Type 0 = λ t. IsCut t ps end in
    same_blank c b o before ps all us end space space' (e ∙ ap (λ x. before ++ Blank x ∷ ps) same) (subst R (sym parts.1) k) ahead indented running first by
at_blank c b o before gs us more end LineFeed ps all space space' e f token indented running first by h s k = absurd (omega (arith, (char_parts b 10 us more (sym f ∙ h)).0))
at_blank c b o before gs us more end (Join ends) ps all space space' e f token indented running first by h s k = absurd (omega (arith, (char_parts b 92 us (map Char ends ++ more) (sym f ∙ h)).0))
at_blank c b o before gs us more end (Comment cs) ps all space space' e f token indented running first by h s k = absurd (omega (arith, (char_parts b 35 us (map Char cs ++ more) (sym f ∙ h)).0))
at_blank c b o before gs us more end (Tok kind text) ps all space space' e f token indented running first by h s k = absurd (no_gap kind text more us b s.0 (sym h ∙ f) (space_gap b space))

pub mixed_indentation : (c : ℕ) (before : List Piece) (gs ahead end : List Glyph) (p : Piece) (ps all : List Piece) → IsCut gs (p ∷ ps) end → all ≡ before ++ p ∷ ps → IndentBy c (lines_of all)
    → (HasToken end → All (IsOne c) (lead (parted all).rest)) → Breaks rules.MixedIndentation before gs ahead → ⊥
mixed_indentation c before gs ahead end p ps all h e indented running (z, first, token, inl k) =
    omega (arith, at_blank c 9 32 before gs k.1.0 h.0 end p ps all (inr refl) (inl refl) e k.1.1 token indented running first k.0 h.1 h.2 h.3)
mixed_indentation c before gs ahead end p ps all h e indented running (z, first, token, inr k) =
    omega (arith, at_blank c 32 9 before gs k.1.0 h.0 end p ps all (inl refl) (inr refl) e k.1.1 token indented running first k.0 h.1 h.2 h.3)
