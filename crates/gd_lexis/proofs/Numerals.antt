-- Where a piece stands next, no rule on characters and numbers is broken.
use Rattle.std.proofs.Common.{◌≡◌, ◌≢◌, ℕ, ◌≤◌, ◌^◌, Bool, false, true, not, ◌==◌, ◌||◌, List, [], ◌∷◌, ◌++◌, map, refl, ap, sym, ◌∙◌, subst, inl, inr, arith, lit≤, true≢false, pos}
use Rattle.std.specs.Prelude.{◌⊎◌, All, IsTrue, codes, nat_le}
use Rattle.std.specs.Char.{is_ascii_alphanumeric}
use Rattle.std.specs.Int.{IsInRange, is_in_range}
use Rattle.std.proofs.lemmas.Bool.{or_left, or_right, and_from, le-leb, eqb-true}
use Rattle.std.proofs.lemmas.List.Elements.{All-head, All-tail, All-nil, All-cons}
use Rattle.std.proofs.lemmas.Str.Parse.{digit_from_value}
use Rattle.unicode_ident.specs.Ident.{is_xid_start}
use Rattle.unicode_ident.proofs.IdentLemmas.{is_xid_start-ascii, is_xid_continue-ascii}
use Rattle.gd_syntax.specs.declared.token.TokenKind.{TokenKind}
use Rattle.gd_syntax.specs.declared.token.TokenKind.TheVariants as kinds
use Rattle.gd_syntax.specs.declared.token.Keyword.{Keyword}
use Rattle.gd_syntax.specs.declared.token.Mark.{Mark}
use Rattle.gd_syntax.specs.declared.token.Mark.TheVariants as marks
use Rattle.gd_lexis.specs.declared.glyph.Glyph.{Glyph}
use Rattle.gd_lexis.specs.declared.glyph.Glyph.TheVariants.{Char, Bad}
use Rattle.gd_lexis.specs.Words.{IsName, GoesOn, IsFloatName, keyword_text, mark_text}
use Rattle.gd_lexis.specs.Numbers.{IsDigit, WritesNumber, WritesDecimal}
use Rattle.gd_lexis.specs.Pieces.{Piece, Blank, LineFeed, Join, Comment, Tok, Writes, BeginsWith, BeginsBy, IsClear, Stands}
use Rattle.gd_lexis.specs.Faults.{IsNumber, IsStray, Breaks}
use Rattle.gd_rules.specs.declared.rule.Rule.TheVariants as rules
use Rattle.gd_lexis.proofs.Lists.{not_empty}
use Rattle.gd_lexis.proofs.Tokens.{BeginsName, BeginsString, keyword_letters, token_begins, two_letters}
use Rattle.gd_lexis.proofs.Cuts.{IsGap, char_parts, no_gap, glyph_not_empty, comment_gap}
use Rattle.gd_lexis.proofs.Heads.{Front, front, TokenFront, token_front, token_front_of, Next, next_piece, token_next, begins_token, begins_at}

-- ---- bytes that are part of no character

pub char_bad : (c b : ℕ) (us vs : List Glyph) → Char c ∷ us ≡ Bad b ∷ vs → ⊥
char_bad c b us vs e = cc

glyph_tail : (g h : Glyph) (us vs : List Glyph) → g ∷ us ≡ h ∷ vs → us ≡ vs
glyph_tail g h us vs e = cc

-- ---- stray characters

code_is : (c d : ℕ) (vs us gs : List Glyph) → gs ≡ Char c ∷ vs → gs ≡ Char d ∷ us → c ≡ d
code_is c d vs us gs e f = (char_parts c d vs us (sym e ∙ f)).0

stray : (gs : List Glyph) (ps : List Piece) → IsStray gs → Front gs ps → ⊥
stray gs ps h (front (Blank d) more rest e f (inl s)) = h.3 (code_is h.0 d h.1.0 more gs h.1.1 f ∙ s)
stray gs ps h (front (Blank d) more rest e f (inr (inl s))) = h.4 (code_is h.0 d h.1.0 more gs h.1.1 f ∙ s)
stray gs ps h (front (Blank d) more rest e f (inr (inr s))) = h.7 (s.1.0, f ∙ ap (λ x. Char x ∷ more) s.0 ∙ ap (λ t. Char 13 ∷ t) s.1.1)
stray gs ps h (front LineFeed more rest e f s) = h.5 (code_is h.0 10 h.1.0 more gs h.1.1 f)
stray gs ps h (front (Join end) more rest e f (inl s)) = h.8 (more, f ∙ ap (λ t. map Char (92 ∷ t) ++ more) s)
stray gs ps h (front (Join end) more rest e f (inr s)) = h.9 (more, f ∙ ap (λ t. map Char (92 ∷ t) ++ more) s)
stray gs ps h (front (Comment cs) more rest e f s) = h.6 (code_is h.0 35 h.1.0 (map Char cs ++ more) gs h.1.1 f)
stray gs ps h (front (Tok kind text) more rest e f s) = h.2 (begins_token kind text more gs s.0 f)

-- a carriage return in a comment stands before the comment's line end
in_comment : (cs : List ℕ) (inner us more : List Glyph) → map Char cs ++ us ≡ inner ++ Char 13 ∷ more → All (λ c. c ≢ 10) cs → (us ≡ []) ⊎ BeginsWith (10 ∷ []) us
    → All (λ g. g ≢ Char 10) inner → ((front back : List ℕ) → cs ≡ front ++ 13 ∷ back → (back ≡ []) × BeginsWith (10 ∷ []) us) → (BeginsWith (10 ∷ []) more → ⊥) → ⊥
in_comment [] [] us more e h (inl k) l m n = glyph_not_empty (Char 13) more (sym e ∙ k)
in_comment [] [] us more e h (inr k) l m n = omega (arith, code_is 13 10 more k.0 us e k.1)
in_comment [] (g ∷ inner) us more e h (inl k) l m n = glyph_not_empty g (inner ++ Char 13 ∷ more) (sym e ∙ k)
in_comment [] (g ∷ inner) us more e h (inr k) l m n = All-head (λ g. g ≢ Char 10) g inner l (glyph_head g (Char 10) (inner ++ Char 13 ∷ more) k.0 (sym e ∙ k.1))
  where
    glyph_head : (g h : Glyph) (us vs : List Glyph) → g ∷ us ≡ h ∷ vs → g ≡ h
    glyph_head g h us vs e = cc
in_comment (c ∷ cs) [] us more e h k l m n =
    let parts = char_parts c 13 (map Char cs ++ us) more e in
    let end = m [] cs (ap (λ x. x ∷ cs) parts.0) in
    n (end.1.0, sym parts.1 ∙ ap (λ t. map Char t ++ us) end.0 ∙ end.1.1)
in_comment (c ∷ cs) (g ∷ inner) us more e h k l m n =
    in_comment cs inner us more (glyph_tail (Char c) g (map Char cs ++ us) (inner ++ Char 13 ∷ more) e) (All-tail (λ c. c ≢ 10) c cs h) k (All-tail (λ g. g ≢ Char 10) g inner l)
    (λ front back f. m (c ∷ front) back (ap (λ t. c ∷ t) f)) n

-- at `#` stands a comment
pub comment_here : (vs gs : List Glyph) (ps : List Piece) → gs ≡ Char 35 ∷ vs → Front gs ps → (cs : List ℕ) × (us : List Glyph) × (gs ≡ Char 35 ∷ map Char cs ++ us) × Stands (Comment cs) us
comment_here vs gs ps e (front (Blank d) us rest f g s) = absurd (blank_no_comment d us s (code_is 35 d vs us gs e g))
  where
    blank_no_comment : (d : ℕ) (us : List Glyph) → Stands (Blank d) us → 35 ≡ d → ⊥
    blank_no_comment d us (inl s) e = omega arith
    blank_no_comment d us (inr (inl s)) e = omega arith
    blank_no_comment d us (inr (inr s)) e = omega (arith, s.0)
comment_here vs gs ps e (front LineFeed us rest f g s) = absurd (omega (arith, code_is 35 10 vs us gs e g))
comment_here vs gs ps e (front (Join end) us rest f g s) = absurd (omega (arith, code_is 35 92 vs (map Char end ++ us) gs e g))
comment_here vs gs ps e (front (Comment cs) us rest f g s) = (cs, us, g, s)
comment_here vs gs ps e (front (Tok kind text) us rest f g s) = absurd (no_gap kind text us vs 35 s.0 (sym g ∙ e) comment_gap)

lone_return : (gs : List Glyph) (ps : List Piece) (inner more : List Glyph) → gs ≡ Char 35 ∷ inner ++ Char 13 ∷ more → All (λ g. g ≢ Char 10) inner → (BeginsWith (10 ∷ []) more → ⊥) → Front gs ps → ⊥
lone_return gs ps inner more e h n first =
    let c = comment_here (inner ++ Char 13 ∷ more) gs ps e first in
    let s : Stands (Comment c.0) c.1 = c.3 in
    in_comment c.0 inner c.1 more (glyph_tail (Char 35) (Char 35) (map Char c.0 ++ c.1) (inner ++ Char 13 ∷ more) (sym c.2 ∙ e)) s.0 s.1 h s.2 n

pub stray_character : (before : List Piece) (gs ahead : List Glyph) (ps : List Piece) → Front gs ps → Breaks rules.StrayCharacter before gs ahead → ⊥
stray_character before gs ahead ps h (inl k) = stray gs ps k.1 h
stray_character before gs ahead ps h (inr k) =
    let inner = k.0.0 in
    let begun : gs ≡ Char 35 ∷ inner ++ Char 13 ∷ k.1.0 = k.1.1 ∙ ap (λ t. t ++ Char 13 ∷ k.1.0) k.0.1 in
    lone_return gs ps inner k.1.0 begun k.0.2 k.1.2 h

-- ---- numbers

tail_same : (text : List ℕ) (us vs gs : List Glyph) → gs ≡ map Char text ++ us → gs ≡ map Char text ++ vs → us ≡ vs
tail_same [] us vs gs e f = sym e ∙ f
tail_same (c ∷ text) us vs gs e f = tail_same text us vs (map Char text ++ us) refl (glyph_tail (Char c) (Char c) (map Char text ++ us) (map Char text ++ vs) (sym e ∙ f))

number_next : (text : List ℕ) (v : ℕ) (gs : List Glyph) (ps : List Piece) → IsNumber text v gs → Front gs ps → Next (kinds.Number (pos v)) text gs ps
number_next text v gs ps h k = token_next (kinds.Number (pos v)) text gs ps (v, h.1, refl) h.0 h.2 k

too_large : (text : List ℕ) (v : ℕ) (gs : List Glyph) (ps : List Piece) → WritesNumber text v → 2 ^ 63 ≤ v → Next (kinds.Number (pos v)) text gs ps → ⊥
too_large text v gs ps h big (next_piece more rest e f clear) = omega (arith, clear.0 v h)

pub integer_too_large : (before : List Piece) (gs ahead : List Glyph) (ps : List Piece) → Front gs ps → Breaks rules.IntegerTooLarge before gs ahead → ⊥
integer_too_large before gs ahead ps h k = too_large k.1.0 k.1.1 gs ps k.1.2.1 k.1.3 (number_next k.1.0 k.1.1 gs ps k.1.2 h)

goes_on : (text : List ℕ) (v : ℕ) (rest gs : List Glyph) (ps : List Piece) → gs ≡ map Char text ++ rest → BeginsBy GoesOn rest → Next (kinds.Number (pos v)) text gs ps → ⊥
goes_on text v rest gs ps e h (next_piece more behind f g clear) =
    let P : List Glyph → Type 0 = λ t. BeginsBy GoesOn t in
    clear.1 (subst P (tail_same text rest more gs e g) h)

pub bad_number : (before : List Piece) (gs ahead : List Glyph) (ps : List Piece) → Front gs ps → Breaks rules.BadNumber before gs ahead → ⊥
bad_number before gs ahead ps h k = goes_on k.1.0 k.1.1 k.1.2 gs ps k.1.4 k.1.5 (number_next k.1.0 k.1.1 gs ps k.1.3 h)

dotted : (text : List ℕ) (v : ℕ) (rest gs : List Glyph) (ps : List Piece) → gs ≡ map Char text ++ rest → WritesDecimal text v → BeginsWith (46 ∷ []) rest → Next (kinds.Number (pos v)) text gs ps → ⊥
dotted text v rest gs ps e h k (next_piece more behind f g clear) =
    let P : List Glyph → Type 0 = λ t. BeginsWith (46 ∷ []) t in
    clear.2 v h (subst P (tail_same text rest more gs e g) k)

exponent_letter : (e : ℕ) → (e ≡ 101) ⊎ (e ≡ 69) → GoesOn e
exponent_letter e (inl h) = let P : ℕ → Type 0 = GoesOn in subst P (sym h) (is_xid_continue-ascii 101 (lit≤ tt))
exponent_letter e (inr h) = let P : ℕ → Type 0 = GoesOn in subst P (sym h) (is_xid_continue-ascii 69 (lit≤ tt))

-- ---- a dot before a digit

-- a mark that begins with a dot goes on with one
abbrev goes_on_dotted : List ℕ → Bool
goes_on_dotted [] = true
goes_on_dotted (c ∷ []) = true
goes_on_dotted (c ∷ d ∷ cs) = not (c == 46) || (d == 46)

dotted_mark : (m : Mark) → goes_on_dotted (mark_text m) ≡ true
dotted_mark marks.Plus = refl
dotted_mark marks.Minus = refl
dotted_mark marks.Star = refl
dotted_mark marks.Slash = refl
dotted_mark marks.Percent = refl
dotted_mark marks.StarStar = refl
dotted_mark marks.Tilde = refl
dotted_mark marks.Ampersand = refl
dotted_mark marks.Bar = refl
dotted_mark marks.Caret = refl
dotted_mark marks.ShiftLeft = refl
dotted_mark marks.ShiftRight = refl
dotted_mark marks.EqualEqual = refl
dotted_mark marks.BangEqual = refl
dotted_mark marks.Less = refl
dotted_mark marks.Greater = refl
dotted_mark marks.LessEqual = refl
dotted_mark marks.GreaterEqual = refl
dotted_mark marks.AndAnd = refl
dotted_mark marks.OrOr = refl
dotted_mark marks.Bang = refl
dotted_mark marks.Equal = refl
dotted_mark marks.PlusEqual = refl
dotted_mark marks.MinusEqual = refl
dotted_mark marks.StarEqual = refl
dotted_mark marks.SlashEqual = refl
dotted_mark marks.PercentEqual = refl
dotted_mark marks.StarStarEqual = refl
dotted_mark marks.ShiftLeftEqual = refl
dotted_mark marks.ShiftRightEqual = refl
dotted_mark marks.AmpersandEqual = refl
dotted_mark marks.BarEqual = refl
dotted_mark marks.CaretEqual = refl
dotted_mark marks.Arrow = refl
dotted_mark marks.Dot = refl
dotted_mark marks.DotDot = refl
dotted_mark marks.Colon = refl
dotted_mark marks.Comma = refl
dotted_mark marks.Semicolon = refl
dotted_mark marks.LeftParen = refl
dotted_mark marks.RightParen = refl
dotted_mark marks.LeftBracket = refl
dotted_mark marks.RightBracket = refl
dotted_mark marks.LeftBrace = refl
dotted_mark marks.RightBrace = refl
dotted_mark marks.At = refl
dotted_mark marks.Dollar = refl

digit_dot : (d : ℕ) → IsDigit 10 d → d ≡ 46 → ⊥
digit_dot d h e = omega (arith, digit_from_value d h)

not_dotted : (d : ℕ) (cs : List ℕ) → IsDigit 10 d → goes_on_dotted (46 ∷ d ∷ cs) ≡ true → ⊥
not_dotted d cs h e = digit_dot d h (eqb-true d 46 e)

dot_text : (m : Mark) (text : List ℕ) (d : ℕ) (more rest : List Glyph) → IsDigit 10 d → text ≡ mark_text m → map Char text ++ more ≡ Char 46 ∷ Char d ∷ rest
    → IsClear (kinds.Mark m) text more → goes_on_dotted text ≡ true → text ≢ [] → ⊥
dot_text m [] d more rest h e f clear test some = some refl
dot_text m (c ∷ []) d more rest h e f clear test some =
    let parts = char_parts c 46 more (Char d ∷ rest) f in
    clear (ap (λ x. x ∷ []) parts.0) (d, h, (rest, parts.1))
dot_text m (c ∷ x ∷ cs) d more rest h e f clear test some =
    let first = char_parts c 46 (map Char (x ∷ cs) ++ more) (Char d ∷ rest) f in
    let second = char_parts x d (map Char cs ++ more) rest first.1 in
    let P : ℕ → Type 0 = λ y. goes_on_dotted (y ∷ x ∷ cs) ≡ true in
    let Q : ℕ → Type 0 = λ y. goes_on_dotted (46 ∷ y ∷ cs) ≡ true in
    not_dotted d cs h (subst Q second.0 (subst P first.0 test))

some_text : (kind : TokenKind) (text : List ℕ) → Writes kind text → text ≢ []
some_text kind text h e = let b = token_begins kind text h in not_empty b.0 b.1 (sym b.2 ∙ e)

dot_kind : (kind : TokenKind) (text : List ℕ) (d : ℕ) (more rest : List Glyph) → IsDigit 10 d → Writes kind text → IsClear kind text more
    → map Char text ++ more ≡ Char 46 ∷ Char d ∷ rest → ⊥
dot_kind (kinds.Word name) text d more rest h k clear e = let b = begins_at (kinds.Word name) text more (Char d ∷ rest) 46 k e in let c : BeginsName 46 b.0 = b.1 in omega arith
dot_kind (kinds.Keyword l) text d more rest h k clear e = let b = begins_at (kinds.Keyword l) text more (Char d ∷ rest) 46 k e in let c : BeginsName 46 b.0 = b.1 in omega arith
dot_kind (kinds.Number n) text d more rest h k clear e = let b = begins_at (kinds.Number n) text more (Char d ∷ rest) 46 k e in let c : IsInRange 48 57 46 = b.1 in omega arith
dot_kind (kinds.Quoted t) text d more rest h k clear e = let b = begins_at (kinds.Quoted t) text more (Char d ∷ rest) 46 k e in let c : BeginsString 46 b.0 = b.1 in omega arith
dot_kind (kinds.Mark m) text d more rest h k clear e = dot_text m text d more rest h k e clear (ap goes_on_dotted k ∙ dotted_mark m) (some_text (kinds.Mark m) text k)
dot_kind _ text d more rest h k clear e = absurd k

dot_digit : (d : ℕ) (rest gs : List Glyph) (ps : List Piece) → IsDigit 10 d → gs ≡ Char 46 ∷ Char d ∷ rest → TokenFront gs ps → ⊥
dot_digit d rest gs ps h e (token_front kind text more behind f g k longest clear) = dot_kind kind text d more rest h k clear (sym g ∙ e)

dot_no_gap : IsGap 46 → ⊥
dot_no_gap h = omega arith

-- ---- the names of floats

capital_goes_on : (c : ℕ) → IsInRange 65 90 c → GoesOn c
capital_goes_on c h = is_xid_continue-ascii c (omega arith) ∙ or_left (is_ascii_alphanumeric c) (c == 95) (or_left (is_in_range 48 57 c || is_in_range 65 90 c) (is_in_range 97 122 c) (or_right (is_in_range 48 57 c) (is_in_range 65 90 c) (and_from (nat_le 65 c) (nat_le c 90) (le-leb 65 c h.0) (le-leb c 90 h.1))))

pub capital_starts : (c : ℕ) → IsInRange 65 90 c → IsTrue (is_xid_start c || (c == 95))
capital_starts c h = or_left (is_xid_start c) (c == 95) (is_xid_start-ascii c (omega arith) ∙ or_left (is_in_range 65 90 c) (is_in_range 97 122 c) (and_from (nat_le 65 c) (nat_le c 90) (le-leb 65 c h.0) (le-leb c 90 h.1)))

pub no_keyword : (name : List ℕ) → two_letters name ≡ false → (k : Keyword) → name ≢ keyword_text k
no_keyword name h k e = true≢false (sym (keyword_letters k) ∙ ap two_letters (sym e) ∙ h)

two_capitals : (c d : ℕ) → IsInRange 65 90 c → IsInRange 65 90 d → IsName (c ∷ d ∷ [])
two_capitals c d h k = (capital_starts c h, All-cons GoesOn d [] (capital_goes_on d k) (All-nil GoesOn))

three_capitals : (c d e : ℕ) → IsInRange 65 90 c → IsInRange 65 90 d → IsInRange 65 90 e → IsName (c ∷ d ∷ e ∷ [])
three_capitals c d e h k l = (capital_starts c h, All-cons GoesOn d (e ∷ []) (capital_goes_on d k) (All-cons GoesOn e [] (capital_goes_on e l) (All-nil GoesOn)))

float_word : (name : List ℕ) → IsFloatName name → Writes (kinds.Word name) name
float_word name (inl e) = let P : List ℕ → Type 0 = λ t. Writes (kinds.Word t) t in subst P (sym e) (two_capitals 80 73 (omega arith) (omega arith), refl, no_keyword (codes "PI") refl)
float_word name (inr (inl e)) = let P : List ℕ → Type 0 = λ t. Writes (kinds.Word t) t in subst P (sym e) (three_capitals 84 65 85 (omega arith) (omega arith) (omega arith), refl, no_keyword (codes "TAU") refl)
float_word name (inr (inr (inl e))) = let P : List ℕ → Type 0 = λ t. Writes (kinds.Word t) t in subst P (sym e) (three_capitals 73 78 70 (omega arith) (omega arith) (omega arith), refl, no_keyword (codes "INF") refl)
float_word name (inr (inr (inr e))) = let P : List ℕ → Type 0 = λ t. Writes (kinds.Word t) t in subst P (sym e) (three_capitals 78 65 78 (omega arith) (omega arith) (omega arith), refl, no_keyword (codes "NAN") refl)

float_name : (name : List ℕ) (gs : List Glyph) (ps : List Piece) → IsFloatName name → Next (kinds.Word name) name gs ps → ⊥
float_name name gs ps h (next_piece more rest e f clear) = clear.0 h

pub float : (before : List Piece) (gs ahead : List Glyph) (ps : List Piece) → Front gs ps → Breaks rules.Float before gs ahead → ⊥
float before gs ahead ps h (e, inl k) = elim k.6 [
  | inl dot ↦ dotted k.0 k.1 k.2 gs ps k.5 k.4 dot (number_next k.0 k.1 gs ps k.3 h)
  | inr x ↦ goes_on k.0 k.1 k.2 gs ps k.5 (x.0, exponent_letter x.0 x.3, (map Char (x.1 ++ x.2 ∷ []) ++ x.6.0, x.6.1)) (number_next k.0 k.1 gs ps k.3 h)
]
float before gs ahead ps h (e, inr (inl k)) = dot_digit k.0 k.2.0 gs ps k.1 k.2.1 (token_front_of 46 (Char k.0 ∷ k.2.0) gs ps k.2.1 dot_no_gap h)
float before gs ahead ps h (e, inr (inr k)) = float_name k.0 gs ps k.1 (token_next (kinds.Word k.0) k.0 gs ps (float_word k.0 k.1) k.2 k.3 h)
