-- What stands where a piece stands next.
use Rattle.std.proofs.Common.{◌≡◌, ℕ, true, ◌==◌, ◌||◌, List, [], ◌∷◌, ◌++◌, length, map, refl, ap, sym, ◌∙◌, subst, inl, inr, arith, true≢false}
use Rattle.std.specs.Prelude.{◌⊎◌, IsTrue, nat_le}
use Rattle.std.specs.Char.{is_ascii_alphabetic}
use Rattle.std.specs.Int.{IsInRange, is_in_range}
use Rattle.std.proofs.lemmas.Bool.{cases_order, or_cases, or_left, or_right, eqb-true, cases_lt, and_from, and_parts, le-leb, eq-eqb}
use Rattle.std.proofs.lemmas.Str.{digit_value_digit}
use Rattle.std.proofs.lemmas.Str.Parse.{digit_from_value}
use Rattle.unicode_ident.specs.Ident.{is_xid_start}
use Rattle.unicode_ident.proofs.IdentLemmas.{is_xid_start-ascii}
use Rattle.gd_syntax.specs.declared.token.TokenKind.{TokenKind}
use Rattle.gd_syntax.specs.declared.token.TokenKind.TheVariants as kinds
use Rattle.gd_syntax.specs.declared.token.Mark.{Mark}
use Rattle.gd_lexis.specs.declared.glyph.Glyph.{Glyph}
use Rattle.gd_lexis.specs.declared.glyph.Glyph.TheVariants.{Char}
use Rattle.gd_lexis.specs.Words.{IsName, keyword_text, mark_text}
use Rattle.gd_lexis.specs.Numbers.{IsDigit}
use Rattle.gd_lexis.specs.Pieces.{Piece, Blank, LineFeed, Join, Comment, Tok, text_of, Writes, BeginsWith, IsLongest, IsClear, Stands, IsCut}
use Rattle.gd_lexis.specs.Faults.{BeginsToken}
use Rattle.gd_lexis.proofs.Lists.{cons_parts}
use Rattle.gd_lexis.proofs.Tokens.{Begins, BeginsMark, BeginsString, IsLetter, token_begins, next, name_letter, mark_from, mark_front, keyword_letters, two_letters, range_from}
use Rattle.gd_lexis.proofs.Cuts.{IsGap, char_parts, no_gap, blank_code, blank_gap, line_feed_gap, comment_gap, join_gap, glyph_not_empty, one_token}

-- the first piece of what is left
pub data Front (gs : List Glyph) (ps : List Piece) : Type 0 where
  front : (p : Piece) (more : List Glyph) (rest : List Piece) → ps ≡ p ∷ rest → gs ≡ text_of p ++ more → Stands p more → Front gs ps

pub front_of : (g : Glyph) (vs gs : List Glyph) (ps : List Piece) → gs ≡ g ∷ vs → IsCut gs ps [] → Front gs ps
front_of g vs gs [] e h = absurd (glyph_not_empty g vs (sym e ∙ h))
front_of g vs gs (p ∷ ps) e h = front p h.0 ps refl h.1 h.2

-- the first piece, where it is a token
pub data TokenFront (gs : List Glyph) (ps : List Piece) : Type 0 where
  token_front : (kind : TokenKind) (text : List ℕ) (more : List Glyph) (rest : List Piece) → ps ≡ Tok kind text ∷ rest → gs ≡ map Char text ++ more
      → Writes kind text → IsLongest text (map Char text ++ more) → IsClear kind text more → TokenFront gs ps

pub no_token : {P : Type 0} (c d : ℕ) (vs us gs : List Glyph) → gs ≡ Char c ∷ vs → gs ≡ Char d ∷ us → (IsGap c → ⊥) → IsGap d → P
no_token c d vs us gs e f none g = let same = (char_parts c d vs us (sym e ∙ f)).0 in let P : ℕ → Type 0 = IsGap in absurd (none (subst P (sym same) g))

pub token_front_of : (c : ℕ) (vs gs : List Glyph) (ps : List Piece) → gs ≡ Char c ∷ vs → (IsGap c → ⊥) → Front gs ps → TokenFront gs ps
token_front_of c vs gs ps e none (front (Blank d) more rest h k s) = no_token c d vs more gs e k none (blank_gap d (blank_code d more s))
token_front_of c vs gs ps e none (front LineFeed more rest h k s) = no_token c 10 vs more gs e k none line_feed_gap
token_front_of c vs gs ps e none (front (Join end) more rest h k s) = no_token c 92 vs (map Char end ++ more) gs e k none join_gap
token_front_of c vs gs ps e none (front (Comment cs) more rest h k s) = no_token c 35 vs (map Char cs ++ more) gs e k none comment_gap
token_front_of c vs gs ps e none (front (Tok kind text) more rest h k s) = token_front kind text more rest h k s.0 s.1 s.2

-- two tokens that are the longest at one place are one
same_token : (k l : TokenKind) (text other : List ℕ) (us vs gs : List Glyph) (ps : List Piece) → Writes k text → IsLongest text gs → gs ≡ map Char text ++ us
    → Writes l other → IsLongest other (map Char other ++ vs) → gs ≡ map Char other ++ vs → Tok k text ≡ Tok l other
same_token k l text other us vs gs ps h longest e i longest' f =
    let P : List Glyph → Type 0 = λ t. IsLongest text t in
    one_token k l text other us vs h i (subst P e longest) longest' (sym e ∙ f) (cases_order (length text) (length other))

parts_of_tok : (k l : TokenKind) (text other : List ℕ) → Tok k text ≡ Tok l other → (k ≡ l) × (text ≡ other)
parts_of_tok k l text other e = (cc, cc)

-- the longest token that a text with which the glyphs begin writes is the next piece
pub data Next (kind : TokenKind) (text : List ℕ) (gs : List Glyph) (ps : List Piece) : Type 0 where
  next_piece : (more : List Glyph) (rest : List Piece) → ps ≡ Tok kind text ∷ rest → gs ≡ map Char text ++ more → IsClear kind text more → Next kind text gs ps

next_from : (kind : TokenKind) (text : List ℕ) (us gs : List Glyph) (ps : List Piece) → Writes kind text → IsLongest text gs → gs ≡ map Char text ++ us → TokenFront gs ps → Next kind text gs ps
next_from kind text us gs ps h longest e (token_front l other more rest f g i longest' clear) =
    let same = same_token kind l text other us more gs ps h longest e i longest' g in
    let both = parts_of_tok kind l text other same in
    let P : TokenKind → Type 0 = λ k. IsClear k other more in
    let Q : List ℕ → Type 0 = λ t. IsClear kind t more in
    next_piece more rest (f ∙ ap (λ t. t ∷ rest) (sym same)) (g ∙ ap (λ t. map Char t ++ more) (sym both.1)) (subst Q (sym both.1) (subst P (sym both.0) clear))

pub token_next : (kind : TokenKind) (text : List ℕ) (gs : List Glyph) (ps : List Piece) → Writes kind text → BeginsWith text gs → IsLongest text gs → Front gs ps → Next kind text gs ps
token_next kind text gs ps h e longest b =
    let begins = token_begins kind text h in
    let head : gs ≡ Char begins.0 ∷ (map Char begins.1 ++ e.0) = e.1 ∙ ap (λ t. map Char t ++ e.0) begins.2 in
    let vs : List Glyph = map Char begins.1 ++ e.0 in
    next_from kind text e.0 gs ps h longest e.1 (token_front_of begins.0 vs gs ps head (λ g. no_gap kind text e.0 vs begins.0 h (sym e.1 ∙ head) g) b)

-- ---- the characters with which tokens begin

abbrev pub IsTokenCode : ℕ → Type 0
IsTokenCode c = IsLetter c ⊎ (((c ≡ 34) ⊎ (c ≡ 39)) ⊎ (IsInRange 48 57 c ⊎ BeginsMark c))

pub token_code_no_gap : (c : ℕ) → IsTokenCode c → IsGap c → ⊥
token_code_no_gap c (inl h) g = omega arith
token_code_no_gap c (inr (inl h)) g = omega arith
token_code_no_gap c (inr (inr (inl h))) g = omega arith
token_code_no_gap c (inr (inr (inr h))) g = omega arith

word_code : (c : ℕ) → IsTrue (((is_xid_start c || (c == 95)) || (c == 34)) || (c == 39)) → IsTokenCode c
word_code c h = elim (or_cases ((is_xid_start c || (c == 95)) || (c == 34)) (c == 39) h) [
  | inl a ↦ elim (or_cases (is_xid_start c || (c == 95)) (c == 34) a) [ inl b ↦ inl (name_letter c b (cases_lt c 128)) | inr b ↦ inr (inl (inl (eqb-true c 34 b))) ]
  | inr a ↦ inr (inl (inr (eqb-true c 39 a)))
]

mark_code : (m : Mark) (c : ℕ) (more : List ℕ) → mark_text m ≡ c ∷ more → BeginsMark c
mark_code m c more e =
    let b = mark_from (mark_text m) (mark_front m) in
    let P : ℕ → Type 0 = BeginsMark in
    subst P (cons_parts b.0 c b.1 more (sym b.2 ∙ e)).0 b.3

code_of : (c : ℕ) → IsTrue (((is_xid_start c || (c == 95)) || (c == 34)) || (c == 39)) ⊎ (IsDigit 10 c ⊎ ((m : Mark) × (more : List ℕ) × (mark_text m ≡ c ∷ more))) → IsTokenCode c
code_of c (inl h) = word_code c h
code_of c (inr (inl h)) = inr (inr (inl (digit_from_value c h)))
code_of c (inr (inr h)) = inr (inr (inr (mark_code h.0 c h.1 h.2)))

pub token_code : (gs : List Glyph) → BeginsToken gs → (c : ℕ) × (vs : List Glyph) × (gs ≡ Char c ∷ vs) × IsTokenCode c
token_code gs h = (h.0, h.2.0, h.2.1, code_of h.0 h.1)

-- ---- where a token stands, one begins

pub word_start : (c : ℕ) → IsTrue (is_xid_start c || (c == 95)) → IsTrue (((is_xid_start c || (c == 95)) || (c == 34)) || (c == 39))
word_start c h = or_left ((is_xid_start c || (c == 95)) || (c == 34)) (c == 39) (or_left (is_xid_start c || (c == 95)) (c == 34) h)

alphabetic : (c : ℕ) → IsInRange 97 122 c → is_ascii_alphabetic c ≡ true
alphabetic c h = or_right (is_in_range 65 90 c) (is_in_range 97 122 c) (and_from (nat_le 97 c) (nat_le c 122) (le-leb 97 c h.0) (le-leb c 122 h.1))

pub lower_start : (c : ℕ) → IsInRange 97 122 c → IsTrue (is_xid_start c || (c == 95))
lower_start c h = or_left (is_xid_start c) (c == 95) (is_xid_start-ascii c (omega arith) ∙ alphabetic c h)

named : (text : List ℕ) (more gs : List Glyph) → IsName text → gs ≡ map Char text ++ more → BeginsToken gs
named [] more gs h e = absurd h
named (c ∷ cs) more gs h e = (c, inl (word_start c h.0), (map Char cs ++ more, e))

lower_begins : (text : List ℕ) → two_letters text ≡ true → (c : ℕ) × (more : List ℕ) × (text ≡ c ∷ more) × IsInRange 97 122 c
lower_begins [] h = absurd (true≢false (sym h))
lower_begins (c ∷ []) h = absurd (true≢false (sym h))
lower_begins (c ∷ d ∷ cs) h = (c, d ∷ cs, refl, range_from 97 122 c (and_parts (is_in_range 97 122 c) (is_in_range 97 122 d) h).0)

quote_start : (c d : ℕ) → BeginsString c d → IsTrue (((is_xid_start c || (c == 95)) || (c == 34)) || (c == 39))
quote_start c d (inl (inl h)) = or_left ((is_xid_start c || (c == 95)) || (c == 34)) (c == 39) (or_right (is_xid_start c || (c == 95)) (c == 34) (eq-eqb c 34 h))
quote_start c d (inl (inr h)) = or_right ((is_xid_start c || (c == 95)) || (c == 34)) (c == 39) (eq-eqb c 39 h)
quote_start c d (inr h) = word_start c (lower_start c (omega arith))

pub begins_token : (kind : TokenKind) (text : List ℕ) (more gs : List Glyph) → Writes kind text → gs ≡ map Char text ++ more → BeginsToken gs
begins_token (kinds.Word name) text more gs h e = named text more gs h.0 e
begins_token (kinds.Keyword k) text more gs h e =
    let b = lower_begins (keyword_text k) (keyword_letters k) in
    (b.0, inl (word_start b.0 (lower_start b.0 b.3)), (map Char b.1 ++ more, e ∙ ap (λ t. map Char t ++ more) (h ∙ b.2)))
begins_token (kinds.Number n) text more gs h e =
    let b = token_begins (kinds.Number n) text h in
    let range : IsInRange 48 57 b.0 = b.3 in
    (b.0, inr (inl (omega (arith, digit_value_digit b.0 range))), (map Char b.1 ++ more, e ∙ ap (λ t. map Char t ++ more) b.2))
begins_token (kinds.Quoted t) text more gs h e =
    let b = token_begins (kinds.Quoted t) text h in
    (b.0, inl (quote_start b.0 (next b.1) b.3), (map Char b.1 ++ more, e ∙ ap (λ t. map Char t ++ more) b.2))
begins_token (kinds.Mark m) text more gs h e =
    let b = token_begins (kinds.Mark m) text h in
    (b.0, inr (inr (m, b.1, sym h ∙ b.2)), (map Char b.1 ++ more, e ∙ ap (λ t. map Char t ++ more) b.2))
begins_token _ text more gs h e = absurd h

-- the first character of what is left begins the token there
pub begins_at : (kind : TokenKind) (text : List ℕ) (us vs : List Glyph) (c : ℕ) → Writes kind text → map Char text ++ us ≡ Char c ∷ vs → (d : ℕ) × Begins kind c d
begins_at kind text us vs c h e =
    let b = token_begins kind text h in
    let heads = char_parts b.0 c (map Char b.1 ++ us) vs (ap (λ t. map Char t ++ us) (sym b.2) ∙ e) in
    let P : ℕ → Type 0 = λ x. Begins kind x (next b.1) in
    (next b.1, subst P heads.0 b.3)
