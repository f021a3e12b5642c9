-- Where no token begins, and no other piece either, a character is stray.
use Rattle.std.proofs.Common.{◌≡◌, ◌≢◌, ℕ, ◌+◌, ◌≤◌, Bool, true, false, cond, List, [], ◌∷◌, ◌++◌, map, drop, slice_get, refl, ap, sym, ◌∙◌, subst, inl, inr, arith, true≢false}
use Rattle.std.specs.Prelude.{Option, Some, None, IsTrue, ◌||◌, ◌&&◌, ◌==◌, ◌⊎◌}
use Rattle.std.specs.Int.{IsInRange}
use Rattle.std.specs.Char.{is_ascii_digit}
use Rattle.std.proofs.lemmas.Bool.{or_cases, eq-eqb, or_parts, and_from, le-leb}
use Rattle.std.proofs.lemmas.Str.Parse.{digit_from_value}
use Rattle.unicode_ident.specs.Ident.{is_xid_start}
use Rattle.gd_syntax.specs.declared.token.Mark.{Mark}
use Rattle.gd_syntax.specs.declared.token.Mark.TheVariants as marks
use Rattle.gd_lexis.specs.declared.glyph.Glyph.{Glyph}
use Rattle.gd_lexis.specs.declared.glyph.Glyph.TheVariants.{Char, Bad}
use Rattle.gd_lexis.specs.Words.{mark_text}
use Rattle.gd_lexis.specs.Numbers.{IsDigit}
use Rattle.gd_lexis.specs.Pieces.{BeginsWith}
use Rattle.gd_lexis.specs.Faults.{BeginsToken, IsStray}
use Rattle.gd_lexis.proofs.Cuts.{IsGap, char_parts, join_gap}
use Rattle.gd_lexis.proofs.Least.{token_next, same_code}
use Rattle.gd_lexer.specs.declared.lexer.Start.{Start}
use Rattle.gd_lexer.specs.declared.lexer.Start.TheVariants as starts
use Rattle.gd_lexer.specs.Cursor.{sees}
use Rattle.gd_lexer.specs.Mark.{mark_at, single}
use Rattle.gd_lexer.specs.Start.{start_by, opens_string, is_digit, marked}
use Rattle.gd_syntax.specs.declared.token.TokenKind.TheVariants as kinds
use Rattle.gd_lexis.proofs.Heads.{word_start, begins_token}
use Rattle.gd_lexis.proofs.Sites.{quote_start}
use Rattle.gd_lexer.specs.Start.{start_at, behind_mark}
use Rattle.gd_lexer.proofs.MarkMeets.{head_seen, mark_read}
use Rattle.gd_lexer.proofs.NumberMeets.{digit_here}
use Rattle.gd_lexer.proofs.StartsLemmas.{number_here, name_here, float_here}
use Rattle.gd_lexer.proofs.StringToken.{string_here, opens_first}

-- ---- a mark is seen by its first character

abbrev head : List ℕ → ℕ
head [] = 0
head (c ∷ cs) = c

abbrev Sees : ℕ → List Glyph → Type 0
Sees c gs = (r : Mark × ℕ) × (mark_at c gs ≡ Some r)

dot_seen : (b : Bool) (gs : List Glyph) → (r : Mark × ℕ) × (cond b (Some (marks.DotDot, 2)) (single 46) ≡ Some r)
dot_seen true gs = ((marks.DotDot, 2), refl)
dot_seen false gs = ((marks.Dot, 1), refl)

mark_seen : (m : Mark) (gs : List Glyph) → Sees (head (mark_text m)) gs
unfolding mark_at
mark_seen marks.Plus gs = (_, refl)
mark_seen marks.Minus gs = (_, refl)
mark_seen marks.Star gs = (_, refl)
mark_seen marks.Slash gs = (_, refl)
mark_seen marks.Percent gs = (_, refl)
mark_seen marks.StarStar gs = (_, refl)
mark_seen marks.Tilde gs = (_, refl)
mark_seen marks.Ampersand gs = (_, refl)
mark_seen marks.Bar gs = (_, refl)
mark_seen marks.Caret gs = (_, refl)
mark_seen marks.ShiftLeft gs = (_, refl)
mark_seen marks.ShiftRight gs = (_, refl)
mark_seen marks.EqualEqual gs = (_, refl)
mark_seen marks.BangEqual gs = (_, refl)
mark_seen marks.Less gs = (_, refl)
mark_seen marks.Greater gs = (_, refl)
mark_seen marks.LessEqual gs = (_, refl)
mark_seen marks.GreaterEqual gs = (_, refl)
mark_seen marks.AndAnd gs = (_, refl)
mark_seen marks.OrOr gs = (_, refl)
mark_seen marks.Bang gs = (_, refl)
mark_seen marks.Equal gs = (_, refl)
mark_seen marks.PlusEqual gs = (_, refl)
mark_seen marks.MinusEqual gs = (_, refl)
mark_seen marks.StarEqual gs = (_, refl)
mark_seen marks.SlashEqual gs = (_, refl)
mark_seen marks.PercentEqual gs = (_, refl)
mark_seen marks.StarStarEqual gs = (_, refl)
mark_seen marks.ShiftLeftEqual gs = (_, refl)
mark_seen marks.ShiftRightEqual gs = (_, refl)
mark_seen marks.AmpersandEqual gs = (_, refl)
mark_seen marks.BarEqual gs = (_, refl)
mark_seen marks.CaretEqual gs = (_, refl)
mark_seen marks.Arrow gs = (_, refl)
mark_seen marks.Dot gs = dot_seen (sees 46 gs 1) gs
mark_seen marks.DotDot gs = dot_seen (sees 46 gs 1) gs
mark_seen marks.Colon gs = (_, refl)
mark_seen marks.Comma gs = (_, refl)
mark_seen marks.Semicolon gs = (_, refl)
mark_seen marks.LeftParen gs = (_, refl)
mark_seen marks.RightParen gs = (_, refl)
mark_seen marks.LeftBracket gs = (_, refl)
mark_seen marks.RightBracket gs = (_, refl)
mark_seen marks.LeftBrace gs = (_, refl)
mark_seen marks.RightBrace gs = (_, refl)
mark_seen marks.At gs = (_, refl)
mark_seen marks.Dollar gs = (_, refl)

-- ---- no token begins

some_none : {A : Type 0} (x : A) → Some x ≡ None → ⊥
some_none x e = cc

-- what holds of a choice where nothing was chosen
none_of : (b : Bool) (s : Start) (o : Option Start) → cond b (Some s) o ≡ None → (b ≡ false) × (o ≡ None)
none_of true s o e = absurd (some_none s e)
none_of false s o e = (refl, e)

unmarked : (o : Option (Mark × ℕ)) → marked o ≡ None → o ≡ None
unmarked None e = refl
unmarked (Some m) e = absurd (some_none (starts.Mark m.0 m.1) e)

-- the tests that failed
record NoStart (c : ℕ) (gs : List Glyph) : Type 0 where
  digit : is_ascii_digit c ≡ false
  quote : opens_string c gs ≡ false
  name : (is_xid_start c || c == 95) ≡ false
  mark : mark_at c gs ≡ None

no_start : (c : ℕ) (gs : List Glyph) → start_by c gs ≡ None → NoStart c gs
no_start c gs e =
    let a = none_of (is_ascii_digit c) starts.Number _ e in
    let b = none_of (opens_string c gs) starts.Quoted _ a.1 in
    let d = none_of (is_xid_start c || c == 95) (starts.Name c) _ b.1 in
    let f = none_of (c == 46 && is_digit (slice_get gs 1)) starts.Float _ d.1 in
    record { digit = a.0; quote = b.0; name = d.0; mark = unmarked (mark_at c gs) f.1 }

is_false : (b : Bool) → b ≡ true → b ≡ false → ⊥
is_false b e f = true≢false (sym e ∙ f)

digit_code : (c : ℕ) → IsInRange 48 57 c → is_ascii_digit c ≡ true
digit_code c h = and_from _ _ (le-leb 48 c h.0) (le-leb c 57 h.1)

quotes_none : (c : ℕ) (gs : List Glyph) → opens_string c gs ≡ false → ((c == 34) ≡ false) × ((c == 39) ≡ false)
quotes_none c gs e =
    let a = or_parts (c == 34 || c == 39) (c == 114 && (sees 34 gs 1 || sees 39 gs 1)) e in
    let b = or_parts (c == 34) (c == 39) a.0 in
    (b.0, b.1)

begins_none : (c : ℕ) (gs : List Glyph) → NoStart c gs → (IsTrue (((is_xid_start c || (c == 95)) || (c == 34)) || (c == 39)) ⊎ (IsDigit 10 c ⊎ ((m : Mark) × (more : List ℕ) × (mark_text m ≡ c ∷ more)))) → ⊥
begins_none c gs n (inl h) =
    let quotes = quotes_none c gs n.quote in
    elim (or_cases ((is_xid_start c || (c == 95)) || (c == 34)) (c == 39) h) [
      | inl a ↦ elim (or_cases (is_xid_start c || (c == 95)) (c == 34) a) [ inl b ↦ is_false (is_xid_start c || (c == 95)) b n.name | inr b ↦ is_false (c == 34) b quotes.0 ]
      | inr a ↦ is_false (c == 39) a quotes.1
    ]
begins_none c gs n (inr (inl h)) = is_false (is_ascii_digit c) (digit_code c (digit_from_value c h)) n.digit
begins_none c gs n (inr (inr h)) =
    let seen = mark_seen h.0 gs in
    let same : head (mark_text h.0) ≡ c = ap head h.2 in
    let P : ℕ → Type 0 = λ x. mark_at x gs ≡ Some seen.0 in
    some_none seen.0 (sym (subst P same seen.1) ∙ n.mark)

no_token : (c : ℕ) (gs hs : List Glyph) → gs ≡ Char c ∷ hs → start_by c gs ≡ None → BeginsToken gs → ⊥
no_token c gs hs e none t =
    let same : t.0 ≡ c = sym (char_parts c t.0 hs t.2.0 (sym e ∙ t.2.1)).0 in
    let P : ℕ → Type 0 = λ x. IsTrue (((is_xid_start x || (x == 95)) || (x == 34)) || (x == 39)) ⊎ (IsDigit 10 x ⊎ ((m : Mark) × (more : List ℕ) × (mark_text m ≡ x ∷ more))) in
    begins_none c gs (no_start c gs none) (subst P same t.1)

-- ---- a stray character

not_two : (c d x : ℕ) (gs : List Glyph) → Some (Char c) ≡ slice_get gs 0 → sees x gs 1 ≡ false → BeginsWith (d ∷ x ∷ []) gs → ⊥
not_two c d x gs e f b =
    let P : List Glyph → Type 0 = λ t. sees x t 1 ≡ false in
    is_false (x == x) (eq-eqb x x refl) (subst P b.1 f)

head_not : (c d : ℕ) (more : List ℕ) (gs : List Glyph) → Some (Char c) ≡ slice_get gs 0 → c ≢ d → BeginsWith (d ∷ more) gs → ⊥
head_not c d more gs e n b =
    let shown : gs ≡ Char c ∷ drop 1 gs = head_seen gs (Char c) (sym e) in
    n (char_parts c d (drop 1 gs) (map Char more ++ b.0) (sym shown ∙ b.1)).0

-- where a character begins no token, and is no other piece
pub other_strays : (c : ℕ) (gs : List Glyph) → Some (Char c) ≡ slice_get gs 0 → start_by c gs ≡ None → (c ≢ 32) × (c ≢ 9) × (c ≢ 10) × (c ≢ 35) × (c ≢ 92) → (c ≡ 13 → sees 10 gs 1 ≡ false) → IsStray gs
other_strays c gs e none n lone =
    let shown : gs ≡ Char c ∷ drop 1 gs = head_seen gs (Char c) (sym e) in (
      c,
      (drop 1 gs, shown),
      no_token c gs (drop 1 gs) shown none,
      n.0,
      n.1,
      n.2,
      n.3,
      (λ b. let same : c ≡ 13 = (char_parts c 13 (drop 1 gs) (Char 10 ∷ b.0) (sym shown ∙ b.1)).0 in not_two c 13 10 gs e (lone same) b),
      head_not c 92 (10 ∷ []) gs e n.4,
      head_not c 92 (13 ∷ 10 ∷ []) gs e n.4,
    )

no_slash_token : (gs hs : List Glyph) → gs ≡ Char 92 ∷ hs → BeginsToken gs → ⊥
no_slash_token gs hs e t =
    let code = token_next gs t in
    let P : ℕ → Type 0 = IsGap in
    code.2 (subst P (same_code 92 code.0 gs (hs, e) code.1) join_gap)

-- a backslash that joins no lines
pub slash_strays : (gs : List Glyph) → Some (Char 92) ≡ slice_get gs 0 → sees 10 gs 1 ≡ false → (sees 13 gs 1 && sees 10 gs 2) ≡ false → IsStray gs
slash_strays gs e feed return_feed =
    let shown : gs ≡ Char 92 ∷ drop 1 gs = head_seen gs (Char 92) (sym e) in (
      92,
      (drop 1 gs, shown),
      no_slash_token gs (drop 1 gs) shown,
      differs 32 (omega arith),
      differs 9 (omega arith),
      differs 10 (omega arith),
      differs 35 (omega arith),
      head_not 92 13 (10 ∷ []) gs e (differs 13 (omega arith)),
      not_two 92 92 10 gs e feed,
      (λ b. let P : List Glyph → Type 0 = λ t. (sees 13 t 1 && sees 10 t 2) ≡ false in true≢false (subst P b.1 return_feed)),
    )
  where
    differs : (x : ℕ) → x + 1 ≤ 91 → 92 ≢ x
    differs x h k = omega arith

pub bad_strays : (b : ℕ) (gs : List Glyph) → Some (Bad b) ≡ slice_get gs 0 → (c : ℕ) × (more : List Glyph) × (gs ≡ Bad c ∷ more)
bad_strays b gs e = (b, drop 1 gs, head_seen gs (Bad b) (sym e))

-- ---- where a token begins

pub token_starts : (gs : List Glyph) (s : Start) → Some s ≡ start_at gs → BeginsToken gs
token_starts gs (starts.Name c) e =
    let here = name_here gs c e in
    (c, inl (word_start c here.name), (drop 1 gs, here.head))
token_starts gs starts.Number e =
    let d = digit_here (slice_get gs 0) (number_here gs e) in
    (d.0, inr (inl d.1.1), (drop 1 gs, head_seen gs (Char d.0) d.1.0))
token_starts gs starts.Quoted e =
    let here = string_here gs e in
    (here.c, inl (quote_start here.c (opens_first here.c gs here.opens)), (drop 1 gs, here.head))
token_starts gs (starts.Mark m n) e = let is = mark_read m n gs (behind_mark n gs) e refl in begins_token (kinds.Mark m) is.0 (behind_mark n gs) gs is.2.0 is.1
token_starts gs starts.Float e = let here = float_here gs e in (46, inr (inr (marks.Dot, [], refl)), (Char here.d ∷ drop 2 gs, here.whole))
