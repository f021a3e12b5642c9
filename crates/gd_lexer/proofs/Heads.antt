-- With which characters tokens begin.
use Rattle.std.proofs.Common.{◌≡◌, ℕ, ◌<◌, ◌≤◌, Bool, true, false, List, [], ◌∷◌, ◌++◌, length, slice_index, map, refl, ap, ◌∙◌, arith, subst, inl, inr, append_assoc}
use Rattle.std.proofs.lemmas.Bool.Decides.{nat_tests}
use Rattle.std.proofs.lemmas.Bool.{and_parts}
use Rattle.std.proofs.lemmas.List.Sums.{AllPass-from_list_all}
use Rattle.std.specs.Prelude.{◌||◌, ◌&&◌, ◌==◌, ◌⊎◌, IsTrue, All, not, replicate}
use Rattle.std.specs.List.{list_all}
use Rattle.std.specs.Char.{is_ascii_digit, digit_value}
use Rattle.unicode_ident.specs.Ident.{is_xid_start, is_xid_continue}
use Rattle.unicode_ident.proofs.Computing.{unicode_ident}
use Rattle.gd_syntax.specs.declared.token.TokenKind.{TokenKind}
use Rattle.gd_syntax.specs.declared.token.TokenKind.TheVariants as kinds
use Rattle.gd_syntax.specs.declared.token.Keyword.{Keyword}
use Rattle.gd_syntax.specs.declared.token.Keyword.TheVariants as keywords
use Rattle.gd_syntax.specs.declared.token.Mark.{Mark}
use Rattle.gd_syntax.specs.declared.token.Mark.TheVariants as marks
use Rattle.gd_lexis.specs.declared.glyph.Glyph.{Glyph}
use Rattle.gd_lexis.specs.declared.glyph.Glyph.TheVariants.{Char}
use Rattle.gd_lexis.specs.Words.{IsName, GoesOn, keyword_text, mark_text}
use Rattle.gd_lexis.specs.Numbers.{WritesNumber, AreDigits}
use Rattle.gd_lexis.specs.Strings.{WritesString, Quote, IsQuote, opening, closing}
use Rattle.gd_lexis.specs.Pieces.{Writes, BeginsWith}
use Rattle.gd_lexer.specs.Start.{opens_string}

abbrev pub begins_name : ℕ → Bool
begins_name c = is_xid_start c || c == 95

-- the text is a name
abbrev pub is_name : List ℕ → Bool
is_name [] = false
is_name (c ∷ cs) = begins_name c && list_all is_xid_continue cs

pub truth : (b : Bool) → b ≡ true → IsTrue b
truth b e = e

pub untruth : (b : Bool) → IsTrue b → b ≡ true
untruth b e = e

goes_on_all : (cs : List ℕ) → list_all is_xid_continue cs ≡ true → All GoesOn cs
goes_on_all cs e = λ k d l. truth _ (AllPass-from_list_all is_xid_continue cs e k d l)

pub IsName-from : (cs : List ℕ) → is_name cs ≡ true → IsName cs
IsName-from [] e = cc
IsName-from (c ∷ cs) e = let p = and_parts (begins_name c) (list_all is_xid_continue cs) e in (truth _ p.0, goes_on_all cs p.1)

keyword_names : (k : Keyword) → is_name (keyword_text k) ≡ true
unfolding unicode_ident
keyword_names keywords.If = refl
keyword_names keywords.Elif = refl
keyword_names keywords.Else = refl
keyword_names keywords.For = refl
keyword_names keywords.While = refl
keyword_names keywords.Match = refl
keyword_names keywords.When = refl
keyword_names keywords.Break = refl
keyword_names keywords.Continue = refl
keyword_names keywords.Pass = refl
keyword_names keywords.Return = refl
keyword_names keywords.Class = refl
keyword_names keywords.ClassName = refl
keyword_names keywords.Extends = refl
keyword_names keywords.Is = refl
keyword_names keywords.In = refl
keyword_names keywords.As = refl
keyword_names keywords.SelfValue = refl
keyword_names keywords.Super = refl
keyword_names keywords.Signal = refl
keyword_names keywords.Func = refl
keyword_names keywords.Static = refl
keyword_names keywords.Const = refl
keyword_names keywords.Enum = refl
keyword_names keywords.Var = refl
keyword_names keywords.Breakpoint = refl
keyword_names keywords.Preload = refl
keyword_names keywords.Await = refl
keyword_names keywords.Yield = refl
keyword_names keywords.Assert = refl
keyword_names keywords.Void = refl
keyword_names keywords.And = refl
keyword_names keywords.Or = refl
keyword_names keywords.Not = refl
keyword_names keywords.True = refl
keyword_names keywords.False = refl
keyword_names keywords.Null = refl

pub keyword_IsName : (k : Keyword) → IsName (keyword_text k)
keyword_IsName k = IsName-from (keyword_text k) (keyword_names k)

-- a character that begins no name, number or string
abbrev pub is_plain : ℕ → Bool
is_plain c = not (begins_name c) && not (is_ascii_digit c) && not (c == 34 || c == 39)

mark_heads : (m : Mark) → is_plain (slice_index (mark_text m) 0) ≡ true
unfolding unicode_ident
mark_heads marks.Plus = refl
mark_heads marks.Minus = refl
mark_heads marks.Star = refl
mark_heads marks.Slash = refl
mark_heads marks.Percent = refl
mark_heads marks.StarStar = refl
mark_heads marks.Tilde = refl
mark_heads marks.Ampersand = refl
mark_heads marks.Bar = refl
mark_heads marks.Caret = refl
mark_heads marks.ShiftLeft = refl
mark_heads marks.ShiftRight = refl
mark_heads marks.EqualEqual = refl
mark_heads marks.BangEqual = refl
mark_heads marks.Less = refl
mark_heads marks.Greater = refl
mark_heads marks.LessEqual = refl
mark_heads marks.GreaterEqual = refl
mark_heads marks.AndAnd = refl
mark_heads marks.OrOr = refl
mark_heads marks.Bang = refl
mark_heads marks.Equal = refl
mark_heads marks.PlusEqual = refl
mark_heads marks.MinusEqual = refl
mark_heads marks.StarEqual = refl
mark_heads marks.SlashEqual = refl
mark_heads marks.PercentEqual = refl
mark_heads marks.StarStarEqual = refl
mark_heads marks.ShiftLeftEqual = refl
mark_heads marks.ShiftRightEqual = refl
mark_heads marks.AmpersandEqual = refl
mark_heads marks.BarEqual = refl
mark_heads marks.CaretEqual = refl
mark_heads marks.Arrow = refl
mark_heads marks.Dot = refl
mark_heads marks.DotDot = refl
mark_heads marks.Colon = refl
mark_heads marks.Comma = refl
mark_heads marks.Semicolon = refl
mark_heads marks.LeftParen = refl
mark_heads marks.RightParen = refl
mark_heads marks.LeftBracket = refl
mark_heads marks.RightBracket = refl
mark_heads marks.LeftBrace = refl
mark_heads marks.RightBrace = refl
mark_heads marks.At = refl
mark_heads marks.Dollar = refl

pub mark_not_empty : (m : Mark) → 1 ≤ length (mark_text m)
mark_not_empty marks.Plus = omega arith
mark_not_empty marks.Minus = omega arith
mark_not_empty marks.Star = omega arith
mark_not_empty marks.Slash = omega arith
mark_not_empty marks.Percent = omega arith
mark_not_empty marks.StarStar = omega arith
mark_not_empty marks.Tilde = omega arith
mark_not_empty marks.Ampersand = omega arith
mark_not_empty marks.Bar = omega arith
mark_not_empty marks.Caret = omega arith
mark_not_empty marks.ShiftLeft = omega arith
mark_not_empty marks.ShiftRight = omega arith
mark_not_empty marks.EqualEqual = omega arith
mark_not_empty marks.BangEqual = omega arith
mark_not_empty marks.Less = omega arith
mark_not_empty marks.Greater = omega arith
mark_not_empty marks.LessEqual = omega arith
mark_not_empty marks.GreaterEqual = omega arith
mark_not_empty marks.AndAnd = omega arith
mark_not_empty marks.OrOr = omega arith
mark_not_empty marks.Bang = omega arith
mark_not_empty marks.Equal = omega arith
mark_not_empty marks.PlusEqual = omega arith
mark_not_empty marks.MinusEqual = omega arith
mark_not_empty marks.StarEqual = omega arith
mark_not_empty marks.SlashEqual = omega arith
mark_not_empty marks.PercentEqual = omega arith
mark_not_empty marks.StarStarEqual = omega arith
mark_not_empty marks.ShiftLeftEqual = omega arith
mark_not_empty marks.ShiftRightEqual = omega arith
mark_not_empty marks.AmpersandEqual = omega arith
mark_not_empty marks.BarEqual = omega arith
mark_not_empty marks.CaretEqual = omega arith
mark_not_empty marks.Arrow = omega arith
mark_not_empty marks.Dot = omega arith
mark_not_empty marks.DotDot = omega arith
mark_not_empty marks.Colon = omega arith
mark_not_empty marks.Comma = omega arith
mark_not_empty marks.Semicolon = omega arith
mark_not_empty marks.LeftParen = omega arith
mark_not_empty marks.RightParen = omega arith
mark_not_empty marks.LeftBracket = omega arith
mark_not_empty marks.RightBracket = omega arith
mark_not_empty marks.LeftBrace = omega arith
mark_not_empty marks.RightBrace = omega arith
mark_not_empty marks.At = omega arith
mark_not_empty marks.Dollar = omega arith

-- ---- the head of a text

abbrev pub HeadIs : TokenKind → ℕ → List Glyph → Type 0
HeadIs (kinds.Word n) c gs = begins_name c ≡ true
HeadIs (kinds.Keyword k) c gs = begins_name c ≡ true
HeadIs (kinds.Number n) c gs = is_ascii_digit c ≡ true
HeadIs (kinds.Quoted t) c gs = opens_string c gs ≡ true
HeadIs (kinds.Mark m) c gs = is_plain c ≡ true
HeadIs _ c gs = ⊥

same_head : (a c : ℕ) (text : List ℕ) (rest gs : List Glyph) → Char c ∷ gs ≡ map Char (a ∷ text) ++ rest → a ≡ c
same_head a c text rest gs e = cc

name_head : (text : List ℕ) (c : ℕ) (gs : List Glyph) → BeginsWith text (Char c ∷ gs) → IsName text → begins_name c ≡ true
name_head [] c gs b h = absurd h
name_head (a ∷ text) c gs b h = rw (← same_head a c text b.0 gs b.1) (untruth _ h.0)

plain_from : (text : List ℕ) (c : ℕ) (gs : List Glyph) → BeginsWith text (Char c ∷ gs) → 1 ≤ length text → is_plain (slice_index text 0) ≡ true → is_plain c ≡ true
plain_from [] c gs b l h = absurd (omega arith)
plain_from (a ∷ text) c gs b l h = rw (← same_head a c text b.0 gs b.1) h

pub digit_from : (c : ℕ) → digit_value c < 10 → is_ascii_digit c ≡ true
digit_from c h = grind (arith, nat_tests)

digits_head : (text : List ℕ) (c : ℕ) (gs : List Glyph) (ds : List ℕ) → BeginsWith text (Char c ∷ gs) → AreDigits 10 text ds → is_ascii_digit c ≡ true
digits_head [] c gs ds b h = absurd h
digits_head (a ∷ []) c gs ds b h = rw (← same_head a c [] b.0 gs b.1) (digit_from a h.0)
digits_head (a ∷ d ∷ []) c gs ds b h = rw (← same_head a c (d ∷ []) b.0 gs b.1) (digit_from a h.0)
digits_head (a ∷ d ∷ e ∷ more) c gs ds b h = rw (← same_head a c (d ∷ e ∷ more) b.0 gs b.1) (digit_from a h.0)

zero_head : (text cs : List ℕ) (x c : ℕ) (gs : List Glyph) → text ≡ 48 ∷ x ∷ cs → BeginsWith text (Char c ∷ gs) → is_ascii_digit c ≡ true
zero_head [] cs x c gs e b = cc
zero_head (a ∷ text) cs x c gs e b = let first : a ≡ 48 = cc in let same = same_head a c text b.0 gs b.1 in rw (← same, first) refl

number_head : (text : List ℕ) (v c : ℕ) (gs : List Glyph) → BeginsWith text (Char c ∷ gs) → WritesNumber text v → is_ascii_digit c ≡ true
number_head text v c gs b (inl h) = let P : List ℕ → Type 0 = λ t. BeginsWith t (Char c ∷ gs) in digits_head h.0 c gs h.1 (subst P h.2 b) h.3
number_head text v c gs b (inr (inl h)) = zero_head text h.0 120 c gs h.2 b
number_head text v c gs b (inr (inr h)) = zero_head text h.0 98 c gs h.2 b

is_mark : (m : ℕ) → (m ≡ 34) ⊎ (m ≡ 39) → (m == 34 || m == 39) ≡ true
is_mark m (inl e) = rw e refl
is_mark m (inr e) = rw e refl

raw_head : (m c : ℕ) (tail : List ℕ) (gs rest : List Glyph) → (m == 34 || m == 39) ≡ true → Char c ∷ gs ≡ map Char (114 ∷ m ∷ tail) ++ rest
    → opens_string c (Char c ∷ gs) ≡ true
raw_head m c tail gs rest h e =
    let first : c ≡ 114 = cc in let second : gs ≡ Char m ∷ (map Char tail ++ rest) = cc in rw (first, second) h

quote_head : (m c : ℕ) (tail : List ℕ) (gs rest : List Glyph) → (m == 34 || m == 39) ≡ true → Char c ∷ gs ≡ map Char (m ∷ tail) ++ rest → opens_string c (Char c ∷ gs) ≡ true
quote_head m c tail gs rest h e = let first : c ≡ m = cc in rw (first, h) refl

pub closing_cons : (q : Quote) → IsQuote q → (more : List ℕ) × (closing q ≡ q.mark ∷ more)
closing_cons q h = by_count h.1
  where
    by_count : (q.count ≡ 1) ⊎ (q.count ≡ 3) → (more : List ℕ) × (closing q ≡ q.mark ∷ more)
    by_count (inl e) = ([], ap (λ n. replicate n q.mark) e)
    by_count (inr e) = (q.mark ∷ q.mark ∷ [], ap (λ n. replicate n q.mark) e)

pub opening_raw : (q : Quote) → q.is_raw ≡ true → opening q ≡ 114 ∷ closing q
opening_raw q e = rw e refl

pub opening_plain : (q : Quote) → q.is_raw ≡ false → opening q ≡ closing q
opening_plain q e = rw e refl

string_head : (text t : List ℕ) (c : ℕ) (gs : List Glyph) → BeginsWith text (Char c ∷ gs) → WritesString text t → opens_string c (Char c ∷ gs) ≡ true
string_head text t c gs b h = by_raw h.0.is_raw refl
  where
    shut : (more : List ℕ) × (closing h.0 ≡ h.0.mark ∷ more)
    shut = closing_cons h.0 h.2

    by_raw : (raw : Bool) → h.0.is_raw ≡ raw → opens_string c (Char c ∷ gs) ≡ true
    by_raw true e =
        let whole : text ≡ 114 ∷ h.0.mark ∷ (shut.0 ++ (h.1 ++ closing h.0)) = h.3 ∙ append_assoc (opening h.0) h.1 (closing h.0) ∙ ap (λ o. o ++ (h.1 ++ closing h.0)) (opening_raw h.0 e ∙ ap (λ o. 114 ∷ o) shut.1) in
        raw_head h.0.mark c (shut.0 ++ (h.1 ++ closing h.0)) gs b.0 (is_mark h.0.mark h.2.0) (b.1 ∙ ap (λ o. map Char o ++ b.0) whole)
    by_raw false e =
        let whole : text ≡ h.0.mark ∷ (shut.0 ++ (h.1 ++ closing h.0)) = h.3 ∙ append_assoc (opening h.0) h.1 (closing h.0) ∙ ap (λ o. o ++ (h.1 ++ closing h.0)) (opening_plain h.0 e ∙ shut.1) in
        quote_head h.0.mark c (shut.0 ++ (h.1 ++ closing h.0)) gs b.0 (is_mark h.0.mark h.2.0) (b.1 ∙ ap (λ o. map Char o ++ b.0) whole)

pub head_is : (kind : TokenKind) (text : List ℕ) (c : ℕ) (gs : List Glyph) → BeginsWith text (Char c ∷ gs) → Writes kind text → HeadIs kind c (Char c ∷ gs)
head_is (kinds.Word n) text c gs b h = name_head text c gs b h.0
head_is (kinds.Keyword k) text c gs b h = let P : List ℕ → Type 0 = λ t. BeginsWith t (Char c ∷ gs) in name_head (keyword_text k) c gs (subst P h b) (keyword_IsName k)
head_is (kinds.Number n) text c gs b h = number_head text h.0 c gs b h.1
head_is (kinds.Quoted t) text c gs b h = string_head text t c gs b h
head_is (kinds.Mark m) text c gs b h = let P : List ℕ → Type 0 = λ t. BeginsWith t (Char c ∷ gs) in plain_from (mark_text m) c gs (subst P h b) (mark_not_empty m) (mark_heads m)
head_is kinds.Newline text c gs b h = absurd h
head_is kinds.Indent text c gs b h = absurd h
head_is kinds.Dedent text c gs b h = absurd h
head_is kinds.End text c gs b h = absurd h
