-- With what each kind of token begins, and that a text writes a token of one kind.
use Rattle.std.proofs.Common.{◌≡◌, ◌≢◌, ℕ, ◌<◌, ◌≤◌, Bool, true, false, ◌&&◌, ◌||◌, ◌==◌, List, [], ◌∷◌, ◌++◌, refl, ap, sym, ◌∙◌, subst, inl, inr, arith, true≢false, pos}
use Rattle.std.specs.Prelude.{◌⊎◌, IsTrue, All}
use Rattle.std.specs.Int.{IsInRange, is_in_range}
use Rattle.std.specs.Char.{is_ascii_alphabetic}
use Rattle.std.proofs.lemmas.Bool.{or_cases, and_parts, leb-true, eqb-true, cases_lt}
use Rattle.std.proofs.lemmas.List.Elements.{All-head}
use Rattle.unicode_ident.specs.Ident.{is_xid_start, is_xid_continue}
use Rattle.unicode_ident.proofs.IdentLemmas.{is_xid_start-ascii, is_xid_continue-ascii}
use Rattle.gd_syntax.specs.declared.token.TokenKind.{TokenKind}
use Rattle.gd_syntax.specs.declared.token.TokenKind.TheVariants as kinds
use Rattle.gd_syntax.specs.declared.token.Keyword.{Keyword}
use Rattle.gd_syntax.specs.declared.token.Keyword.TheVariants as keywords
use Rattle.gd_syntax.specs.declared.token.Mark.{Mark}
use Rattle.gd_syntax.specs.declared.token.Mark.TheVariants as marks
use Rattle.gd_lexis.specs.Words.{IsName, GoesOn, keyword_text, mark_text}
use Rattle.gd_lexis.specs.Pieces.{Writes}
use Rattle.gd_lexis.proofs.Lists.{cons_parts}
use Rattle.gd_lexis.proofs.Texts.{one_keyword, one_mark}
use Rattle.gd_lexis.proofs.Digits.{one_number, number_first}
use Rattle.gd_lexis.proofs.Bodies.{Written, single, triple, written, one_string}

-- the character behind the first one, or 0
abbrev pub next : List ℕ → ℕ
next [] = 0
next (c ∷ cs) = c

abbrev pub IsLetter : ℕ → Type 0
IsLetter c = IsInRange 65 90 c ⊎ (IsInRange 97 122 c ⊎ ((c ≡ 95) ⊎ (128 ≤ c)))

abbrev pub BeginsName : ℕ → ℕ → Type 0
BeginsName c d = IsLetter c × (d ≢ 34) × (d ≢ 39)

abbrev pub BeginsString : ℕ → ℕ → Type 0
BeginsString c d = ((c ≡ 34) ⊎ (c ≡ 39)) ⊎ ((c ≡ 114) × ((d ≡ 34) ⊎ (d ≡ 39)))

abbrev pub BeginsMark : ℕ → Type 0
BeginsMark c = IsInRange 33 33 c ⊎ (IsInRange 36 38 c ⊎ (IsInRange 40 47 c ⊎ (IsInRange 58 64 c ⊎ (IsInRange 91 91 c ⊎ (IsInRange 93 94 c ⊎ IsInRange 123 126 c)))))

-- the first two characters of a token of this kind
abbrev pub Begins : TokenKind → ℕ → ℕ → Type 0
Begins (kinds.Word name) c d = BeginsName c d
Begins (kinds.Keyword k) c d = BeginsName c d
Begins (kinds.Number n) c d = IsInRange 48 57 c
Begins (kinds.Quoted t) c d = BeginsString c d
Begins (kinds.Mark m) c d = BeginsMark c
Begins _ c d = ⊥

pub range_from : (low high c : ℕ) → is_in_range low high c ≡ true → IsInRange low high c
range_from low high c h = (leb-true low c (and_parts _ _ h).0, leb-true c high (and_parts _ _ h).1)

-- ---- names

letter_from : (c : ℕ) → (is_ascii_alphabetic c || (c == 95)) ≡ true → IsLetter c
letter_from c h = elim (or_cases (is_ascii_alphabetic c) (c == 95) h) [ inl a ↦ elim (or_cases (is_in_range 65 90 c) (is_in_range 97 122 c) a) [ inl b ↦ inl (range_from 65 90 c b) | inr b ↦ inr (inl (range_from 97 122 c b)) ] | inr a ↦ inr (inr (inl (eqb-true c 95 a))) ]

pub name_letter : (c : ℕ) → IsTrue (is_xid_start c || (c == 95)) → (c < 128) ⊎ (128 ≤ c) → IsLetter c
name_letter c h (inl low) = letter_from c (ap (λ b. b || (c == 95)) (sym (is_xid_start-ascii c low)) ∙ h)
name_letter c h (inr high) = inr (inr (inr high))

-- no quote goes on with a name
no_quote : (c d : ℕ) → c < 128 → d ≡ c → (is_xid_continue c ≡ false) → GoesOn d → ⊥
no_quote c d low e none h = true≢false (sym (ap is_xid_continue (sym e) ∙ h) ∙ none)

next_in_name : (c : ℕ) (cs : List ℕ) → 0 < c → c < 128 → is_xid_continue c ≡ false → All GoesOn cs → next cs ≢ c
next_in_name c [] some low none h e = omega arith
next_in_name c (d ∷ cs) some low none h e = no_quote c d low e none (All-head GoesOn d cs h)

name_begins : (text : List ℕ) → IsName text → (c : ℕ) × (more : List ℕ) × (text ≡ c ∷ more) × BeginsName c (next more)
name_begins [] h = absurd h
name_begins (c ∷ cs) h = (c, cs, refl, (name_letter c h.0 (cases_lt c 128), next_in_name 34 cs (omega arith) (omega arith) (is_xid_continue-ascii 34 (omega arith)) h.1, next_in_name 39 cs (omega arith) (omega arith) (is_xid_continue-ascii 39 (omega arith)) h.1))

-- ---- keywords and marks

abbrev pub two_letters : List ℕ → Bool
two_letters (c ∷ d ∷ cs) = is_in_range 97 122 c && is_in_range 97 122 d
two_letters _ = false

pub keyword_letters : (k : Keyword) → two_letters (keyword_text k) ≡ true
keyword_letters keywords.If = refl
keyword_letters keywords.Elif = refl
keyword_letters keywords.Else = refl
keyword_letters keywords.For = refl
keyword_letters keywords.While = refl
keyword_letters keywords.Match = refl
keyword_letters keywords.When = refl
keyword_letters keywords.Break = refl
keyword_letters keywords.Continue = refl
keyword_letters keywords.Pass = refl
keyword_letters keywords.Return = refl
keyword_letters keywords.Class = refl
keyword_letters keywords.ClassName = refl
keyword_letters keywords.Extends = refl
keyword_letters keywords.Is = refl
keyword_letters keywords.In = refl
keyword_letters keywords.As = refl
keyword_letters keywords.SelfValue = refl
keyword_letters keywords.Super = refl
keyword_letters keywords.Signal = refl
keyword_letters keywords.Func = refl
keyword_letters keywords.Static = refl
keyword_letters keywords.Const = refl
keyword_letters keywords.Enum = refl
keyword_letters keywords.Var = refl
keyword_letters keywords.Breakpoint = refl
keyword_letters keywords.Preload = refl
keyword_letters keywords.Await = refl
keyword_letters keywords.Yield = refl
keyword_letters keywords.Assert = refl
keyword_letters keywords.Void = refl
keyword_letters keywords.And = refl
keyword_letters keywords.Or = refl
keyword_letters keywords.Not = refl
keyword_letters keywords.True = refl
keyword_letters keywords.False = refl
keyword_letters keywords.Null = refl

pub letters_begin : (text : List ℕ) → two_letters text ≡ true → (c : ℕ) × (more : List ℕ) × (text ≡ c ∷ more) × BeginsName c (next more)
letters_begin [] h = absurd (true≢false (sym h))
letters_begin (c ∷ []) h = absurd (true≢false (sym h))
letters_begin (c ∷ d ∷ cs) h =
    let both = and_parts (is_in_range 97 122 c) (is_in_range 97 122 d) h in
    let second : IsInRange 97 122 d = range_from 97 122 d both.1 in
    (c, d ∷ cs, refl, (inr (inl (range_from 97 122 c both.0)), omega arith, omega arith))

abbrev pub is_mark_front : List ℕ → Bool
is_mark_front [] = false
is_mark_front (c ∷ cs) = is_in_range 33 33 c || (is_in_range 36 38 c || (is_in_range 40 47 c || (is_in_range 58 64 c || (is_in_range 91 91 c || (is_in_range 93 94 c || is_in_range 123 126 c)))))

pub mark_front : (m : Mark) → is_mark_front (mark_text m) ≡ true
mark_front marks.Plus = refl
mark_front marks.Minus = refl
mark_front marks.Star = refl
mark_front marks.Slash = refl
mark_front marks.Percent = refl
mark_front marks.StarStar = refl
mark_front marks.Tilde = refl
mark_front marks.Ampersand = refl
mark_front marks.Bar = refl
mark_front marks.Caret = refl
mark_front marks.ShiftLeft = refl
mark_front marks.ShiftRight = refl
mark_front marks.EqualEqual = refl
mark_front marks.BangEqual = refl
mark_front marks.Less = refl
mark_front marks.Greater = refl
mark_front marks.LessEqual = refl
mark_front marks.GreaterEqual = refl
mark_front marks.AndAnd = refl
mark_front marks.OrOr = refl
mark_front marks.Bang = refl
mark_front marks.Equal = refl
mark_front marks.PlusEqual = refl
mark_front marks.MinusEqual = refl
mark_front marks.StarEqual = refl
mark_front marks.SlashEqual = refl
mark_front marks.PercentEqual = refl
mark_front marks.StarStarEqual = refl
mark_front marks.ShiftLeftEqual = refl
mark_front marks.ShiftRightEqual = refl
mark_front marks.AmpersandEqual = refl
mark_front marks.BarEqual = refl
mark_front marks.CaretEqual = refl
mark_front marks.Arrow = refl
mark_front marks.Dot = refl
mark_front marks.DotDot = refl
mark_front marks.Colon = refl
mark_front marks.Comma = refl
mark_front marks.Semicolon = refl
mark_front marks.LeftParen = refl
mark_front marks.RightParen = refl
mark_front marks.LeftBracket = refl
mark_front marks.RightBracket = refl
mark_front marks.LeftBrace = refl
mark_front marks.RightBrace = refl
mark_front marks.At = refl
mark_front marks.Dollar = refl

or_range : (low high c : ℕ) (b : Bool) (P : Type 0) → (b ≡ true → P) → (is_in_range low high c || b) ≡ true → IsInRange low high c ⊎ P
or_range low high c b P f h = elim (or_cases (is_in_range low high c) b h) [ inl a ↦ inl (range_from low high c a) | inr a ↦ inr (f a) ]

pub mark_from : (text : List ℕ) → is_mark_front text ≡ true → (c : ℕ) × (more : List ℕ) × (text ≡ c ∷ more) × BeginsMark c
mark_from [] h = absurd (true≢false (sym h))
mark_from (c ∷ cs) h =
    (c, cs, refl, or_range 33 33 c _ _ (or_range 36 38 c _ _ (or_range 40 47 c _ _ (or_range 58 64 c _ _ (or_range 91 91 c _ _ (or_range 93 94 c _ _ (range_from 123 126 c)))))) h)

-- ---- strings

string_begins : (text t : List ℕ) → Written text t → (c : ℕ) × (more : List ℕ) × (text ≡ c ∷ more) × BeginsString c (next more)
string_begins text t (single true m body h e b) = (114, m ∷ body ++ m ∷ [], e, inr (refl, h))
string_begins text t (single false m body h e b) = (m, body ++ m ∷ [], e, inl h)
string_begins text t (triple true m body h e b) = (114, m ∷ m ∷ m ∷ body ++ m ∷ m ∷ m ∷ [], e, inr (refl, h))
string_begins text t (triple false m body h e b) = (m, m ∷ m ∷ body ++ m ∷ m ∷ m ∷ [], e, inl h)

-- ---- all kinds

pub token_begins : (kind : TokenKind) (text : List ℕ) → Writes kind text → (c : ℕ) × (more : List ℕ) × (text ≡ c ∷ more) × Begins kind c (next more)
token_begins (kinds.Word name) text h = name_begins text h.0
token_begins (kinds.Keyword k) text h = let b = letters_begin (keyword_text k) (keyword_letters k) in (b.0, b.1, h ∙ b.2, b.3)
token_begins (kinds.Number n) text h = number_first text h.0 h.1
token_begins (kinds.Quoted t) text h = string_begins text t (written text t h)
token_begins (kinds.Mark m) text h = let b = mark_from (mark_text m) (mark_front m) in (b.0, b.1, h ∙ b.2, b.3)
token_begins _ text h = absurd h

name_number : (c d : ℕ) → BeginsName c d → IsInRange 48 57 c → ⊥
name_number c d h k = omega arith

name_string : (c d : ℕ) → BeginsName c d → BeginsString c d → ⊥
name_string c d h k = omega arith

name_mark : (c d : ℕ) → BeginsName c d → BeginsMark c → ⊥
name_mark c d h k = omega arith

number_string : (c d : ℕ) → IsInRange 48 57 c → BeginsString c d → ⊥
number_string c d h k = omega arith

number_mark : (c : ℕ) → IsInRange 48 57 c → BeginsMark c → ⊥
number_mark c h k = omega arith

string_mark : (c d : ℕ) → BeginsString c d → BeginsMark c → ⊥
string_mark c d h k = omega arith

-- the first two characters of one text are the same
pub same_begin : (P : ℕ → ℕ → Type 0) (text : List ℕ) (c d : ℕ) (cs ds : List ℕ) → text ≡ c ∷ cs → text ≡ d ∷ ds → P d (next ds) → P c (next cs)
same_begin P text c d cs ds e f h =
    let parts = cons_parts c d cs ds (sym e ∙ f) in
    let Q : ℕ → Type 0 = λ x. P x (next ds) in
    let R : List ℕ → Type 0 = λ t. P c (next t) in
    subst R (sym parts.1) (subst Q (sym parts.0) h)

-- a text does not write tokens of kinds that begin apart
apart : {P : Type 0} (k l : TokenKind) (text : List ℕ) → ((c d : ℕ) → Begins k c d → Begins l c d → ⊥) → Writes k text → Writes l text → P
apart k l text clash h i =
    let a = token_begins k text h in
    let b = token_begins l text i in
    absurd (clash a.0 (next a.1) a.3 (same_begin (Begins l) text a.0 b.0 a.1 b.1 a.2 b.2 b.3))

-- a text writes a token of one kind
pub one_kind : (k l : TokenKind) (text : List ℕ) → Writes k text → Writes l text → k ≡ l
one_kind (kinds.Word x) (kinds.Word y) text h i = let same : x ≡ y = h.1 ∙ sym i.1 in ap kinds.Word same
one_kind (kinds.Word x) (kinds.Keyword l) text h i = absurd (h.2 l i)
one_kind (kinds.Word x) (kinds.Number n) text h i = apart (kinds.Word x) (kinds.Number n) text name_number h i
one_kind (kinds.Word x) (kinds.Quoted t) text h i = apart (kinds.Word x) (kinds.Quoted t) text name_string h i
one_kind (kinds.Word x) (kinds.Mark m) text h i = apart (kinds.Word x) (kinds.Mark m) text name_mark h i
one_kind (kinds.Keyword k) (kinds.Word y) text h i = absurd (i.2 k h)
one_kind (kinds.Keyword k) (kinds.Keyword l) text h i = ap kinds.Keyword (one_keyword k l (sym h ∙ i))
one_kind (kinds.Keyword k) (kinds.Number n) text h i = apart (kinds.Keyword k) (kinds.Number n) text name_number h i
one_kind (kinds.Keyword k) (kinds.Quoted t) text h i = apart (kinds.Keyword k) (kinds.Quoted t) text name_string h i
one_kind (kinds.Keyword k) (kinds.Mark m) text h i = apart (kinds.Keyword k) (kinds.Mark m) text name_mark h i
one_kind (kinds.Number n) (kinds.Word y) text h i = apart (kinds.Number n) (kinds.Word y) text (λ c d a b. name_number c d b a) h i
one_kind (kinds.Number n) (kinds.Keyword l) text h i = apart (kinds.Number n) (kinds.Keyword l) text (λ c d a b. name_number c d b a) h i
one_kind (kinds.Number n) (kinds.Number o) text h i = ap kinds.Number (h.2 ∙ ap pos (one_number text h.0 i.0 h.1 i.1) ∙ sym i.2)
one_kind (kinds.Number n) (kinds.Quoted t) text h i = apart (kinds.Number n) (kinds.Quoted t) text number_string h i
one_kind (kinds.Number n) (kinds.Mark m) text h i = apart (kinds.Number n) (kinds.Mark m) text (λ c d a b. number_mark c a b) h i
one_kind (kinds.Quoted t) (kinds.Word y) text h i = apart (kinds.Quoted t) (kinds.Word y) text (λ c d a b. name_string c d b a) h i
one_kind (kinds.Quoted t) (kinds.Keyword l) text h i = apart (kinds.Quoted t) (kinds.Keyword l) text (λ c d a b. name_string c d b a) h i
one_kind (kinds.Quoted t) (kinds.Number n) text h i = apart (kinds.Quoted t) (kinds.Number n) text (λ c d a b. number_string c d b a) h i
one_kind (kinds.Quoted t) (kinds.Quoted u) text h i = ap kinds.Quoted (one_string text t u h i)
one_kind (kinds.Quoted t) (kinds.Mark m) text h i = apart (kinds.Quoted t) (kinds.Mark m) text string_mark h i
one_kind (kinds.Mark m) (kinds.Word y) text h i = apart (kinds.Mark m) (kinds.Word y) text (λ c d a b. name_mark c d b a) h i
one_kind (kinds.Mark m) (kinds.Keyword l) text h i = apart (kinds.Mark m) (kinds.Keyword l) text (λ c d a b. name_mark c d b a) h i
one_kind (kinds.Mark m) (kinds.Number n) text h i = apart (kinds.Mark m) (kinds.Number n) text (λ c d a b. number_mark c b a) h i
one_kind (kinds.Mark m) (kinds.Quoted t) text h i = apart (kinds.Mark m) (kinds.Quoted t) text (λ c d a b. string_mark c d b a) h i
one_kind (kinds.Mark m) (kinds.Mark n) text h i = ap kinds.Mark (one_mark m n (sym h ∙ i))
one_kind (kinds.Word x) _ text h i = absurd i
one_kind (kinds.Keyword k) _ text h i = absurd i
one_kind (kinds.Number n) _ text h i = absurd i
one_kind (kinds.Quoted t) _ text h i = absurd i
one_kind (kinds.Mark m) _ text h i = absurd i
one_kind _ l text h i = absurd h
