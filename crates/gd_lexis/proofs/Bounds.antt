-- Where a piece stands next, and the lines keep their bounds, no rule on brackets and items is broken.
use Rattle.std.proofs.Common.{◌≡◌, ℕ, ◌+◌, ◌≤◌, Bool, false, true, ◌==◌, ◌||◌, ◌&&◌, List, [], ◌∷◌, ◌++◌, map, fold, length, length-append, refl, ap, sym, ◌∙◌, subst, inl, inr, arith, true≢false, append_assoc, append-nil, if◌then◌else◌, slice_index, ◌-◌}
use Rattle.std.specs.Prelude.{◌⊎◌, All}
use Rattle.std.specs.Int.{IsInRange}
use Rattle.std.proofs.lemmas.Bool.{or_cases, eqb-true}
use Rattle.std.proofs.lemmas.List.Elements.{All-head, All-tail}
use Rattle.std.proofs.lemmas.List.Sums.{fold-append}
use Rattle.gd_syntax.specs.declared.token.TokenKind.{TokenKind}
use Rattle.gd_syntax.specs.declared.token.TokenKind.TheVariants as kinds
use Rattle.gd_syntax.specs.declared.token.Mark.{Mark}
use Rattle.gd_syntax.specs.declared.token.Mark.TheVariants as marks
use Rattle.gd_rules.specs.declared.rule.Rule.TheVariants as rules
use Rattle.gd_lexis.specs.declared.glyph.Glyph.{Glyph}
use Rattle.gd_lexis.specs.declared.glyph.Glyph.TheVariants.{Char}
use Rattle.gd_lexis.specs.Words.{mark_text}
use Rattle.gd_lexis.specs.Pieces.{Piece, Tok, Writes, BeginsWith, IsLongest}
use Rattle.gd_lexis.specs.Lines.{Parted, parted, parted_behind, lines_of, is_line_end, level, level_behind, is_opening, is_closing}
use Rattle.gd_lexis.specs.Items.{items, items_behind, items_behind_mark, is_separator, counted, closed, ended}
use Rattle.gd_lexis.specs.Lexes.{IsWithin}
use Rattle.gd_lexis.specs.Faults.{Breaks, IsCounted}
use Rattle.gd_lexis.proofs.Tokens.{BeginsName, BeginsString, token_begins}
use Rattle.gd_lexis.proofs.Cuts.{IsGap, char_parts}
use Rattle.gd_lexis.proofs.Heads.{Front, TokenFront, token_front, token_front_of, Next, next_piece, token_next, token_code, token_code_no_gap, begins_at}

-- ---- how lines go on

pub all_at : {X : Type 0} (P : X → Type 0) (xs ys : List X) (y : X) → All P (xs ++ y ∷ ys) → P y
all_at P [] ys y h = All-head P y ys h
all_at P (x ∷ xs) ys y h = all_at P xs ys y (All-tail P x (xs ++ y ∷ ys) h)

-- the lines behind a state: those that are whole, and the line that was begun with more
pub Grown : Parted → List (List Piece) → Type 0
Grown P lines = (x : List Piece) × (more : List (List Piece)) × (lines ≡ P.whole ++ (P.rest ++ x) ∷ more)

abbrev pub lines_behind : Parted → List Piece → List (List Piece)
lines_behind P ps = (fold parted_behind P ps).whole ++ (fold parted_behind P ps).rest ∷ []

abbrev pub cut_line : Parted → Parted
cut_line P = record { whole = P.whole ++ P.rest ∷ []; rest = [] }

abbrev pub with_piece : Parted → Piece → Parted
with_piece P p = record { whole = P.whole; rest = P.rest ++ p ∷ [] }

cut_grown : (P : Parted) (lines : List (List Piece)) → Grown (cut_line P) lines → Grown P lines
unfolding Grown
cut_grown P lines h =
    ([], h.0 ∷ h.1, h.2 ∙ append_assoc P.whole (P.rest ∷ []) (h.0 ∷ h.1) ∙ ap (λ t. P.whole ++ t ∷ h.0 ∷ h.1) (sym (append-nil P.rest)))

pub piece_grown : (P : Parted) (p : Piece) (lines : List (List Piece)) → Grown (with_piece P p) lines → (x : List Piece) × (more : List (List Piece)) × (lines ≡ P.whole ++ (P.rest ++ p ∷ x) ∷ more)
unfolding Grown
piece_grown P p lines h = (h.0, h.1, h.2 ∙ ap (λ t. P.whole ++ t ∷ h.1) (append_assoc P.rest (p ∷ []) h.0))

step : (b : Bool) (P : Parted) (p : Piece) (ps : List Piece) → Grown (cut_line P) (lines_behind (cut_line P) ps) → Grown (with_piece P p) (lines_behind (with_piece P p) ps)
    → Grown P (lines_behind (if b then cut_line P else with_piece P p) ps)
unfolding Grown
step true P p ps h k = cut_grown P (lines_behind (cut_line P) ps) h
step false P p ps h k = let g = piece_grown P p (lines_behind (with_piece P p) ps) k in (p ∷ g.0, g.1, g.2)

pub grows : (P : Parted) (ps : List Piece) → Grown P (lines_behind P ps)
unfolding Grown
grows P [] = ([], [], ap (λ t. P.whole ++ t ∷ []) (sym (append-nil P.rest)))
grows P (p ∷ ps) = step (is_line_end p && (level P.rest == 0)) P p ps (grows (cut_line P) ps) (grows (with_piece P p) ps)

pub grown_length : (P : Parted) (lines : List (List Piece)) → Grown P lines → length P.whole + 1 ≤ length lines
unfolding Grown
grown_length P lines h = let sizes : length lines ≡ length (P.whole ++ (P.rest ++ h.0) ∷ h.1) = ap length h.2 in omega (arith, sizes, length-append P.whole ((P.rest ++ h.0) ∷ h.1))

pub lines_from : (before ps : List Piece) → lines_of (before ++ ps) ≡ lines_behind (parted before) ps
lines_from before ps = ap (λ s. s.whole ++ s.rest ∷ []) (fold-append parted_behind (record { whole = []; rest = [] }) before ps)

-- the line goes on with the token here
pub token_in_line : (before : List Piece) (kind : TokenKind) (text : List ℕ) (ps : List Piece)
    → (x : List Piece) × (more : List (List Piece)) × (lines_of (before ++ Tok kind text ∷ ps) ≡ (parted before).whole ++ ((parted before).rest ++ Tok kind text ∷ x) ∷ more)
token_in_line before kind text ps =
    let P = parted before in
    let g = piece_grown P (Tok kind text) (lines_behind (with_piece P (Tok kind text)) ps) (grows (with_piece P (Tok kind text)) ps) in
    (g.0, g.1, lines_from before (Tok kind text ∷ ps) ∙ g.2)

-- what holds of each line holds of that line
pub of_line : (Q : List Piece → Type 0) (before : List Piece) (kind : TokenKind) (text : List ℕ) (ps all : List Piece) → all ≡ before ++ Tok kind text ∷ ps → All Q (lines_of all)
    → (x : List Piece) × Q ((parted before).rest ++ Tok kind text ∷ x)
of_line Q before kind text ps all e h =
    let g = token_in_line before kind text ps in
    let P : List (List Piece) → Type 0 = λ t. All Q t in
    (g.0, all_at Q (parted before).whole g.1 ((parted before).rest ++ Tok kind text ∷ g.0) (subst P (ap lines_of e ∙ g.2) h))

-- the bounds hold up to the token here
pub within_here : (before : List Piece) (kind : TokenKind) (text : List ℕ) (ps all : List Piece) → all ≡ before ++ Tok kind text ∷ ps → All IsWithin (lines_of all)
    → (level_behind (level (parted before).rest) (Tok kind text) ≤ 32) × All (λ n. n ≤ 100) (items_behind (items (parted before).rest) (Tok kind text))
within_here before kind text ps all e h =
    let rest = (parted before).rest in
    let p = Tok kind text in
    let found = of_line IsWithin before kind text ps all e h in
    let bounds = found.1 (rest ++ p ∷ []) found.0 (sym (append_assoc rest (p ∷ []) found.0)) in
    let levels : level (rest ++ p ∷ []) ≡ level_behind (level rest) p = fold-append level_behind 0 rest (p ∷ []) in
    let counts : items (rest ++ p ∷ []) ≡ items_behind (items rest) p = fold-append items_behind (0 ∷ []) rest (p ∷ []) in
    let P : ℕ → Type 0 = λ n. n ≤ 32 in
    let R : List ℕ → Type 0 = λ t. All (λ n. n ≤ 100) t in
    (subst P levels bounds.0, subst R counts bounds.1)

-- ---- brackets

abbrev pub opens_front : List ℕ → Bool
opens_front [] = false
opens_front (c ∷ cs) = ((c == 40) || (c == 91)) || (c == 123)

pub opening_front : (m : Mark) → opens_front (mark_text m) ≡ is_opening m
opening_front marks.Plus = refl
opening_front marks.Minus = refl
opening_front marks.Star = refl
opening_front marks.Slash = refl
opening_front marks.Percent = refl
opening_front marks.StarStar = refl
opening_front marks.Tilde = refl
opening_front marks.Ampersand = refl
opening_front marks.Bar = refl
opening_front marks.Caret = refl
opening_front marks.ShiftLeft = refl
opening_front marks.ShiftRight = refl
opening_front marks.EqualEqual = refl
opening_front marks.BangEqual = refl
opening_front marks.Less = refl
opening_front marks.Greater = refl
opening_front marks.LessEqual = refl
opening_front marks.GreaterEqual = refl
opening_front marks.AndAnd = refl
opening_front marks.OrOr = refl
opening_front marks.Bang = refl
opening_front marks.Equal = refl
opening_front marks.PlusEqual = refl
opening_front marks.MinusEqual = refl
opening_front marks.StarEqual = refl
opening_front marks.SlashEqual = refl
opening_front marks.PercentEqual = refl
opening_front marks.StarStarEqual = refl
opening_front marks.ShiftLeftEqual = refl
opening_front marks.ShiftRightEqual = refl
opening_front marks.AmpersandEqual = refl
opening_front marks.BarEqual = refl
opening_front marks.CaretEqual = refl
opening_front marks.Arrow = refl
opening_front marks.Dot = refl
opening_front marks.DotDot = refl
opening_front marks.Colon = refl
opening_front marks.Comma = refl
opening_front marks.Semicolon = refl
opening_front marks.LeftParen = refl
opening_front marks.RightParen = refl
opening_front marks.LeftBracket = refl
opening_front marks.RightBracket = refl
opening_front marks.LeftBrace = refl
opening_front marks.RightBrace = refl
opening_front marks.At = refl
opening_front marks.Dollar = refl

abbrev pub IsOpeningCode : ℕ → Type 0
IsOpeningCode c = ((c ≡ 40) ⊎ (c ≡ 91)) ⊎ (c ≡ 123)

code_from : (c : ℕ) → (((c == 40) || (c == 91)) || (c == 123)) ≡ true → IsOpeningCode c
code_from c h = elim (or_cases ((c == 40) || (c == 91)) (c == 123) h) [
  | inl a ↦ elim (or_cases (c == 40) (c == 91) a) [ inl b ↦ inl (inl (eqb-true c 40 b)) | inr b ↦ inl (inr (eqb-true c 91 b)) ]
  | inr a ↦ inr (eqb-true c 123 a)
]

pub opening_code : (text : List ℕ) → opens_front text ≡ true → (c : ℕ) × (more : List ℕ) × (text ≡ c ∷ more) × IsOpeningCode c
opening_code [] h = absurd (true≢false (sym h))
opening_code (c ∷ cs) h = (c, cs, refl, code_from c h)

opening_no_gap : (c : ℕ) → IsOpeningCode c → IsGap c → ⊥
opening_no_gap c h g = omega arith

-- a text that begins as an opening bracket is one
opens_too : (text : List ℕ) (c : ℕ) (more : List ℕ) → text ≡ c ∷ more → IsOpeningCode c → opens_front text ≡ true
opens_too text c more e h = ap opens_front e ∙ at_code c h
  where
    at_code : (c : ℕ) → IsOpeningCode c → (((c == 40) || (c == 91)) || (c == 123)) ≡ true
    at_code c (inl (inl e)) = ap (λ d. ((d == 40) || (d == 91)) || (d == 123)) e
    at_code c (inl (inr e)) = ap (λ d. ((d == 40) || (d == 91)) || (d == 123)) e
    at_code c (inr e) = ap (λ d. ((d == 40) || (d == 91)) || (d == 123)) e

deeper : (n : ℕ) (m : Mark) (text : List ℕ) → is_opening m ≡ true → level_behind n (Tok (kinds.Mark m) text) ≡ n + 1
deeper n m text h = ap (λ b. if b then n + 1 else (if is_closing m then n - 1 else n)) h

-- the token that begins with such a character is the bracket
pub bracket_kind : (kind : TokenKind) (text : List ℕ) (more vs : List Glyph) (c n : ℕ) → IsOpeningCode c → Writes kind text → map Char text ++ more ≡ Char c ∷ vs
    → level_behind n (Tok kind text) ≤ 32 → 32 ≤ n → ⊥
bracket_kind (kinds.Word name) text more vs c n h k e low high = let b = begins_at (kinds.Word name) text more vs c k e in let d : BeginsName c b.0 = b.1 in omega arith
bracket_kind (kinds.Keyword l) text more vs c n h k e low high = let b = begins_at (kinds.Keyword l) text more vs c k e in let d : BeginsName c b.0 = b.1 in omega arith
bracket_kind (kinds.Number i) text more vs c n h k e low high = let b = begins_at (kinds.Number i) text more vs c k e in let d : IsInRange 48 57 c = b.1 in omega arith
bracket_kind (kinds.Quoted t) text more vs c n h k e low high = let b = begins_at (kinds.Quoted t) text more vs c k e in let d : BeginsString c b.0 = b.1 in omega arith
bracket_kind (kinds.Mark m) text more vs c n h k e low high =
    let begins = token_begins (kinds.Mark m) text k in
    let same : begins.0 ≡ c = (char_parts begins.0 c (map Char begins.1 ++ more) vs (ap (λ t. map Char t ++ more) (sym begins.2) ∙ e)).0 in
    let P : ℕ → Type 0 = IsOpeningCode in
    let opens : is_opening m ≡ true = sym (opening_front m) ∙ opens_too (mark_text m) begins.0 begins.1 (sym k ∙ begins.2) (subst P (sym same) h) in
    omega (arith, deeper n m text opens)
bracket_kind _ text more vs c n h k e low high = absurd k

bracket : (before : List Piece) (gs vs : List Glyph) (ps all : List Piece) (c : ℕ) → IsOpeningCode c → gs ≡ Char c ∷ vs → 32 ≤ level (parted before).rest → all ≡ before ++ ps
    → All IsWithin (lines_of all) → TokenFront gs ps → ⊥
bracket before gs vs ps all c h e high f within (token_front kind text more rest g i k longest clear) =
    bracket_kind kind text more vs c (level (parted before).rest) h k (sym i ∙ e) (within_here before kind text rest all (f ∙ ap (λ t. before ++ t) g) within).0 high

pub brackets_too_deep : (before : List Piece) (gs ahead : List Glyph) (ps all : List Piece) → Front gs ps → all ≡ before ++ ps → All IsWithin (lines_of all)
    → Breaks rules.BracketsTooDeep before gs ahead → ⊥
brackets_too_deep before gs ahead ps all h e within k =
    let m = k.1.0 in
    let code = opening_code (mark_text m) (opening_front m ∙ k.1.2) in
    let vs : List Glyph = map Char code.1 ++ k.1.1.0 in
    let begun : gs ≡ Char code.0 ∷ vs = k.1.1.1 ∙ ap (λ t. map Char t ++ k.1.1.0) code.2 in
    bracket before gs vs ps all code.0 code.3 begun k.1.3 e within (token_front_of code.0 vs gs ps begun (opening_no_gap code.0 code.3) h)

-- ---- items

one_more : (xs : List ℕ) → All (λ n. n ≤ 100) (counted xs) → 100 ≤ slice_index xs 0 → ⊥
one_more [] h k = omega arith
one_more (n ∷ xs) h k = let small : n + 1 ≤ 100 = All-head (λ n. n ≤ 100) (n + 1) xs h in omega arith

closing_no_opening : (m : Mark) → is_closing m ≡ true → is_opening m ≡ false
closing_no_opening marks.RightParen h = refl
closing_no_opening marks.RightBracket h = refl
closing_no_opening marks.RightBrace h = refl
closing_no_opening _ h = absurd (true≢false (sym h))

abbrev by_tests : Bool → Bool → Bool → List ℕ → List ℕ
by_tests separates opens closes xs = if separates then ended xs else (if opens then 0 ∷ counted xs else (if closes then counted (closed xs) else counted xs))

closed_items : (xs : List ℕ) (m : Mark) → is_separator m ≡ false → is_closing m ≡ true → items_behind_mark xs m ≡ counted (closed xs)
closed_items xs m h k =
    ap (λ b. by_tests b (is_opening m) (is_closing m) xs) h ∙ ap (λ b. by_tests false b (is_closing m) xs) (closing_no_opening m k) ∙ ap (λ b. by_tests false false b xs) k

counted_items : (xs : List ℕ) (m : Mark) (opens : Bool) → is_separator m ≡ false → is_closing m ≡ false → is_opening m ≡ opens → All (λ n. n ≤ 100) (items_behind_mark xs m)
    → All (λ n. n ≤ 100) (counted xs)
counted_items xs m true h k l all =
    let same : items_behind_mark xs m ≡ 0 ∷ counted xs = ap (λ b. by_tests b (is_opening m) (is_closing m) xs) h ∙ ap (λ b. by_tests false b (is_closing m) xs) l in
    let P : List ℕ → Type 0 = λ t. All (λ n. n ≤ 100) t in
    All-tail (λ n. n ≤ 100) 0 (counted xs) (subst P same all)
counted_items xs m false h k l all =
    let same : items_behind_mark xs m ≡ counted xs = ap (λ b. by_tests b (is_opening m) (is_closing m) xs) h ∙ ap (λ b. by_tests false b (is_closing m) xs) l ∙ ap (λ b. by_tests false false b xs) k in
    let P : List ℕ → Type 0 = λ t. All (λ n. n ≤ 100) t in
    subst P same all

closing_item : (before : List Piece) (m : Mark) (gs : List Glyph) (ps all : List Piece) → is_separator m ≡ false → is_closing m ≡ true
    → 100 ≤ slice_index (closed (items (parted before).rest)) 0 → all ≡ before ++ ps → All IsWithin (lines_of all) → Next (kinds.Mark m) (mark_text m) gs ps → ⊥
closing_item before m gs ps all h k high e within (next_piece more rest f g clear) =
    let xs = items (parted before).rest in
    let bounds = within_here before (kinds.Mark m) (mark_text m) rest all (e ∙ ap (λ t. before ++ t) f) within in
    let P : List ℕ → Type 0 = λ t. All (λ n. n ≤ 100) t in
    one_more (closed xs) (subst P (closed_items xs m h k) bounds.1) high

abbrev NoEnd : List Glyph → Type 0
NoEnd gs = (m : Mark) → BeginsWith (mark_text m) gs → IsLongest (mark_text m) gs → (is_separator m ≡ false) × (is_closing m ≡ false)

other_kind : (xs : List ℕ) (kind : TokenKind) (text : List ℕ) (more gs : List Glyph) → Writes kind text → IsLongest text (map Char text ++ more) → gs ≡ map Char text ++ more → NoEnd gs
    → All (λ n. n ≤ 100) (items_behind xs (Tok kind text)) → 100 ≤ slice_index xs 0 → ⊥
other_kind xs (kinds.Word name) text more gs h longest e none all high = one_more xs all high
other_kind xs (kinds.Keyword k) text more gs h longest e none all high = one_more xs all high
other_kind xs (kinds.Number n) text more gs h longest e none all high = one_more xs all high
other_kind xs (kinds.Quoted t) text more gs h longest e none all high = one_more xs all high
other_kind xs (kinds.Mark m) text more gs h longest e none all high =
    let P : List Glyph → Type 0 = λ t. IsLongest text t in
    let Q : List ℕ → Type 0 = λ t. IsLongest t gs in
    let tests = none m (more, e ∙ ap (λ t. map Char t ++ more) h) (subst Q h (subst P (sym e) longest)) in
    one_more xs (counted_items xs m (is_opening m) tests.0 tests.1 refl all) high
other_kind xs _ text more gs h longest e none all high = absurd h

other_item : (before : List Piece) (gs : List Glyph) (ps all : List Piece) → NoEnd gs → 100 ≤ slice_index (items (parted before).rest) 0 → all ≡ before ++ ps
    → All IsWithin (lines_of all) → TokenFront gs ps → ⊥
other_item before gs ps all none high e within (token_front kind text more rest f g h longest clear) =
    other_kind (items (parted before).rest) kind text more gs h longest g none (within_here before kind text rest all (e ∙ ap (λ t. before ++ t) f) within).1 high

item_too_long_by : (before : List Piece) (gs : List Glyph) (ps all : List Piece) (n : ℕ) → Front gs ps → all ≡ before ++ ps → All IsWithin (lines_of all)
    → IsCounted before gs n → 100 ≤ n → ⊥
item_too_long_by before gs ps all n h e within (inl k) high =
    closing_item before k.0 gs ps all k.3 k.4 (omega (arith, k.5)) e within (token_next (kinds.Mark k.0) (mark_text k.0) gs ps refl k.1 k.2 h)
item_too_long_by before gs ps all n h e within (inr k) high =
    let code = token_code gs k.0.1 in
    other_item before gs ps all k.0.0 (omega (arith, k.1)) e within (token_front_of code.0 code.1 gs ps code.2 (token_code_no_gap code.0 code.3) h)

pub item_too_long : (before : List Piece) (gs ahead : List Glyph) (ps all : List Piece) → Front gs ps → all ≡ before ++ ps → All IsWithin (lines_of all)
    → Breaks rules.ItemTooLong before gs ahead → ⊥
item_too_long before gs ahead ps all h e within k = item_too_long_by before gs ps all k.1.0 h e within k.1.1 k.1.2
