-- Short files keep the bounds on lines.
use Rattle.gd_syntax.specs.declared.token.Mark.TheVariants as marks
use Rattle.gd_syntax.specs.declared.token.Mark.{Mark}
use Rattle.std.proofs.Common.{◌≡◌, ◌≢◌, ℕ, ◌+◌, ◌-◌, ◌≤◌, Bool, true, false, List, [], ◌∷◌, ◌++◌, length, map, fold, refl, ap, sym, ◌∙◌, subst, inl, inr, arith, if◌then◌else◌, length-append, true≢false}
use Rattle.std.specs.Prelude.{◌⊎◌, All}
use Rattle.std.specs.Int.{IsInRange}
use Rattle.std.proofs.lemmas.Bool.{and_parts}
use Rattle.std.proofs.lemmas.List.{length-map}
use Rattle.std.proofs.lemmas.List.Elements.{All-head, All-tail, All-nil, All-cons, All-weaker}
use Rattle.std.proofs.lemmas.Str.Parse.{digit_from_value}
use Rattle.unicode_ident.specs.Ident.{is_xid_continue}
use Rattle.gd_syntax.specs.declared.token.TokenKind.{TokenKind}
use Rattle.gd_syntax.specs.declared.token.TokenKind.TheVariants as kinds
use Rattle.gd_lexis.specs.declared.glyph.Glyph.{Glyph}
use Rattle.gd_lexis.specs.declared.glyph.Glyph.TheVariants.{Char}
use Rattle.gd_lexis.specs.Words.{GoesOn, mark_text}
use Rattle.gd_lexis.specs.Numbers.{AreDigits, IsDigit, WritesNumber, WritesDecimal}
use Rattle.gd_lexis.specs.Pieces.{Piece, Blank, LineFeed, Join, Comment, Tok, Writes, IsLongest}
use Rattle.gd_lexis.specs.Lines.{level_behind, is_logical, depth, blocks_behind, is_opening, is_closing}
use Rattle.gd_lexis.specs.Items.{items, items_behind, is_separator, counted, closed, ended}
use Rattle.gd_lexis.specs.Lexes.{IsWithin, IsMatched, AreBlocks}
use Rattle.gd_lexis.proofs.Lists.{cons_parts}
use Rattle.gd_lexis.proofs.Digits.{second_digit}
use Rattle.gd_lexis.proofs.Tokens.{BeginsName, BeginsString, BeginsMark, token_begins, same_begin, IsLetter, keyword_letters, two_letters, range_from, is_mark_front}
use Rattle.gd_lexis.proofs.Cuts.{char_parts}
use Rattle.gd_lexis.proofs.Heads.{begins_at}

-- ---- lines with few pieces

choose_level : (n : ℕ) (opens closes : Bool) → (if opens then n + 1 else (if closes then n - 1 else n)) ≤ n + 1
choose_level n true closes = omega arith
choose_level n false true = omega arith
choose_level n false false = omega arith

level_step : (n : ℕ) (p : Piece) → level_behind n p ≤ n + 1
level_step n (Blank c) = omega arith
level_step n LineFeed = omega arith
level_step n (Join end) = omega arith
level_step n (Comment cs) = omega arith
level_step n (Tok (kinds.Mark m) text) = choose_level n (is_opening m) (is_closing m)
level_step n (Tok (kinds.Word x) text) = omega arith
level_step n (Tok _ text) = omega arith

level_by : (n : ℕ) (ps : List Piece) → fold level_behind n ps ≤ n + length ps
level_by n [] = omega arith
level_by n (p ∷ ps) = omega (arith, level_step n p, level_by (level_behind n p) ps)

abbrev Low : ℕ → List ℕ → Type 0
Low k xs = All (λ n. n ≤ k) xs

low_up : (k : ℕ) (xs : List ℕ) → Low k xs → Low (k + 1) xs
low_up k xs h = All-weaker (λ n. n ≤ k) (λ n. n ≤ k + 1) (λ n l. omega arith) xs h

low_counted : (k : ℕ) (xs : List ℕ) → Low k xs → Low (k + 1) (counted xs)
low_counted k [] h = All-cons (λ n. n ≤ k + 1) 1 [] (omega arith) (All-nil (λ n. n ≤ k + 1))
low_counted k (n ∷ xs) h =
    let head : n ≤ k = All-head (λ n. n ≤ k) n xs h in
    All-cons (λ n. n ≤ k + 1) (n + 1) xs (omega arith) (low_up k xs (All-tail (λ n. n ≤ k) n xs h))

low_closed : (k : ℕ) (xs : List ℕ) → Low k xs → Low k (closed xs)
low_closed k [] h = h
low_closed k (n ∷ []) h = h
low_closed k (n ∷ m ∷ xs) h = All-tail (λ n. n ≤ k) n (m ∷ xs) h

low_ended : (k : ℕ) (xs : List ℕ) → Low k xs → Low (k + 1) (ended xs)
low_ended k [] h = All-cons (λ n. n ≤ k + 1) 0 [] (omega arith) (All-nil (λ n. n ≤ k + 1))
low_ended k (n ∷ xs) h = All-cons (λ n. n ≤ k + 1) 0 xs (omega arith) (low_up k xs (All-tail (λ n. n ≤ k) n xs h))

choose_items : (k : ℕ) (xs : List ℕ) (separates opens closes : Bool) → Low k xs
    → Low (k + 1) (if separates then ended xs else (if opens then 0 ∷ counted xs else (if closes then counted (closed xs) else counted xs)))
choose_items k xs true opens closes h = low_ended k xs h
choose_items k xs false true closes h = All-cons (λ n. n ≤ k + 1) 0 (counted xs) (omega arith) (low_counted k xs h)
choose_items k xs false false true h = low_counted k (closed xs) (low_closed k xs h)
choose_items k xs false false false h = low_counted k xs h

items_step : (k : ℕ) (xs : List ℕ) (p : Piece) → Low k xs → Low (k + 1) (items_behind xs p)
items_step k xs (Blank c) h = low_up k xs h
items_step k xs LineFeed h = low_up k xs h
items_step k xs (Join end) h = low_up k xs h
items_step k xs (Comment cs) h = low_up k xs h
items_step k xs (Tok (kinds.Mark m) text) h = choose_items k xs (is_separator m) (is_opening m) (is_closing m) h
items_step k xs (Tok (kinds.Word x) text) h = low_counted k xs h
items_step k xs (Tok _ text) h = low_counted k xs h

items_by : (k : ℕ) (xs : List ℕ) (ps : List Piece) → Low k xs → Low (k + length ps) (fold items_behind xs ps)
items_by k xs [] h = All-weaker (λ n. n ≤ k) (λ n. n ≤ k + 0) (λ n l. omega arith) xs h
items_by k xs (p ∷ ps) h =
    All-weaker (λ n. n ≤ (k + 1) + length ps) (λ n. n ≤ k + length (p ∷ ps)) (λ n l. omega arith) (fold items_behind (items_behind xs p) ps) (items_by (k + 1) (items_behind xs p) ps (items_step k xs p h))

pub short_within : (line : List Piece) → length line ≤ 32 → IsWithin line
short_within line short front back e =
    let whole : length line ≡ length front + length back = ap length e ∙ length-append front back in
    let few : length front ≤ 32 = omega arith in
    let zero_only : Low 0 (0 ∷ []) = All-cons (λ n. n ≤ 0) 0 [] (omega arith) (All-nil (λ n. n ≤ 0)) in
    (omega (arith, level_by 0 front), All-weaker (λ n. n ≤ 0 + length front) (λ n. n ≤ 100) (λ n l. omega arith) (items front) (items_by 0 (0 ∷ []) front zero_only))

-- ---- blocks, line by line

abbrev pub after : List ℕ → List Piece → List ℕ
after blocks line = if is_logical line then blocks_behind blocks (depth line) else blocks

abbrev pub Blocked : List ℕ → List (List Piece) → Type 0
Blocked blocks [] = Unit {0}
Blocked blocks (line ∷ lines) = (is_logical line ≡ true → IsMatched blocks (depth line) × (length (after blocks line) ≤ 32)) × Blocked (after blocks line) lines

list_empty : {A : Type 0} (xs : List A) (y : A) (ys : List A) → [] ≡ xs ++ y ∷ ys → ⊥
list_empty [] y ys e = cc
list_empty (x ∷ xs) y ys e = cc

blocks_by : (blocks : List ℕ) (lines front : List (List Piece)) (line : List Piece) (back : List (List Piece)) → Blocked blocks lines → lines ≡ front ++ line ∷ back → is_logical line ≡ true
    → IsMatched (fold after blocks front) (depth line) × (length (fold after blocks (front ++ line ∷ [])) ≤ 32)
blocks_by blocks [] front line back h e logical = absurd (list_empty front line back e)
blocks_by blocks (l ∷ lines) [] line back h e logical =
    let same : l ≡ line = (cons_parts l line lines back e).0 in
    let P : List Piece → Type 0 = λ t. is_logical t ≡ true → IsMatched blocks (depth t) × (length (after blocks t) ≤ 32) in
    (subst P same h.0) logical
blocks_by blocks (l ∷ lines) (f ∷ front) line back h e logical =
    let parts = cons_parts l f lines (front ++ line ∷ back) e in
    let P : List Piece → Type 0 = λ t. Blocked (after blocks t) lines in
    blocks_by (after blocks f) lines front line back (subst P parts.0 h.1) parts.1 logical

pub are_blocks : (lines : List (List Piece)) → Blocked [] lines → AreBlocks lines
are_blocks lines h front line back e logical = blocks_by [] lines front line back h e logical

-- ---- the longest token

pub longest_at_end : (text : List ℕ) → IsLongest text (map Char text ++ [])
longest_at_end text longer kind less begins h =
    let sizes : length (map Char text ++ []) ≡ length (map Char longer ++ begins.0) = ap length begins.1 in
    omega (arith, sizes, length-append (map Char text) [], length-append (map Char longer) begins.0, length-map text Char, length-map longer Char)

not_on : (kind : TokenKind) (c d : ℕ) (more : List ℕ) → IsLetter c → is_xid_continue d ≡ false → (IsInRange 97 122 d → ⊥) → (d ≢ 34) × (d ≢ 39) → Writes kind (c ∷ d ∷ more) → ⊥
not_on (kinds.Word name) c d more h k l q w = true≢false (sym (All-head GoesOn d more w.0.1) ∙ k)
not_on (kinds.Keyword x) c d more h k l q w = l (range_from 97 122 d (and_parts _ _ (ap two_letters w ∙ keyword_letters x)).1)
not_on (kinds.Number n) c d more h k l q w = let b = begins_at (kinds.Number n) (c ∷ d ∷ more) [] (map Char (d ∷ more) ++ []) c w refl in let f : IsInRange 48 57 c = b.1 in omega arith
not_on (kinds.Quoted t) c d more h k l q w =
    let b = token_begins (kinds.Quoted t) (c ∷ d ∷ more) w in
    let f : BeginsString c d = same_begin BeginsString (c ∷ d ∷ more) c b.0 (d ∷ more) b.1 refl b.2 b.3 in
    omega arith
not_on (kinds.Mark m) c d more h k l q w = let b = begins_at (kinds.Mark m) (c ∷ d ∷ more) [] (map Char (d ∷ more) ++ []) c w refl in let f : BeginsMark c = b.1 in omega arith
not_on _ c d more h k l q w = absurd w

-- a name of one letter is the longest token before a character that no name has
pub letter_longest : (c d : ℕ) (us : List Glyph) → IsLetter c → is_xid_continue d ≡ false → (IsInRange 97 122 d → ⊥) → (d ≢ 34) × (d ≢ 39) → IsLongest (c ∷ []) (Char c ∷ Char d ∷ us)
letter_longest c d us h k l q [] kind less begins w = omega arith
letter_longest c d us h k l q (x ∷ []) kind less begins w = omega arith
letter_longest c d us h k l q (x ∷ y ∷ more) kind less begins w =
    let heads = char_parts c x (Char d ∷ us) (Char y ∷ map Char more ++ begins.0) begins.1 in
    let seconds = char_parts d y us (map Char more ++ begins.0) heads.1 in
    let P : ℕ → Type 0 = λ z. Writes kind (z ∷ y ∷ more) in
    let Q : ℕ → Type 0 = λ z. Writes kind (c ∷ z ∷ more) in
    not_on kind c d more h k l q (subst Q (sym seconds.0) (subst P (sym heads.0) w))

no_number : (d : ℕ) (more : List ℕ) (n : ℕ) → (IsInRange 48 57 d → ⊥) → d ≢ 95 → WritesNumber (49 ∷ d ∷ more) n → ⊥
no_number d more n h k (inl w) = elim (decimal_second d more n w) [ inl a ↦ h (digit_from_value d a) | inr a ↦ k a ]
  where
    decimal_second : (d : ℕ) (more : List ℕ) (n : ℕ) → WritesDecimal (49 ∷ d ∷ more) n → IsDigit 10 d ⊎ (d ≡ 95)
    decimal_second d more n w = let P : List ℕ → Type 0 = λ t. AreDigits 10 t w.1 in second_digit 49 d more w.1 (subst P (sym w.2) w.3)
no_number d more n h k (inr (inl w)) = omega (arith, (cons_parts 49 48 (d ∷ more) (120 ∷ w.0) w.2).0)
no_number d more n h k (inr (inr w)) = omega (arith, (cons_parts 49 48 (d ∷ more) (98 ∷ w.0) w.2).0)

not_one : (kind : TokenKind) (d : ℕ) (more : List ℕ) → (IsInRange 48 57 d → ⊥) → d ≢ 95 → Writes kind (49 ∷ d ∷ more) → ⊥
not_one (kinds.Word name) d more h k w = let b = begins_at (kinds.Word name) (49 ∷ d ∷ more) [] (map Char (d ∷ more) ++ []) 49 w refl in let f : BeginsName 49 b.0 = b.1 in omega arith
not_one (kinds.Keyword x) d more h k w = let b = begins_at (kinds.Keyword x) (49 ∷ d ∷ more) [] (map Char (d ∷ more) ++ []) 49 w refl in let f : BeginsName 49 b.0 = b.1 in omega arith
not_one (kinds.Number n) d more h k w = no_number d more w.0 h k w.1
not_one (kinds.Quoted t) d more h k w = let b = begins_at (kinds.Quoted t) (49 ∷ d ∷ more) [] (map Char (d ∷ more) ++ []) 49 w refl in let f : BeginsString 49 b.0 = b.1 in omega arith
not_one (kinds.Mark m) d more h k w = let b = begins_at (kinds.Mark m) (49 ∷ d ∷ more) [] (map Char (d ∷ more) ++ []) 49 w refl in let f : BeginsMark 49 = b.1 in omega arith
not_one _ d more h k w = absurd w

-- `1` is the longest token before a character that no number has
pub one_longest : (d : ℕ) (us : List Glyph) → (IsInRange 48 57 d → ⊥) → d ≢ 95 → IsLongest (49 ∷ []) (Char 49 ∷ Char d ∷ us)
one_longest d us h k [] kind less begins w = omega arith
one_longest d us h k (x ∷ []) kind less begins w = omega arith
one_longest d us h k (x ∷ y ∷ more) kind less begins w =
    let heads = char_parts 49 x (Char d ∷ us) (Char y ∷ map Char more ++ begins.0) begins.1 in
    let seconds = char_parts d y us (map Char more ++ begins.0) heads.1 in
    let P : ℕ → Type 0 = λ z. Writes kind (z ∷ y ∷ more) in
    let Q : ℕ → Type 0 = λ z. Writes kind (49 ∷ z ∷ more) in
    not_one kind d more h k (subst Q (sym seconds.0) (subst P (sym heads.0) w))

-- behind its first character no mark has a character that begins none
abbrev goes_on_marked : List ℕ → Bool
goes_on_marked [] = true
goes_on_marked (c ∷ []) = true
goes_on_marked (c ∷ d ∷ cs) = is_mark_front (d ∷ cs)

marked_on : (m : Mark) → goes_on_marked (mark_text m) ≡ true
marked_on marks.Plus = refl
marked_on marks.Minus = refl
marked_on marks.Star = refl
marked_on marks.Slash = refl
marked_on marks.Percent = refl
marked_on marks.StarStar = refl
marked_on marks.Tilde = refl
marked_on marks.Ampersand = refl
marked_on marks.Bar = refl
marked_on marks.Caret = refl
marked_on marks.ShiftLeft = refl
marked_on marks.ShiftRight = refl
marked_on marks.EqualEqual = refl
marked_on marks.BangEqual = refl
marked_on marks.Less = refl
marked_on marks.Greater = refl
marked_on marks.LessEqual = refl
marked_on marks.GreaterEqual = refl
marked_on marks.AndAnd = refl
marked_on marks.OrOr = refl
marked_on marks.Bang = refl
marked_on marks.Equal = refl
marked_on marks.PlusEqual = refl
marked_on marks.MinusEqual = refl
marked_on marks.StarEqual = refl
marked_on marks.SlashEqual = refl
marked_on marks.PercentEqual = refl
marked_on marks.StarStarEqual = refl
marked_on marks.ShiftLeftEqual = refl
marked_on marks.ShiftRightEqual = refl
marked_on marks.AmpersandEqual = refl
marked_on marks.BarEqual = refl
marked_on marks.CaretEqual = refl
marked_on marks.Arrow = refl
marked_on marks.Dot = refl
marked_on marks.DotDot = refl
marked_on marks.Colon = refl
marked_on marks.Comma = refl
marked_on marks.Semicolon = refl
marked_on marks.LeftParen = refl
marked_on marks.RightParen = refl
marked_on marks.LeftBracket = refl
marked_on marks.RightBracket = refl
marked_on marks.LeftBrace = refl
marked_on marks.RightBrace = refl
marked_on marks.At = refl
marked_on marks.Dollar = refl

no_mark_on : (kind : TokenKind) (c : ℕ) (more : List ℕ) → IsInRange 40 41 c → Writes kind (c ∷ 10 ∷ more) → ⊥
no_mark_on (kinds.Word name) c more h w = let b = begins_at (kinds.Word name) (c ∷ 10 ∷ more) [] (map Char (10 ∷ more) ++ []) c w refl in let f : BeginsName c b.0 = b.1 in omega arith
no_mark_on (kinds.Keyword x) c more h w = let b = begins_at (kinds.Keyword x) (c ∷ 10 ∷ more) [] (map Char (10 ∷ more) ++ []) c w refl in let f : BeginsName c b.0 = b.1 in omega arith
no_mark_on (kinds.Number n) c more h w = let b = begins_at (kinds.Number n) (c ∷ 10 ∷ more) [] (map Char (10 ∷ more) ++ []) c w refl in let f : IsInRange 48 57 c = b.1 in omega arith
no_mark_on (kinds.Quoted t) c more h w = let b = begins_at (kinds.Quoted t) (c ∷ 10 ∷ more) [] (map Char (10 ∷ more) ++ []) c w refl in let f : BeginsString c b.0 = b.1 in omega arith
no_mark_on (kinds.Mark m) c more h w = true≢false (sym (ap goes_on_marked w ∙ marked_on m))
no_mark_on _ c more h w = absurd w

-- a bracket is the longest token before a line feed
pub mark_longest : (c : ℕ) (us : List Glyph) → IsInRange 40 41 c → IsLongest (c ∷ []) (Char c ∷ Char 10 ∷ us)
mark_longest c us h [] kind less begins w = omega arith
mark_longest c us h (x ∷ []) kind less begins w = omega arith
mark_longest c us h (x ∷ y ∷ more) kind less begins w =
    let heads = char_parts c x (Char 10 ∷ us) (Char y ∷ map Char more ++ begins.0) begins.1 in
    let seconds = char_parts 10 y us (map Char more ++ begins.0) heads.1 in
    let P : ℕ → Type 0 = λ z. Writes kind (z ∷ y ∷ more) in
    let Q : ℕ → Type 0 = λ z. Writes kind (c ∷ z ∷ more) in
    no_mark_on kind c more h (subst Q (sym seconds.0) (subst P (sym heads.0) w))
