-- The bounds on brackets and items, and what one piece more makes of them.
use Rattle.std.proofs.Common.{◌≡◌, ℕ, ◌+◌, ◌-◌, ◌<◌, ◌≤◌, Bool, true, false, List, [], ◌∷◌, ◌++◌, length, fold, refl, ap, sym, ◌∙◌, arith, subst, append-nil, true≢false, if◌then◌else◌, inl, inr}
use Rattle.std.specs.Prelude.{◌⊎◌, All, slice_index}
use Rattle.std.proofs.lemmas.Bool.{or_parts}
use Rattle.std.proofs.lemmas.List.Sums.{fold-append}
use Rattle.std.proofs.lemmas.List.Elements.{All-nil, All-cons, All-tail}
use Rattle.gd_syntax.specs.declared.token.TokenKind.{TokenKind}
use Rattle.gd_syntax.specs.declared.token.TokenKind.TheVariants as kinds
use Rattle.gd_syntax.specs.declared.token.Mark.{Mark}
use Rattle.gd_syntax.specs.declared.token.Mark.TheVariants as marks
use Rattle.gd_lexis.specs.Pieces.{Piece, Blank, LineFeed, Join, Comment, Tok}
use Rattle.gd_lexis.specs.Lines.{is_token, is_logical, level, level_behind, is_opening, is_closing}
use Rattle.gd_lexis.specs.Items.{items, items_behind, is_separator, counted, closed, ended}
use Rattle.gd_lexis.specs.Lexes.{IsWithin}
use Rattle.gd_lexer.specs.declared.brackets.Role.{Role}
use Rattle.gd_lexer.specs.declared.brackets.Role.TheVariants.{Part, Separator, Opening, Closing}
use Rattle.gd_lexer.specs.Brackets.{FitsBy, items_by, items_after, role_of}
use Rattle.gd_lexer.proofs.BracketLemmas.{items_by_kind}

-- ---- one piece more

items_more : (xs : List Piece) (p : Piece) → items (xs ++ p ∷ []) ≡ items_behind (items xs) p
items_more xs p = fold-append items_behind (0 ∷ []) xs (p ∷ [])

silent_behind : (is : List ℕ) (p : Piece) → is_token p ≡ false → items_behind is p ≡ is
silent_behind is (Blank c) h = refl
silent_behind is LineFeed h = refl
silent_behind is (Join e) h = refl
silent_behind is (Comment cs) h = refl
silent_behind is (Tok k t) h = absurd (true≢false h)

pub silent_items : (xs : List Piece) (p : Piece) → is_token p ≡ false → items (xs ++ p ∷ []) ≡ items xs
silent_items xs p h = items_more xs p ∙ silent_behind (items xs) p h

pub token_items : (xs : List Piece) (kind : TokenKind) (text : List ℕ) → items (xs ++ Tok kind text ∷ []) ≡ items_after kind (items xs)
token_items xs kind text = items_more xs (Tok kind text) ∙ same_kind kind
  where
    same_kind : (k : TokenKind) → items_behind (items xs) (Tok k text) ≡ items_after k (items xs)
    same_kind (kinds.Mark m) = refl
    same_kind (kinds.Word t) = refl
    same_kind (kinds.Keyword w) = refl
    same_kind (kinds.Number n) = refl
    same_kind (kinds.Quoted t) = refl
    same_kind kinds.Newline = refl
    same_kind kinds.Indent = refl
    same_kind kinds.Dedent = refl
    same_kind kinds.End = refl

items_kept : (is : List ℕ) (xs : List Piece) → is_logical xs ≡ false → fold items_behind is xs ≡ is
items_kept is [] h = refl
items_kept is (p ∷ xs) h =
    let parts = or_parts (is_token p) (is_logical xs) h in
    ap (λ t. fold items_behind t xs) (silent_behind is p parts.0) ∙ items_kept is xs parts.1

pub shut_items : (xs : List Piece) → is_logical xs ≡ false → items xs ≡ 0 ∷ []
shut_items xs h = items_kept (0 ∷ []) xs h

-- ---- the level is the number of items around the running one

separates : (m : Mark) → is_separator m ≡ true → (is_opening m ≡ false) × (is_closing m ≡ false)
separates marks.Comma h = (refl, refl)
separates marks.Semicolon h = (refl, refl)
separates marks.Colon h = (refl, refl)
separates marks.Equal h = (refl, refl)
separates marks.PlusEqual h = (refl, refl)
separates marks.MinusEqual h = (refl, refl)
separates marks.StarEqual h = (refl, refl)
separates marks.SlashEqual h = (refl, refl)
separates marks.PercentEqual h = (refl, refl)
separates marks.StarStarEqual h = (refl, refl)
separates marks.ShiftLeftEqual h = (refl, refl)
separates marks.ShiftRightEqual h = (refl, refl)
separates marks.AmpersandEqual h = (refl, refl)
separates marks.BarEqual h = (refl, refl)
separates marks.CaretEqual h = (refl, refl)
separates _ h = absurd (true≢false (sym h))

abbrev level_by : Bool → Bool → ℕ → ℕ
level_by opens closes n = if opens then n + 1 else (if closes then n - 1 else n)

abbrev items_with : Bool → Bool → Bool → List ℕ → List ℕ
items_with separator opens closes is = if separator then ended is else (if opens then 0 ∷ counted is else (if closes then counted (closed is) else counted is))

by_tests : (a b c : Bool) (is : List ℕ) (n : ℕ) → (a ≡ true → (b ≡ false) × (c ≡ false)) → length is ≡ n + 1 → length (items_with a b c is) ≡ level_by b c n + 1
by_tests a b c [] n h e = absurd (omega (arith, e))
by_tests true true c (i ∷ is) n h e = absurd (true≢false (h refl).0)
by_tests true false true (i ∷ is) n h e = absurd (true≢false (h refl).1)
by_tests true false false (i ∷ is) n h e = e
by_tests false true c (i ∷ is) n h e = omega (arith, e)
by_tests false false true (i ∷ []) n h e = omega (arith, e)
by_tests false false true (i ∷ j ∷ is) n h e = omega (arith, e)
by_tests false false false (i ∷ is) n h e = e

one_counted : (is : List ℕ) (n : ℕ) → length is ≡ n + 1 → length (counted is) ≡ n + 1
one_counted [] n e = absurd (omega (arith, e))
one_counted (i ∷ is) n e = e

level_step : (is : List ℕ) (n : ℕ) (p : Piece) → length is ≡ n + 1 → length (items_behind is p) ≡ level_behind n p + 1
level_step is n (Blank c) e = e
level_step is n LineFeed e = e
level_step is n (Join end) e = e
level_step is n (Comment cs) e = e
level_step is n (Tok (kinds.Mark m) t) e = by_tests (is_separator m) (is_opening m) (is_closing m) is n (separates m) e
level_step is n (Tok (kinds.Word w) t) e = one_counted is n e
level_step is n (Tok (kinds.Keyword w) t) e = one_counted is n e
level_step is n (Tok (kinds.Number w) t) e = one_counted is n e
level_step is n (Tok (kinds.Quoted w) t) e = one_counted is n e
level_step is n (Tok kinds.Newline t) e = one_counted is n e
level_step is n (Tok kinds.Indent t) e = one_counted is n e
level_step is n (Tok kinds.Dedent t) e = one_counted is n e
level_step is n (Tok kinds.End t) e = one_counted is n e

level_from : (is : List ℕ) (n : ℕ) (xs : List Piece) → length is ≡ n + 1 → length (fold items_behind is xs) ≡ fold level_behind n xs + 1
level_from is n [] e = e
level_from is n (p ∷ xs) e = level_from (items_behind is p) (level_behind n p) xs (level_step is n p e)

pub items_level : (xs : List Piece) → length (items xs) ≡ level xs + 1
items_level xs = level_from (0 ∷ []) 0 xs refl

-- ---- a token that has room

-- at most 32 brackets are open, and no item has more than 100 tokens
pub record AreSmall (is : List ℕ) : Type 0 where
  pub few : length is ≤ 33
  pub short : All (λ n. n ≤ 100) is

small_counted : (is : List ℕ) → slice_index is 0 < 100 → AreSmall is → AreSmall (counted is)
small_counted [] h s = record { few = omega arith; short = All-cons (λ n. n ≤ 100) 1 [] (omega arith) (All-nil (λ n. n ≤ 100)) }
small_counted (n ∷ is) h s = let low : n < 100 = h in record { few = s.few; short = All-cons (λ n. n ≤ 100) (n + 1) is (omega arith) (All-tail (λ n. n ≤ 100) n is s.short) }

small_closed : (is : List ℕ) → AreSmall is → AreSmall (closed is)
small_closed [] s = s
small_closed (n ∷ []) s = s
small_closed (n ∷ m ∷ is) s = record { few = omega (arith, s.few); short = All-tail (λ n. n ≤ 100) n (m ∷ is) s.short }

small_ended : (is : List ℕ) → AreSmall is → AreSmall (ended is)
small_ended [] s = record { few = omega arith; short = All-cons (λ n. n ≤ 100) 0 [] (omega arith) (All-nil (λ n. n ≤ 100)) }
small_ended (n ∷ is) s = record { few = s.few; short = All-cons (λ n. n ≤ 100) 0 is (omega arith) (All-tail (λ n. n ≤ 100) n is s.short) }

same_length : (is : List ℕ) → 1 ≤ length is → length (counted is) ≡ length is
same_length [] h = absurd (omega arith)
same_length (n ∷ is) h = refl

small_by : (role : Role) (is : List ℕ) → 1 ≤ length is → FitsBy role is → AreSmall is → AreSmall (items_by role is)
small_by Part is some h s = small_counted is h s
small_by Separator is some h s = small_ended is s
small_by Opening is some h s = record { few = omega (arith, same_length is some, h.0); short = All-cons (λ n. n ≤ 100) 0 (counted is) (omega arith) (small_counted is h.1 s).short }
small_by Closing is some h s = small_counted (closed is) h (small_closed is s)

-- ---- the line that is read keeps its bounds

front_parts : (xs front back : List Piece) (p : Piece) → xs ++ p ∷ [] ≡ front ++ back → (front ≡ xs ++ p ∷ []) ⊎ ((more : List Piece) × (xs ≡ front ++ more))
front_parts xs [] back p e = inr (xs, refl)
front_parts [] (f ∷ []) back p e = let head : f ≡ p = cc in inl (rw head refl)
front_parts [] (f ∷ g ∷ front) back p e = cc
front_parts (x ∷ xs) (f ∷ front) back p e =
    let head : x ≡ f = cc in
    let tail : xs ++ p ∷ [] ≡ front ++ back = cc in
    consed x f xs front p head (front_parts xs front back p tail)
  where
    consed : (x f : Piece) (xs front : List Piece) (p : Piece) → x ≡ f → (front ≡ xs ++ p ∷ []) ⊎ ((more : List Piece) × (xs ≡ front ++ more))
        → (f ∷ front ≡ x ∷ xs ++ p ∷ []) ⊎ ((more : List Piece) × (x ∷ xs ≡ f ∷ front ++ more))
    consed x f xs front p e (inl k) = inl (rw (e, k) refl)
    consed x f xs front p e (inr k) = inr (k.0, rw (e, ← k.1) refl)

pub within_here : (xs : List Piece) → IsWithin xs → AreSmall (items xs)
within_here xs h = let at = h xs [] (sym (append-nil xs)) in record { few = omega (arith, items_level xs, at.0); short = at.1 }

within_more : (xs : List Piece) (p : Piece) → IsWithin xs → AreSmall (items (xs ++ p ∷ [])) → IsWithin (xs ++ p ∷ [])
within_more xs p h s front back e = by_parts front (front_parts xs front back p e)
  where
    by_parts : (front : List Piece) → (front ≡ xs ++ p ∷ []) ⊎ ((more : List Piece) × (xs ≡ front ++ more)) → (level front ≤ 32) × All (λ n. n ≤ 100) (items front)
    by_parts front (inl k) =
        let P : List Piece → Type 0 = λ t. (level t ≤ 32) × All (λ n. n ≤ 100) (items t) in
        let low : level (xs ++ p ∷ []) ≤ 32 = omega (arith, items_level (xs ++ p ∷ []), s.few) in
        subst P (sym k) (low, s.short)
    by_parts front (inr k) = h front k.0 k.1

pub within_silent : (xs : List Piece) (p : Piece) → is_token p ≡ false → IsWithin xs → IsWithin (xs ++ p ∷ [])
within_silent xs p k h = let P : List ℕ → Type 0 = AreSmall in within_more xs p h (subst P (sym (silent_items xs p k)) (within_here xs h))

pub within_token : (xs : List Piece) (kind : TokenKind) (text : List ℕ) → FitsBy (role_of kind) (items xs) → IsWithin xs → IsWithin (xs ++ Tok kind text ∷ [])
within_token xs kind text k h =
    let P : List ℕ → Type 0 = AreSmall in
    let some : 1 ≤ length (items xs) = omega (arith, items_level xs) in
    within_more xs (Tok kind text) h (subst P (items_by_kind kind (items xs) ∙ sym (token_items xs kind text)) (small_by (role_of kind) (items xs) some k (within_here xs h)))

pub within_nil : IsWithin []
within_nil [] back e = (omega arith, All-cons (λ n. n ≤ 100) 0 [] (omega arith) (All-nil (λ n. n ≤ 100)))
within_nil (f ∷ front) back e = cc
