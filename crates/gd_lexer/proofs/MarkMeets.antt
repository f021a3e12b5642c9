-- The mark that is read is the longest that begins there.
use Rattle.std.proofs.Common.{◌≡◌, ℕ, ◌≤◌, Bool, true, false, cond, List, [], ◌∷◌, ◌++◌, length, drop, slice_index, slice_get, map, refl, ap, sym, ◌∙◌, arith, subst, inl, inr}
use Rattle.std.proofs.lemmas.Bool.{or_cases, eqb-true, and_parts}
use Rattle.std.specs.Prelude.{Option, Some, None, ◌||◌, ◌&&◌, ◌==◌, ◌⊎◌}
use Rattle.std.specs.Char.{is_ascii_digit}
use Rattle.gd_syntax.specs.declared.token.TokenKind.{TokenKind}
use Rattle.gd_syntax.specs.declared.token.TokenKind.TheVariants as kinds
use Rattle.gd_syntax.specs.declared.token.Mark.{Mark}
use Rattle.gd_syntax.specs.declared.token.Mark.TheVariants as marks
use Rattle.gd_lexer.specs.declared.lexer.Start.TheVariants as starts
use Rattle.gd_lexer.specs.Start.{start_at}
use Rattle.gd_lexer.proofs.StartsLemmas.{mark_here}
use Rattle.gd_lexis.specs.declared.glyph.Glyph.{Glyph}
use Rattle.gd_lexis.specs.declared.glyph.Glyph.TheVariants.{Char, Bad}
use Rattle.gd_lexis.specs.Words.{mark_text}
use Rattle.gd_lexis.specs.Numbers.{IsDigit}
use Rattle.gd_lexis.specs.Pieces.{Writes, BeginsWith, BeginsBy, IsLongest}
use Rattle.gd_lexer.specs.Cursor.{sees, is_char}
use Rattle.gd_lexer.specs.Mark.{mark_at, with_equal, arithmetic, star, bits, angle, single}
use Rattle.gd_lexer.specs.Start.{opens_string, behind_mark, is_digit}
use Rattle.gd_lexer.specs.Token.{IsToken}
use Rattle.gd_lexer.proofs.Heads.{begins_name, head_is, HeadIs, mark_not_empty, digit_from}

-- ---- what is read stands there

abbrev Fits : List Glyph → Mark × ℕ → Type 0
Fits gs r = (gs ≡ map Char (mark_text r.0) ++ behind_mark r.1 gs) × (length (mark_text r.0) ≡ r.1)

abbrev pub FitsIf : List Glyph → Option (Mark × ℕ) → Type 0
FitsIf gs None = Unit {0}
FitsIf gs (Some r) = Fits gs r

fit : (gs : List Glyph) (b : Bool) (x y : Mark × ℕ) → (b ≡ true → Fits gs x) → (b ≡ false → Fits gs y) → Fits gs (cond b x y)
fit gs true x y f g = f refl
fit gs false x y f g = g refl

fit_if : (gs : List Glyph) (b : Bool) (x y : Option (Mark × ℕ)) → (b ≡ true → FitsIf gs x) → (b ≡ false → FitsIf gs y) → FitsIf gs (cond b x y)
fit_if gs true x y f g = f refl
fit_if gs false x y f g = g refl

pub char_is : (o : Option Glyph) (c : ℕ) → is_char o c ≡ true → o ≡ Some (Char c)
char_is None c e = cc
char_is (Some (Bad b)) c e = cc
char_is (Some (Char d)) c e = ap (λ n. Some (Char n)) (eqb-true d c e)

pub head_seen : (hs : List Glyph) (g : Glyph) → slice_get hs 0 ≡ Some g → hs ≡ g ∷ drop 1 hs
head_seen [] g e = cc
head_seen (h ∷ hs) g e = let same : h ≡ g = cc in rw same refl

pub second_seen : (g : Glyph) (hs : List Glyph) (c : ℕ) → sees c (g ∷ hs) 1 ≡ true → hs ≡ Char c ∷ drop 1 hs
second_seen g hs c e = head_seen hs (Char c) (char_is (slice_get hs 0) c e)

third_seen : (g : Glyph) (hs : List Glyph) (c d : ℕ) → sees c (g ∷ hs) 1 ≡ true → sees d (g ∷ hs) 2 ≡ true → hs ≡ Char c ∷ Char d ∷ drop 2 hs
third_seen g [] c d e f = cc
third_seen g (h ∷ []) c d e f = cc
third_seen g (h ∷ i ∷ hs) c d e f =
    let p = char_is (Some h) c e in let q = char_is (Some i) d f in let same : h ≡ Char c = cc in let same2 : i ≡ Char d = cc in rw (same, same2) refl

fit_one : (c : ℕ) (hs : List Glyph) (m : Mark) → mark_text m ≡ c ∷ [] → Fits (Char c ∷ hs) (m, 1)
fit_one c hs m e = (rw e refl, rw e refl)

fit_two : (c d : ℕ) (hs : List Glyph) (m : Mark) → mark_text m ≡ c ∷ d ∷ [] → sees d (Char c ∷ hs) 1 ≡ true → Fits (Char c ∷ hs) (m, 2)
fit_two c d hs m e seen = (rw e (ap (λ t. Char c ∷ t) (second_seen (Char c) hs d seen)), rw e refl)

fit_three : (c d f : ℕ) (hs : List Glyph) (m : Mark) → mark_text m ≡ c ∷ d ∷ f ∷ [] → sees d (Char c ∷ hs) 1 ≡ true → sees f (Char c ∷ hs) 2 ≡ true → Fits (Char c ∷ hs) (m, 3)
fit_three c d f hs m e seen more = (rw e (ap (λ t. Char c ∷ t) (third_seen (Char c) hs d f seen more)), rw e refl)

fit_equal : (c : ℕ) (hs : List Glyph) (m n : Mark) → mark_text m ≡ c ∷ [] → mark_text n ≡ c ∷ 61 ∷ [] → Fits (Char c ∷ hs) (with_equal (Char c ∷ hs) m n)
fit_equal c hs m n e f = fit (Char c ∷ hs) (sees 61 (Char c ∷ hs) 1) (n, 2) (m, 1) (fit_two c 61 hs n f) (λ _. fit_one c hs m e)

-- at a character that is this one
at : (P : ℕ → Type 0) (c d : ℕ) → (c == d) ≡ true → P d → P c
at P c d e p = subst P (sym (eqb-true c d e)) p

fit_arithmetic : (c : ℕ) (hs : List Glyph) → (c == 43 || c == 45 || c == 47 || c == 37) ≡ true → Fits (Char c ∷ hs) (arithmetic c (Char c ∷ hs))
fit_arithmetic c hs any =
    fit (Char c ∷ hs) (c == 43) _ _ (λ h. let P : ℕ → Type 0 = λ n. Fits (Char n ∷ hs) (with_equal (Char n ∷ hs) marks.Plus marks.PlusEqual) in at P c 43 h (fit_equal 43 hs marks.Plus marks.PlusEqual refl refl))
    (λ n1. fit (Char c ∷ hs) (c == 45) _ _
    (λ h. fit (Char c ∷ hs) (sees 62 (Char c ∷ hs) 1) _ _
    (λ seen. let P : ℕ → Type 0 = λ n. sees 62 (Char n ∷ hs) 1 ≡ true → Fits (Char n ∷ hs) (marks.Arrow, 2) in at P c 45 h (fit_two 45 62 hs marks.Arrow refl) seen)
    (λ _. let P : ℕ → Type 0 = λ n. Fits (Char n ∷ hs) (with_equal (Char n ∷ hs) marks.Minus marks.MinusEqual) in at P c 45 h (fit_equal 45 hs marks.Minus marks.MinusEqual refl refl)))
    (λ n2. fit (Char c ∷ hs) (c == 47) _ _ (λ h. let P : ℕ → Type 0 = λ n. Fits (Char n ∷ hs) (with_equal (Char n ∷ hs) marks.Slash marks.SlashEqual) in at P c 47 h (fit_equal 47 hs marks.Slash marks.SlashEqual refl refl))
    (λ n3. let h : (c == 37) ≡ true = last_of (c == 43) (c == 45) (c == 47) (c == 37) any n1 n2 n3 in
    let P : ℕ → Type 0 = λ n. Fits (Char n ∷ hs) (with_equal (Char n ∷ hs) marks.Percent marks.PercentEqual) in at P c 37 h (fit_equal 37 hs marks.Percent marks.PercentEqual refl refl))))
  where
    last_of : (x y z w : Bool) → (x || y || z || w) ≡ true → x ≡ false → y ≡ false → z ≡ false → w ≡ true
    last_of true y z w e f g h = cc
    last_of false true z w e f g h = cc
    last_of false false true w e f g h = cc
    last_of false false false w e f g h = e

fit_star : (hs : List Glyph) → Fits (Char 42 ∷ hs) (star (Char 42 ∷ hs))
fit_star hs =
    fit (Char 42 ∷ hs) (sees 42 (Char 42 ∷ hs) 1) _ _
    (λ seen. fit (Char 42 ∷ hs) (sees 61 (Char 42 ∷ hs) 2) _ _ (fit_three 42 42 61 hs marks.StarStarEqual refl seen) (λ _. fit_two 42 42 hs marks.StarStar refl seen))
    (λ _. fit_equal 42 hs marks.Star marks.StarEqual refl refl)

fit_bits : (c : ℕ) (hs : List Glyph) → (c == 38 || c == 124 || c == 94) ≡ true → Fits (Char c ∷ hs) (bits c (Char c ∷ hs))
fit_bits c hs any =
    fit (Char c ∷ hs) (c == 38) _ _
    (λ h. fit (Char c ∷ hs) (sees 38 (Char c ∷ hs) 1) _ _
    (λ seen. let P : ℕ → Type 0 = λ n. sees 38 (Char n ∷ hs) 1 ≡ true → Fits (Char n ∷ hs) (marks.AndAnd, 2) in at P c 38 h (fit_two 38 38 hs marks.AndAnd refl) seen)
    (λ _. let P : ℕ → Type 0 = λ n. Fits (Char n ∷ hs) (with_equal (Char n ∷ hs) marks.Ampersand marks.AmpersandEqual) in at P c 38 h (fit_equal 38 hs marks.Ampersand marks.AmpersandEqual refl refl)))
    (λ n1. fit (Char c ∷ hs) (c == 124) _ _
    (λ h. fit (Char c ∷ hs) (sees 124 (Char c ∷ hs) 1) _ _
    (λ seen. let P : ℕ → Type 0 = λ n. sees 124 (Char n ∷ hs) 1 ≡ true → Fits (Char n ∷ hs) (marks.OrOr, 2) in at P c 124 h (fit_two 124 124 hs marks.OrOr refl) seen)
    (λ _. let P : ℕ → Type 0 = λ n. Fits (Char n ∷ hs) (with_equal (Char n ∷ hs) marks.Bar marks.BarEqual) in at P c 124 h (fit_equal 124 hs marks.Bar marks.BarEqual refl refl)))
    (λ n2. let h : (c == 94) ≡ true = last_of (c == 38) (c == 124) (c == 94) any n1 n2 in
    let P : ℕ → Type 0 = λ n. Fits (Char n ∷ hs) (with_equal (Char n ∷ hs) marks.Caret marks.CaretEqual) in at P c 94 h (fit_equal 94 hs marks.Caret marks.CaretEqual refl refl)))
  where
    last_of : (x y z : Bool) → (x || y || z) ≡ true → x ≡ false → y ≡ false → z ≡ true
    last_of true y z e f g = cc
    last_of false true z e f g = cc
    last_of false false z e f g = e

fit_less : (hs : List Glyph) → Fits (Char 60 ∷ hs) (angle 60 (Char 60 ∷ hs))
fit_less hs =
    fit (Char 60 ∷ hs) (sees 60 (Char 60 ∷ hs) 1) _ _
    (λ seen. fit (Char 60 ∷ hs) (sees 61 (Char 60 ∷ hs) 2) _ _ (fit_three 60 60 61 hs marks.ShiftLeftEqual refl seen) (λ _. fit_two 60 60 hs marks.ShiftLeft refl seen))
    (λ _. fit_equal 60 hs marks.Less marks.LessEqual refl refl)

fit_greater : (hs : List Glyph) → Fits (Char 62 ∷ hs) (angle 62 (Char 62 ∷ hs))
fit_greater hs =
    fit (Char 62 ∷ hs) (sees 62 (Char 62 ∷ hs) 1) _ _
    (λ seen. fit (Char 62 ∷ hs) (sees 61 (Char 62 ∷ hs) 2) _ _ (fit_three 62 62 61 hs marks.ShiftRightEqual refl seen) (λ _. fit_two 62 62 hs marks.ShiftRight refl seen))
    (λ _. fit_equal 62 hs marks.Greater marks.GreaterEqual refl refl)

fit_angle : (c : ℕ) (hs : List Glyph) → (c == 60 || c == 62) ≡ true → Fits (Char c ∷ hs) (angle c (Char c ∷ hs))
fit_angle c hs any = by_case (or_cases (c == 60) (c == 62) any)
  where
    by_case : ((c == 60) ≡ true) ⊎ ((c == 62) ≡ true) → Fits (Char c ∷ hs) (angle c (Char c ∷ hs))
    by_case (inl h) = let P : ℕ → Type 0 = λ n. Fits (Char n ∷ hs) (angle n (Char n ∷ hs)) in at P c 60 h (fit_less hs)
    by_case (inr h) = let P : ℕ → Type 0 = λ n. Fits (Char n ∷ hs) (angle n (Char n ∷ hs)) in at P c 62 h (fit_greater hs)

fit_single : (c : ℕ) (hs : List Glyph) → FitsIf (Char c ∷ hs) (single c)
fit_single c hs =
    fit_if (Char c ∷ hs) (c == 126) _ _ (λ h. let P : ℕ → Type 0 = λ n. Fits (Char n ∷ hs) (marks.Tilde, 1) in at P c 126 h (fit_one 126 hs marks.Tilde refl))
    (λ _. fit_if (Char c ∷ hs) (c == 46) _ _ (λ h. let P : ℕ → Type 0 = λ n. Fits (Char n ∷ hs) (marks.Dot, 1) in at P c 46 h (fit_one 46 hs marks.Dot refl))
    (λ _. fit_if (Char c ∷ hs) (c == 58) _ _ (λ h. let P : ℕ → Type 0 = λ n. Fits (Char n ∷ hs) (marks.Colon, 1) in at P c 58 h (fit_one 58 hs marks.Colon refl))
    (λ _. fit_if (Char c ∷ hs) (c == 44) _ _ (λ h. let P : ℕ → Type 0 = λ n. Fits (Char n ∷ hs) (marks.Comma, 1) in at P c 44 h (fit_one 44 hs marks.Comma refl))
    (λ _. fit_if (Char c ∷ hs) (c == 59) _ _ (λ h. let P : ℕ → Type 0 = λ n. Fits (Char n ∷ hs) (marks.Semicolon, 1) in at P c 59 h (fit_one 59 hs marks.Semicolon refl))
    (λ _. fit_if (Char c ∷ hs) (c == 40) _ _ (λ h. let P : ℕ → Type 0 = λ n. Fits (Char n ∷ hs) (marks.LeftParen, 1) in at P c 40 h (fit_one 40 hs marks.LeftParen refl))
    (λ _. fit_if (Char c ∷ hs) (c == 41) _ _ (λ h. let P : ℕ → Type 0 = λ n. Fits (Char n ∷ hs) (marks.RightParen, 1) in at P c 41 h (fit_one 41 hs marks.RightParen refl))
    (λ _. fit_if (Char c ∷ hs) (c == 91) _ _ (λ h. let P : ℕ → Type 0 = λ n. Fits (Char n ∷ hs) (marks.LeftBracket, 1) in at P c 91 h (fit_one 91 hs marks.LeftBracket refl))
    (λ _. fit_if (Char c ∷ hs) (c == 93) _ _ (λ h. let P : ℕ → Type 0 = λ n. Fits (Char n ∷ hs) (marks.RightBracket, 1) in at P c 93 h (fit_one 93 hs marks.RightBracket refl))
    (λ _. fit_if (Char c ∷ hs) (c == 123) _ _ (λ h. let P : ℕ → Type 0 = λ n. Fits (Char n ∷ hs) (marks.LeftBrace, 1) in at P c 123 h (fit_one 123 hs marks.LeftBrace refl))
    (λ _. fit_if (Char c ∷ hs) (c == 125) _ _ (λ h. let P : ℕ → Type 0 = λ n. Fits (Char n ∷ hs) (marks.RightBrace, 1) in at P c 125 h (fit_one 125 hs marks.RightBrace refl))
    (λ _. fit_if (Char c ∷ hs) (c == 64) _ _ (λ h. let P : ℕ → Type 0 = λ n. Fits (Char n ∷ hs) (marks.At, 1) in at P c 64 h (fit_one 64 hs marks.At refl))
    (λ _. fit_if (Char c ∷ hs) (c == 36) _ _ (λ h. let P : ℕ → Type 0 = λ n. Fits (Char n ∷ hs) (marks.Dollar, 1) in at P c 36 h (fit_one 36 hs marks.Dollar refl))
    (λ _. tt)))))))))))))

pub mark_fits : (c : ℕ) (hs : List Glyph) → FitsIf (Char c ∷ hs) (mark_at c (Char c ∷ hs))
unfolding mark_at
mark_fits c hs =
    fit_if (Char c ∷ hs) (c == 43 || c == 45 || c == 47 || c == 37) _ _ (fit_arithmetic c hs)
    (λ _. fit_if (Char c ∷ hs) (c == 42) _ _ (λ h. let P : ℕ → Type 0 = λ n. Fits (Char n ∷ hs) (star (Char n ∷ hs)) in at P c 42 h (fit_star hs))
    (λ _. fit_if (Char c ∷ hs) (c == 38 || c == 124 || c == 94) _ _ (fit_bits c hs)
    (λ _. fit_if (Char c ∷ hs) (c == 60 || c == 62) _ _ (fit_angle c hs)
    (λ _. fit_if (Char c ∷ hs) (c == 61) _ _ (λ h. let P : ℕ → Type 0 = λ n. Fits (Char n ∷ hs) (with_equal (Char n ∷ hs) marks.Equal marks.EqualEqual) in at P c 61 h (fit_equal 61 hs marks.Equal marks.EqualEqual refl refl))
    (λ _. fit_if (Char c ∷ hs) (c == 33) _ _ (λ h. let P : ℕ → Type 0 = λ n. Fits (Char n ∷ hs) (with_equal (Char n ∷ hs) marks.Bang marks.BangEqual) in at P c 33 h (fit_equal 33 hs marks.Bang marks.BangEqual refl refl))
    (λ _. fit_if (Char c ∷ hs) (c == 46 && sees 46 (Char c ∷ hs) 1) _ _
    (λ both. let p = and_parts (c == 46) (sees 46 (Char c ∷ hs) 1) both in
    let P : ℕ → Type 0 = λ n. sees 46 (Char n ∷ hs) 1 ≡ true → Fits (Char n ∷ hs) (marks.DotDot, 2) in at P c 46 p.0 (fit_two 46 46 hs marks.DotDot refl) p.1)
    (λ _. fit_single c hs)))))))

-- ---- no longer mark stands there

abbrev IsAtLeast : ℕ → Option (Mark × ℕ) → Type 0
IsAtLeast k None = ⊥
IsAtLeast k (Some r) = k ≤ r.1

either : (k : ℕ) (b : Bool) (x y : Mark × ℕ) → k ≤ x.1 → k ≤ y.1 → k ≤ (cond b x y).1
either k true x y h g = h
either k false x y h g = g

dot_at_least : (r : List Glyph) → IsAtLeast 1 (mark_at 46 (Char 46 ∷ r))
unfolding mark_at
dot_at_least r = by_test (sees 46 (Char 46 ∷ r) 1)
  where
    by_test : (b : Bool) → IsAtLeast 1 (cond b (Some (marks.DotDot, 2)) (Some (marks.Dot, 1)))
    by_test true = omega arith
    by_test false = omega arith

at_least : (m : Mark) (r : List Glyph) → IsAtLeast (length (mark_text m)) (mark_at (slice_index (mark_text m) 0) (map Char (mark_text m) ++ r))
unfolding mark_at
at_least marks.Plus r = either 1 (sees 61 (Char 43 ∷ r) 1) _ _ (omega arith) (omega arith)
at_least marks.Minus r = either 1 (sees 62 (Char 45 ∷ r) 1) _ _ (omega arith) (either 1 (sees 61 (Char 45 ∷ r) 1) _ _ (omega arith) (omega arith))
at_least marks.Star r = either 1 (sees 42 (Char 42 ∷ r) 1) _ _ (either 1 (sees 61 (Char 42 ∷ r) 2) _ _ (omega arith) (omega arith)) (either 1 (sees 61 (Char 42 ∷ r) 1) _ _ (omega arith) (omega arith))
at_least marks.Slash r = either 1 (sees 61 (Char 47 ∷ r) 1) _ _ (omega arith) (omega arith)
at_least marks.Percent r = either 1 (sees 61 (Char 37 ∷ r) 1) _ _ (omega arith) (omega arith)
at_least marks.StarStar r = either 2 (sees 61 (Char 42 ∷ Char 42 ∷ r) 2) _ _ (omega arith) (omega arith)
at_least marks.Tilde r = omega arith
at_least marks.Ampersand r = either 1 (sees 38 (Char 38 ∷ r) 1) _ _ (omega arith) (either 1 (sees 61 (Char 38 ∷ r) 1) _ _ (omega arith) (omega arith))
at_least marks.Bar r = either 1 (sees 124 (Char 124 ∷ r) 1) _ _ (omega arith) (either 1 (sees 61 (Char 124 ∷ r) 1) _ _ (omega arith) (omega arith))
at_least marks.Caret r = either 1 (sees 61 (Char 94 ∷ r) 1) _ _ (omega arith) (omega arith)
at_least marks.ShiftLeft r = either 2 (sees 61 (Char 60 ∷ Char 60 ∷ r) 2) _ _ (omega arith) (omega arith)
at_least marks.ShiftRight r = either 2 (sees 61 (Char 62 ∷ Char 62 ∷ r) 2) _ _ (omega arith) (omega arith)
at_least marks.EqualEqual r = omega arith
at_least marks.BangEqual r = omega arith
at_least marks.Less r = either 1 (sees 60 (Char 60 ∷ r) 1) _ _ (either 1 (sees 61 (Char 60 ∷ r) 2) _ _ (omega arith) (omega arith)) (either 1 (sees 61 (Char 60 ∷ r) 1) _ _ (omega arith) (omega arith))
at_least marks.Greater r = either 1 (sees 62 (Char 62 ∷ r) 1) _ _ (either 1 (sees 61 (Char 62 ∷ r) 2) _ _ (omega arith) (omega arith)) (either 1 (sees 61 (Char 62 ∷ r) 1) _ _ (omega arith) (omega arith))
at_least marks.LessEqual r = omega arith
at_least marks.GreaterEqual r = omega arith
at_least marks.AndAnd r = omega arith
at_least marks.OrOr r = omega arith
at_least marks.Bang r = either 1 (sees 61 (Char 33 ∷ r) 1) _ _ (omega arith) (omega arith)
at_least marks.Equal r = either 1 (sees 61 (Char 61 ∷ r) 1) _ _ (omega arith) (omega arith)
at_least marks.PlusEqual r = omega arith
at_least marks.MinusEqual r = omega arith
at_least marks.StarEqual r = omega arith
at_least marks.SlashEqual r = omega arith
at_least marks.PercentEqual r = omega arith
at_least marks.StarStarEqual r = omega arith
at_least marks.ShiftLeftEqual r = omega arith
at_least marks.ShiftRightEqual r = omega arith
at_least marks.AmpersandEqual r = omega arith
at_least marks.BarEqual r = omega arith
at_least marks.CaretEqual r = omega arith
at_least marks.Arrow r = omega arith
at_least marks.Dot r = dot_at_least r
at_least marks.DotDot r = omega arith
at_least marks.Colon r = omega arith
at_least marks.Comma r = omega arith
at_least marks.Semicolon r = omega arith
at_least marks.LeftParen r = omega arith
at_least marks.RightParen r = omega arith
at_least marks.LeftBracket r = omega arith
at_least marks.RightBracket r = omega arith
at_least marks.LeftBrace r = omega arith
at_least marks.RightBrace r = omega arith
at_least marks.At r = omega arith
at_least marks.Dollar r = omega arith

no_longer_mark : (c n : ℕ) (hs : List Glyph) (m k : Mark) → mark_at c (Char c ∷ hs) ≡ Some (m, n) → BeginsWith (mark_text k) (Char c ∷ hs) → length (mark_text k) ≤ n
no_longer_mark c n hs m k e b =
    let least = at_least k b.0 in
    let P : List Glyph → Type 0 = λ t. IsAtLeast (length (mark_text k)) (mark_at (slice_index (mark_text k) 0) t) in
    let Q : ℕ → Type 0 = λ d. IsAtLeast (length (mark_text k)) (mark_at d (Char c ∷ hs)) in
    let R : Option (Mark × ℕ) → Type 0 = λ o. IsAtLeast (length (mark_text k)) o in
    subst R e (subst Q (first (mark_text k) (mark_not_empty k) b) (subst P (sym b.1) least))
  where
    first : (text : List ℕ) → 1 ≤ length text → BeginsWith text (Char c ∷ hs) → slice_index text 0 ≡ c
    first [] l b = absurd (omega arith)
    first (a ∷ text) l b = let e = b.1 in cc

pub mark_IsLongest : (c n : ℕ) (hs : List Glyph) (m : Mark) → mark_at c (Char c ∷ hs) ≡ Some (m, n) → length (mark_text m) ≡ n → begins_name c ≡ false → is_ascii_digit c ≡ false → opens_string c (Char c ∷ hs) ≡ false
    → IsLongest (mark_text m) (Char c ∷ hs)
mark_IsLongest c n hs m e l names digits opens longer kind more b w = by_kind kind w (head_is kind longer c hs b w)
  where
    by_kind : (k : TokenKind) → Writes k longer → HeadIs k c (Char c ∷ hs) → ⊥
    by_kind (kinds.Word t) w head = cc
    by_kind (kinds.Keyword k) w head = cc
    by_kind (kinds.Number t) w head = cc
    by_kind (kinds.Quoted t) w head = cc
    by_kind (kinds.Mark k) w head =
        let P : List ℕ → Type 0 = λ t. BeginsWith t (Char c ∷ hs) in
        let least = no_longer_mark c n hs m k e (subst P w b) in
        omega (arith, ap length w)
    by_kind kinds.Newline w head = head
    by_kind kinds.Indent w head = head
    by_kind kinds.Dedent w head = head
    by_kind kinds.End w head = head

dot_clear : (c : ℕ) (hs rest : List Glyph) (m : Mark) → Char c ∷ hs ≡ map Char (mark_text m) ++ rest → (c == 46 && is_digit (slice_get (Char c ∷ hs) 1)) ≡ false
    → mark_text m ≡ 46 ∷ [] → BeginsBy (IsDigit 10) rest → ⊥
dot_clear c hs rest m whole no_digit is k =
    let shown : Char c ∷ hs ≡ Char 46 ∷ rest = whole ∙ ap (λ t. map Char t ++ rest) is in
    let same : c ≡ 46 = cc in
    let tail : hs ≡ Char k.0 ∷ k.2.0 = let t : hs ≡ rest = cc in t ∙ k.2.1 in
    let digit : is_ascii_digit k.0 ≡ true = digit_from k.0 k.1 in
    let P : ℕ → Type 0 = λ n. (n == 46 && is_digit (slice_get (Char c ∷ hs) 1)) ≡ false in
    let Q : List Glyph → Type 0 = λ t. is_digit (slice_get t 0) ≡ false in
    let denied : is_ascii_digit k.0 ≡ false = subst Q tail (subst P same no_digit) in
    cc

pub mark_token : (c n : ℕ) (hs : List Glyph) (m : Mark) → mark_at c (Char c ∷ hs) ≡ Some (m, n) → begins_name c ≡ false → is_ascii_digit c ≡ false → opens_string c (Char c ∷ hs) ≡ false
    → (c == 46 && is_digit (slice_get (Char c ∷ hs) 1)) ≡ false → IsToken (kinds.Mark m) (Char c ∷ hs) (behind_mark n (Char c ∷ hs))
mark_token c n hs m e names digits opens dot =
    let P : Option (Mark × ℕ) → Type 0 = λ o. FitsIf (Char c ∷ hs) o in
    let fits = subst P e (mark_fits c hs) in
    let Q : List Glyph → Type 0 = λ t. IsLongest (mark_text m) t in
    (mark_text m, fits.0, (refl, subst Q fits.0 (mark_IsLongest c n hs m e fits.1 names digits opens), dot_clear c hs (behind_mark n (Char c ∷ hs)) m fits.0 dot))

-- the same, as the code shows it
pub mark_read : (m : Mark) (n : ℕ) (gs rest : List Glyph) → Some (starts.Mark m n) ≡ start_at gs → rest ≡ behind_mark n gs → IsToken (kinds.Mark m) gs rest
mark_read m n gs rest starts tail =
    let here = mark_here gs m n starts in
    let P : List Glyph → Type 0 = λ t. mark_at here.c t ≡ Some (m, n) in
    let Q : List Glyph → Type 0 = λ t. opens_string here.c t ≡ false in
    let R : List Glyph → Type 0 = λ t. (here.c == 46 && is_digit (slice_get t 1)) ≡ false in
    let token = mark_token here.c n (drop 1 gs) m (subst P here.head here.mark) here.names here.digits (subst Q here.head here.opens) (subst R here.head here.dot) in
    rw tail (subst (λ t. IsToken (kinds.Mark m) t (behind_mark n t)) (sym here.head) token)
