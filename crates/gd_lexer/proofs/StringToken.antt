-- The string that begins here is the longest token, or the fault that it is.
use Rattle.std.proofs.Common.{◌≡◌, ◌≢◌, ℕ, ◌≤◌, Bool, true, false, cond, List, [], ◌∷◌, ◌++◌, length, drop, slice_get, map, refl, ap, sym, ◌∙◌, arith, subst, inl, inr, append_assoc, length-append}
use Rattle.std.proofs.lemmas.Bool.Decides.{nat_tests}
use Rattle.std.proofs.lemmas.Bool.{eqb-true, eq-eqb}
use Rattle.std.proofs.lemmas.List.{map-append, append_cancel_left, length-map, length-replicate}
use Rattle.std.proofs.lemmas.List.Elements.{All-head}
use Rattle.std.specs.Prelude.{Option, Some, None, ◌||◌, ◌&&◌, ◌==◌, ◌⊎◌, nat_eq, replicate}
use Rattle.std.specs.List.{starts_with}
use Rattle.std.specs.Char.{is_ascii_digit}
use Rattle.unicode_ident.specs.Ident.{is_xid_start, is_xid_continue}
use Rattle.unicode_ident.proofs.IdentLemmas.{is_xid_start-ascii, is_xid_continue-ascii}
use Rattle.gd_syntax.specs.declared.pos.Pos.{Pos}
use Rattle.gd_syntax.specs.declared.token.TokenKind.{TokenKind}
use Rattle.gd_syntax.specs.declared.token.TokenKind.TheVariants as kinds
use Rattle.gd_rules.specs.declared.rule.Rule.{Rule}
use Rattle.gd_rules.specs.declared.rule.Rule.TheVariants as broken
use Rattle.gd_lexis.specs.declared.glyph.Glyph.{Glyph}
use Rattle.gd_lexis.specs.declared.glyph.Glyph.TheVariants.{Char, Bad}
use Rattle.gd_lexis.specs.Words.{IsName, GoesOn}
use Rattle.gd_lexis.specs.Strings as strings
use Rattle.gd_lexis.specs.Strings.{IsQuote, opening, closing, ends_here, begins_line_end, IsEscape, WritesString, Body, line_end, escape, kept, kept_line_end}
use Rattle.gd_lexis.specs.Pieces.{Piece, Writes, BeginsWith, IsLongest}
use Rattle.gd_lexis.specs.Faults.{Inside, nothing, plain, taken, Opens, IsWhole}
use Rattle.gd_lexer.specs.declared.lexer.Start.TheVariants as starts
use Rattle.gd_lexer.specs.declared.quoted.Quote.{Quote}
use Rattle.gd_lexer.specs.Cursor.{Spot, advanced, sees, is_char}
use Rattle.gd_lexer.specs.Escape.{Reading}
use Rattle.gd_lexer.specs.Quoted.{Steps, quote_of, quote_here, opened, behind_quote, mark_here, sees_three, three}
use Rattle.gd_lexer.specs.Start.{opens_string, start_at, start_by, is_digit}
use Rattle.gd_lexer.specs.Mark.{mark_at}
use Rattle.gd_lexer.specs.Token.{IsToken, IsBrokenAt, IsInner, IsInnerOf}
use Rattle.gd_lexis.specs.Faults.{Breaks}
use Rattle.gd_lexis.specs.Faultless.{IsStringFault}
use Rattle.gd_lexer.specs.declared.stop.Fault.{Fault}
use Rattle.gd_lexer.specs.Escape.{seen_fault}
use Rattle.std.specs.Prelude.{IfSome}
use Rattle.gd_lexer.proofs.Heads.{is_plain, head_is, HeadIs, closing_cons, opening_raw, opening_plain, keyword_IsName}
use Rattle.gd_lexer.proofs.MarkMeets.{char_is, head_seen}
use Rattle.gd_lexer.proofs.StartsLemmas.{not_marked}
use Rattle.gd_lexer.proofs.DecodeLemmas.{pick}
use Rattle.gd_lexer.proofs.EscapeMeets.{Goes, then_goes, goes_one, rest_of, not_mark, char_not, slash_not_mark, taken_walks, then_walks, Forth, letter_walks}
use Rattle.gd_lexer.proofs.StringMeets.{ends_of, count_of, IsMark, is_quote_of, three_marks, three_goes, Outcome, sound, wrong, IsWrong, Read, read_true, read_false}

-- ---- a string has one end

pub one_body : (q : strings.Quote) (xs ys u v : List Glyph) → IsQuote q → u ++ xs ≡ v ++ ys → BeginsWith (closing q) xs → BeginsWith (closing q) ys → Inside q xs u → Inside q ys v → u ≡ v
one_body q xs ys u v h e a b nothing nothing = refl
one_body q xs ys u v h e a b nothing (plain g gs other going i) = let P : List Glyph → Type 0 = λ k. BeginsWith (closing q) k in absurd (going (subst P e a))
one_body q xs ys u v h e a b nothing (taken g gs i) = let P : List Glyph → Type 0 = λ k. BeginsWith (closing q) k in absurd (not_mark q 92 (g ∷ (gs ++ ys)) h (slash_not_mark q h) (subst P e a))
one_body q xs ys u v h e a b (plain g gs other going i) nothing = let P : List Glyph → Type 0 = λ k. BeginsWith (closing q) k in absurd (going (subst P (sym e) b))
one_body q xs ys u v h e a b (plain g gs other going i) (plain k ks other2 going2 j) =
    let tail : gs ++ xs ≡ ks ++ ys = cc in let head : g ≡ k = cc in let more = one_body q xs ys gs ks h tail a b i j in cc
one_body q xs ys u v h e a b (plain g gs other going i) (taken k ks j) = let head : g ≡ Char 92 = cc in absurd (other head)
one_body q xs ys u v h e a b (taken g gs i) nothing = let P : List Glyph → Type 0 = λ k. BeginsWith (closing q) k in absurd (not_mark q 92 (g ∷ (gs ++ xs)) h (slash_not_mark q h) (subst P (sym e) b))
one_body q xs ys u v h e a b (taken g gs i) (plain k ks other going j) = let head : k ≡ Char 92 = cc in absurd (other head)
one_body q xs ys u v h e a b (taken g gs i) (taken k ks j) =
    let tail : gs ++ xs ≡ ks ++ ys = cc in let head : g ≡ k = cc in let more = one_body q xs ys gs ks h tail a b i j in cc

-- ---- the text of a string has such an inside

starts_with-is : (xs ys : List ℕ) (more : List Glyph) (rest : List Glyph) → length ys ≤ length xs → map Char xs ++ rest ≡ map Char ys ++ more → starts_with nat_eq xs ys ≡ true
starts_with-is xs [] more rest l e = refl
starts_with-is [] (y ∷ ys) more rest l e = absurd (omega arith)
starts_with-is (x ∷ xs) (y ∷ ys) more rest l e =
    let head : x ≡ y = cc in let tail : map Char xs ++ rest ≡ map Char ys ++ more = cc in
    let first : (y == x) ≡ true = eq-eqb y x (sym head) in
    rw (first, starts_with-is xs ys more rest (omega arith) tail) refl

no_end_here : (q : strings.Quote) (c : ℕ) (cs : List ℕ) (rest : List Glyph) → ends_here q (c ∷ cs) ≡ false → BeginsWith (closing q) (Char c ∷ (map Char cs ++ (map Char (closing q) ++ rest))) → ⊥
no_end_here q c cs rest e b =
    let whole : map Char ((c ∷ cs) ++ closing q) ++ rest ≡ map Char (closing q) ++ b.0 =
    ap (λ t. t ++ rest) (map-append Char (c ∷ cs) (closing q)) ∙ append_assoc (map Char (c ∷ cs)) (map Char (closing q)) rest ∙ b.1 in
    let yes = starts_with-is ((c ∷ cs) ++ closing q) (closing q) b.0 rest (omega (arith, length-append (c ∷ cs) (closing q))) whole in cc

feed_forth : Forth (Char 10 ∷ [])
feed_forth q rest gs h i = plain (Char 10) gs (char_not 10 92 (λ e. unequal 10 92 e refl refl)) (not_mark q 10 (gs ++ rest) h (differs h.0)) i
  where
    unequal : (m n : ℕ) → m ≡ n → m ≡ 10 → n ≡ 92 → ⊥
    unequal m n p a b = omega arith

    differs : (q.mark ≡ 34) ⊎ (q.mark ≡ 39) → 10 ≢ q.mark
    differs (inl f) e = omega arith
    differs (inr f) e = omega arith

cr_forth : (q : strings.Quote) (rest gs : List Glyph) → IsQuote q → Inside q rest gs → Inside q rest (Char 13 ∷ gs)
cr_forth q rest gs h i = plain (Char 13) gs (char_not 13 92 (λ e. unequal 13 92 e refl refl)) (not_mark q 13 (gs ++ rest) h (differs h.0)) i
  where
    unequal : (m n : ℕ) → m ≡ n → m ≡ 13 → n ≡ 92 → ⊥
    unequal m n p a b = omega arith

    differs : (q.mark ≡ 34) ⊎ (q.mark ≡ 39) → 13 ≢ q.mark
    differs (inl f) e = omega arith
    differs (inr f) e = omega arith

escape_forth : (e x : List ℕ) → IsEscape e x → Forth (map Char e)
escape_forth e x (inl h) = subst (λ t. Forth (map Char t)) (sym h.2) (taken_walks (Char h.0)).0
escape_forth e x (inr (inl h)) = by_end h.0
  where
    by_end : (e ≡ 92 ∷ 10 ∷ []) ⊎ (e ≡ 92 ∷ 13 ∷ 10 ∷ []) → Forth (map Char e)
    by_end (inl f) = subst (λ t. Forth (map Char t)) (sym f) (taken_walks (Char 10)).0
    by_end (inr f) = subst (λ t. Forth (map Char t)) (sym f) (λ q rest gs h i. taken (Char 13) (Char 10 ∷ gs) (feed_forth q rest gs h i))
escape_forth e x (inr (inr (inl h))) = subst (λ t. Forth (map Char t)) (sym h.2) (letter_walks 117 h.0 h.3.1).0
escape_forth e x (inr (inr (inr (inl h)))) = subst (λ t. Forth (map Char t)) (sym h.2) (letter_walks 85 h.0 h.3.1).0
escape_forth e x (inr (inr (inr (inr h)))) =
    let both = then_walks (Char 92 ∷ Char 117 ∷ map Char h.0) (Char 92 ∷ Char 117 ∷ map Char h.1) (letter_walks 117 h.0 h.5.1) (letter_walks 117 h.1 h.6.1) in
    subst (λ t. Forth (map Char t)) (sym h.4) (subst (λ w. Forth (Char 92 ∷ Char 117 ∷ w)) (sym (map-append Char h.0 (92 ∷ 117 ∷ h.1))) both.0)

pub body_inside : (q : strings.Quote) (cs t : List ℕ) (rest : List Glyph) → IsQuote q → Body q cs t → Inside q (map Char (closing q) ++ rest) (map Char cs)
body_inside q cs t rest h strings.nothing = nothing
body_inside q cs t rest h (strings.plain c ds u other going end b) = plain (Char c) (map Char ds) (char_not c 92 other) (no_end_here q c ds rest going) (body_inside q ds u rest h b)
body_inside q cs t rest h (line_end ds u b) = cr_forth q (map Char (closing q) ++ rest) (Char 10 ∷ map Char ds) h (feed_forth q (map Char (closing q) ++ rest) (map Char ds) h (body_inside q ds u rest h b))
body_inside q cs t rest h (escape e x ds u raw is b) =
    subst (λ w. Inside q (map Char (closing q) ++ rest) w) (sym (map-append Char e ds)) (escape_forth e x is q (map Char (closing q) ++ rest) (map Char ds) h (body_inside q ds u rest h b))
body_inside q cs t rest h (kept c ds u raw end b) = taken (Char c) (map Char ds) (body_inside q ds u rest h b)
body_inside q cs t rest h (kept_line_end ds u raw b) = taken (Char 13) (Char 10 ∷ map Char ds) (feed_forth q (map Char (closing q) ++ rest) (map Char ds) h (body_inside q ds u rest h b))

-- ---- how a string opens

-- the string opens here so
pub record Opened (s : Spot) : Type 0 where
  pub mark : IsMark (quote_of s)
  pub goes : Goes s (map Char (opening (ends_of (quote_of s)))) (opened s)
  pub opens : Opens (ends_of (quote_of s)) s.glyphs

abbrev mark_by : Bool → ℕ
mark_by a = cond a 34 39

mark_seen : (s : Spot) → ((sees 34 s.glyphs 0 ≡ true) ⊎ (sees 39 s.glyphs 0 ≡ true)) → ((mark_here s ≡ 34) ⊎ (mark_here s ≡ 39)) × (s.glyphs ≡ Char (mark_here s) ∷ drop 1 s.glyphs)
mark_seen s h = by_first (sees 34 s.glyphs 0) refl h
  where
    by_first : (a : Bool) → sees 34 s.glyphs 0 ≡ a → ((sees 34 s.glyphs 0 ≡ true) ⊎ (sees 39 s.glyphs 0 ≡ true)) → ((mark_by a ≡ 34) ⊎ (mark_by a ≡ 39)) × (s.glyphs ≡ Char (mark_by a) ∷ drop 1 s.glyphs)
    by_first true e k = (inl refl, head_seen s.glyphs (Char 34) (char_is (slice_get s.glyphs 0) 34 e))
    by_first false e (inl k) = cc
    by_first false e (inr k) = (inr refl, head_seen s.glyphs (Char 39) (char_is (slice_get s.glyphs 0) 39 k))

quote_goes : (raw : Bool) (s : Spot) → s.glyphs ≡ Char (mark_here s) ∷ drop 1 s.glyphs → Goes s (map Char (closing (ends_of (quote_here raw s)))) (behind_quote s)
quote_goes raw s e = by_three (sees_three (mark_here s) s) refl
  where
    seen : sees (mark_here s) s.glyphs 0 ≡ true
    seen = let P : List Glyph → Type 0 = λ k. sees (mark_here s) k 0 ≡ true in subst P (sym e) (eq-eqb (mark_here s) (mark_here s) refl)

    by_three : (b : Bool) → sees_three (mark_here s) s ≡ b → Goes s (map Char (replicate (count_of b) (mark_here s))) (cond b (three s) (advanced s))
    by_three true f = three_goes s (mark_here s) (three_marks (mark_here s) s.glyphs seen f)
    by_three false f = goes_one s (Char (mark_here s)) (drop 1 s.glyphs) e

three_denied : (m : ℕ) (b : Bool) (gs : List Glyph) → count_of b ≡ 1 → (sees m gs 1 && sees m gs 2) ≡ b → BeginsWith (m ∷ m ∷ m ∷ []) gs → ⊥
three_denied m true gs e f b = absurd (three_one (count_of true) e refl)
  where
    three_one : (n : ℕ) → n ≡ 1 → n ≡ 3 → ⊥
    three_one n x y = omega arith
three_denied m false gs e f b =
    let P : List Glyph → Type 0 = λ k. (sees m k 1 && sees m k 2) ≡ false in
    two_true (m == m) (eq-eqb m m refl) (subst P b.1 f)
  where
    two_true : (t : Bool) → t ≡ true → (t && t) ≡ false → ⊥
    two_true true x k = cc
    two_true false x k = cc

opened_by : (raw : Bool) (c : ℕ) (s : Spot) → (c == 114) ≡ raw → s.glyphs ≡ Char c ∷ drop 1 s.glyphs → opens_string c s.glyphs ≡ true → Opened s
unfolding quote_of opened
opened_by raw c s e whole h = by_raw (sees 114 s.glyphs 0) refl
  where
    known : sees 114 s.glyphs 0 ≡ (c == 114)
    known = ap (λ k. is_char (slice_get k 0) 114) whole

    seen_from : (a b : Bool) → (c == 34) ≡ a → (c == 39) ≡ b → (c == 114) ≡ false → ((c == 34 || c == 39 || (c == 114 && (sees 34 s.glyphs 1 || sees 39 s.glyphs 1))) ≡ true) → (sees 34 s.glyphs 0 ≡ true) ⊎ (sees 39 s.glyphs 0 ≡ true)
    seen_from true b x y z f = inl (ap (λ k. is_char (slice_get k 0) 34) whole ∙ x)
    seen_from false true x y z f = inr (ap (λ k. is_char (slice_get k 0) 39) whole ∙ y)
    seen_from false false x y z f = cc

    raw_seen : (a b : Bool) → sees 34 s.glyphs 1 ≡ a → sees 39 s.glyphs 1 ≡ b → c ≡ 114 → ((c == 34 || c == 39 || (c == 114 && (sees 34 s.glyphs 1 || sees 39 s.glyphs 1))) ≡ true) → (sees 34 (advanced s).glyphs 0 ≡ true) ⊎ (sees 39 (advanced s).glyphs 0 ≡ true)
    raw_seen true b x y z f = inl (ap (λ k. is_char (slice_get k 0) 34) (rest_of s (Char c) (drop 1 s.glyphs) whole) ∙ sym (ap (λ k. is_char (slice_get k 1) 34) whole) ∙ x)
    raw_seen false true x y z f = inr (ap (λ k. is_char (slice_get k 0) 39) (rest_of s (Char c) (drop 1 s.glyphs) whole) ∙ sym (ap (λ k. is_char (slice_get k 1) 39) whole) ∙ y)
    raw_seen false false x y z f = let P : ℕ → Type 0 = λ n. (n == 34 || n == 39 || (n == 114 && (sees 34 s.glyphs 1 || sees 39 s.glyphs 1))) ≡ true in let g = subst P z f in cc

    by_raw : (b : Bool) → sees 114 s.glyphs 0 ≡ b → Opened s
    by_raw true f =
        let letter : c ≡ 114 = eqb-true c 114 (sym known ∙ f) in
        let seen = mark_seen (advanced s) (raw_seen (sees 34 s.glyphs 1) (sees 39 s.glyphs 1) refl refl letter h) in
        let q : Quote = quote_here true (advanced s) in
        let same : quote_of s ≡ q = ap (λ b. quote_here b (cond b (advanced s) s)) f in
        let at : opened s ≡ behind_quote (advanced s) = ap (λ b. behind_quote (cond b (advanced s) s)) f in
        let behind = quote_goes true (advanced s) seen.1 in
        let whole_goes : Goes s (map Char (opening (ends_of q))) (behind_quote (advanced s)) =
        then_goes s (advanced s) (behind_quote (advanced s)) (Char 114 ∷ []) (map Char (closing (ends_of q))) (goes_one s (Char 114) (drop 1 s.glyphs) (whole ∙ ap (λ n. Char n ∷ drop 1 s.glyphs) letter)) behind in
        let shown : s.glyphs ≡ Char 114 ∷ (advanced s).glyphs = whole ∙ ap (λ n. Char n ∷ drop 1 s.glyphs) letter ∙ ap (λ t. Char 114 ∷ t) (sym (rest_of s (Char c) (drop 1 s.glyphs) whole)) in
        record {
          mark = subst IsMark (sym same) seen.0;
          goes = subst (λ t. Goes s (map Char (opening (ends_of (quote_of s)))) t) (sym at) (subst (λ p. Goes s (map Char (opening (ends_of p))) (behind_quote (advanced s))) (sym same) whole_goes);
          opens =
              subst (λ p. Opens (ends_of p) s.glyphs) (sym same) (
                is_quote_of q seen.0,
                ((behind_quote (advanced s)).glyphs, whole_goes.glyphs),
                (λ one b. three_denied q.mark (sees_three q.mark (advanced s)) (advanced s).glyphs one refl (b.0, (let both : Char 114 ∷ (advanced s).glyphs ≡ Char 114 ∷ (Char q.mark ∷ Char q.mark ∷ Char q.mark ∷ b.0) = sym shown ∙ b.1 in cc))),
              );
        }
    by_raw false f =
        let other : (c == 114) ≡ false = sym known ∙ f in
        let seen = mark_seen s (seen_from (c == 34) (c == 39) refl refl other h) in
        let q : Quote = quote_here false s in
        let same : quote_of s ≡ q = ap (λ b. quote_here b (cond b (advanced s) s)) f in
        let at : opened s ≡ behind_quote s = ap (λ b. behind_quote (cond b (advanced s) s)) f in
        let behind : Goes s (map Char (opening (ends_of q))) (behind_quote s) = quote_goes false s seen.1 in
        record {
          mark = subst IsMark (sym same) seen.0;
          goes = subst (λ t. Goes s (map Char (opening (ends_of (quote_of s)))) t) (sym at) (subst (λ p. Goes s (map Char (opening (ends_of p))) (behind_quote s)) (sym same) behind);
          opens =
              subst (λ p. Opens (ends_of p) s.glyphs) (sym same)
              (is_quote_of q seen.0, ((behind_quote s).glyphs, behind.glyphs), (λ one b. three_denied q.mark (sees_three q.mark s) s.glyphs one refl b));
        }

-- where a string begins
pub record StringHere (gs : List Glyph) : Type 0 where
  pub c : ℕ
  pub head : gs ≡ Char c ∷ drop 1 gs
  pub opens : opens_string c gs ≡ true
  pub digits : is_ascii_digit c ≡ false

string_by : (d : ℕ) (gs : List Glyph) → start_by d (Char d ∷ gs) ≡ Some starts.Quoted → StringHere (Char d ∷ gs)
string_by d gs e =
    pick _ (is_ascii_digit d) _ _ _ (λ _ f. cc)
    (λ digits. pick _ (opens_string d (Char d ∷ gs)) _ _ _ (λ opens _. record { c = d; head = refl; opens = opens; digits = digits })
    (λ _. pick _ (is_xid_start d || d == 95) _ _ _ (λ _ f. cc)
    (λ _. pick _ (d == 46 && is_digit (slice_get (Char d ∷ gs) 1)) _ _ _ (λ _ f. cc) (λ _ f. let m = not_marked (mark_at d (Char d ∷ gs)) starts.Quoted f in cc)))) e

pub string_here : (gs : List Glyph) → Some starts.Quoted ≡ start_at gs → StringHere gs
unfolding start_at
string_here [] e = cc
string_here (Bad b ∷ gs) e = cc
string_here (Char d ∷ gs) e = string_by d gs (sym e)

pub opened_here : (s : Spot) → Some starts.Quoted ≡ start_at s.glyphs → Opened s
opened_here s e = let here = string_here s.glyphs e in opened_by (here.c == 114) here.c s refl here.head here.opens

-- ---- what a whole string is

pub is_whole : (s : Spot) (r t : Reading) → (o : Opened s) → r.at ≡ opened s → (x : Read (quote_of s) r t) → IsWhole (ends_of (quote_of s)) x.body t.at.glyphs s.glyphs
is_whole s r t o at x =
    let q = ends_of (quote_of s) in
    (o.opens, o.goes.glyphs ∙ ap (λ k. map Char (opening q) ++ k) (ap (λ u. u.glyphs) (sym at) ∙ x.goes.glyphs ∙ append_assoc x.body (map Char (closing q)) t.at.glyphs), x.inside)

pub unterminated : (s : Spot) (r t : Reading) → Opened s → r.at ≡ opened s → Steps (quote_of s) r false t → IsBrokenAt broken.UnterminatedString s.glyphs
unterminated s r t o at steps =
    let q = ends_of (quote_of s) in
    λ before. (
      refl,
      (
        q,
        o.opens,
        λ body rest w.
            let same : map Char (opening q) ++ (opened s).glyphs ≡ map Char (opening q) ++ (body ++ (map Char (closing q) ++ rest)) = sym o.goes.glyphs ∙ w.1 in
            read_false (quote_of s) o.mark steps refl body rest (ap (λ u. u.glyphs) at ∙ append_cancel_left (map Char (opening q)) _ _ same) w.2,
      ),
    )

-- ---- no longer token begins

-- a string's text is its ends and what stands between
abbrev text_by : strings.Quote → List ℕ → List ℕ
text_by q body = opening q ++ body ++ closing q

escape_first : (e x : List ℕ) → IsEscape e x → (tail : List ℕ) × (e ≡ 92 ∷ tail)
escape_first e x (inl h) = (h.0 ∷ [], h.2)
escape_first e x (inr (inl h)) = by_end h.0
  where
    by_end : (e ≡ 92 ∷ 10 ∷ []) ⊎ (e ≡ 92 ∷ 13 ∷ 10 ∷ []) → (tail : List ℕ) × (e ≡ 92 ∷ tail)
    by_end (inl f) = (10 ∷ [], f)
    by_end (inr f) = (13 ∷ 10 ∷ [], f)
escape_first e x (inr (inr (inl h))) = (117 ∷ h.0, h.2)
escape_first e x (inr (inr (inr (inl h)))) = (85 ∷ h.0, h.2)
escape_first e x (inr (inr (inr (inr h)))) = (117 ∷ (h.0 ++ (92 ∷ 117 ∷ h.1)), h.4)

-- an empty string of one mark, or a body that the end does not follow at once
no_first_mark : (q : strings.Quote) (m : ℕ) (cs t : List ℕ) → IsQuote q → q.count ≡ 1 → q.mark ≡ m → Body q (m ∷ cs) t → ⊥
no_first_mark q m cs t h one same b = by_body (m ∷ cs) t refl b
  where
    differs : (n : ℕ) → m ≡ n → (n ≡ 92) ⊎ (n ≡ 13) → ⊥
    differs n e w = by_mark h.0 w
      where
        by_mark : (q.mark ≡ 34) ⊎ (q.mark ≡ 39) → (n ≡ 92) ⊎ (n ≡ 13) → ⊥
        by_mark (inl f) (inl g) = omega arith
        by_mark (inl f) (inr g) = omega arith
        by_mark (inr f) (inl g) = omega arith
        by_mark (inr f) (inr g) = omega arith

    shut : closing q ≡ m ∷ []
    shut = ap (λ n. replicate n q.mark) one ∙ ap (λ n. n ∷ []) same

    by_body : (xs u : List ℕ) → xs ≡ m ∷ cs → Body q xs u → ⊥
    by_body xs u e strings.nothing = cc
    by_body xs u e (strings.plain c ds v other going end k) =
        let first : c ≡ m = cc in
        let yes : ends_here q (c ∷ ds) ≡ true = rw (shut, eq-eqb m c (sym first)) refl in cc
    by_body xs u e (line_end ds v k) = let first : m ≡ 13 = cc in differs 13 first (inr refl)
    by_body xs u e (escape f x ds v raw is k) = let front = escape_first f x is in let shown : 92 ∷ (front.0 ++ ds) ≡ m ∷ cs = sym (ap (λ w. w ++ ds) front.1) ∙ e in let first : m ≡ 92 = cc in differs 92 first (inl refl)
    by_body xs u e (kept c ds v raw end k) = let first : m ≡ 92 = cc in differs 92 first (inl refl)
    by_body xs u e (kept_line_end ds v raw k) = let first : m ≡ 92 = cc in differs 92 first (inl refl)

abbrev made : Bool → ℕ → ℕ → strings.Quote
made raw m n = record { is_raw = raw; mark = m; count = n }

same_made : (a b : Bool) (m n k l : ℕ) → a ≡ b → m ≡ n → k ≡ l → made a m k ≡ made b n l
same_made a b m n k l e f g = rw (e, f, g) refl

-- what stands behind the `r` of a raw string, if there is one
abbrev Tail : strings.Quote → List ℕ → List ℕ
Tail q body = closing q ++ (body ++ closing q)

-- two strings that begin with the same mark, and of which the second is no longer
module _ (q p : strings.Quote) (cs ds t u : List ℕ) (rest more : List Glyph) (h : IsQuote q) (k : IsQuote p) (raw : p.is_raw ≡ q.is_raw) (a : Body q cs t) (b : Body p ds u)
    (single : q.count ≡ 1 → BeginsWith (q.mark ∷ q.mark ∷ q.mark ∷ []) (map Char (Tail q cs) ++ rest) → ⊥) (whole : map Char (Tail q cs) ++ rest ≡ map Char (Tail p ds) ++ more) where
  same_mark : q.mark ≡ p.mark
  same_mark =
      let x = closing_cons q h in let y = closing_cons p k in
      let shown : Char q.mark ∷ (map Char (x.0 ++ (cs ++ closing q)) ++ rest) ≡ Char p.mark ∷ (map Char (y.0 ++ (ds ++ closing p)) ++ more) =
      sym (ap (λ c. map Char (c ++ (cs ++ closing q)) ++ rest) x.1) ∙ whole ∙ ap (λ c. map Char (c ++ (ds ++ closing p)) ++ more) y.1 in cc

  alike : q.count ≡ p.count → length ds ≡ length cs
  alike count =
      let same : p ≡ q = one_quote p q (sym same_mark) (sym count) raw in
      let ends : closing p ≡ closing q = ap closing same in
      let behind : map Char (closing q) ++ (map Char (cs ++ closing q) ++ rest) ≡ map Char (closing q) ++ (map Char (ds ++ closing q) ++ more) =
      sym (ap (λ w. w ++ rest) (map-append Char (closing q) (cs ++ closing q)) ∙ append_assoc (map Char (closing q)) (map Char (cs ++ closing q)) rest) ∙ whole ∙ ap (λ c. map Char (c ++ (ds ++ c)) ++ more) ends
      ∙ ap (λ w. w ++ more) (map-append Char (closing q) (ds ++ closing q)) ∙ append_assoc (map Char (closing q)) (map Char (ds ++ closing q)) more in
      let inner = append_cancel_left (map Char (closing q)) _ _ behind in
      let bodies : map Char cs ++ (map Char (closing q) ++ rest) ≡ map Char ds ++ (map Char (closing q) ++ more) =
      sym (ap (λ w. w ++ rest) (map-append Char cs (closing q)) ∙ append_assoc (map Char cs) (map Char (closing q)) rest) ∙ inner ∙ ap (λ w. w ++ more) (map-append Char ds (closing q)) ∙ append_assoc (map Char ds) (map Char (closing q)) more in
      let P : strings.Quote → Type 0 = λ x. Body x ds u in
      let one = one_body q (map Char (closing q) ++ rest) (map Char (closing q) ++ more) (map Char cs) (map Char ds) h bodies (rest, refl) (more, refl) (body_inside q cs t rest h a) (body_inside q ds u more h (subst P same b)) in
      omega (arith, ap length one, length-map cs Char, length-map ds Char)
    where
      one_quote : (x y : strings.Quote) → x.mark ≡ y.mark → x.count ≡ y.count → x.is_raw ≡ y.is_raw → x ≡ y
      one_quote x y e f g = same_made x.is_raw y.is_raw x.mark y.mark x.count y.count g e f

  not_longer : length (Tail p ds) ≤ length (Tail q cs)
  not_longer = by_counts h.1 k.1
    where
      size : (x : strings.Quote) → length (closing x) ≡ x.count
      size x = length-replicate x.count x.mark

      by_counts : (q.count ≡ 1) ⊎ (q.count ≡ 3) → (p.count ≡ 1) ⊎ (p.count ≡ 3) → length (Tail p ds) ≤ length (Tail q cs)
      by_counts (inl e) (inl f) = let l = alike (e ∙ sym f) in omega (arith, length-append (closing p) (ds ++ closing p), length-append ds (closing p), length-append (closing q) (cs ++ closing q), length-append cs (closing q), size p, size q)
      by_counts (inr e) (inr f) = let l = alike (e ∙ sym f) in omega (arith, length-append (closing p) (ds ++ closing p), length-append ds (closing p), length-append (closing q) (cs ++ closing q), length-append cs (closing q), size p, size q)
      by_counts (inl e) (inr f) =
          let three : closing p ≡ q.mark ∷ q.mark ∷ q.mark ∷ [] = ap (λ n. replicate n p.mark) f ∙ ap (λ m. m ∷ m ∷ m ∷ []) (sym same_mark) in
          absurd (single e (map Char (ds ++ closing p) ++ more, whole ∙ ap (λ c. map Char (c ++ (ds ++ closing p)) ++ more) three))
      by_counts (inr e) (inl f) =
          let three : closing q ≡ p.mark ∷ p.mark ∷ p.mark ∷ [] = ap (λ n. replicate n q.mark) e ∙ ap (λ m. m ∷ m ∷ m ∷ []) same_mark in
          let one : closing p ≡ p.mark ∷ [] = ap (λ n. replicate n p.mark) f in
          let shown : Char p.mark ∷ Char p.mark ∷ Char p.mark ∷ (map Char (cs ++ closing q) ++ rest) ≡ Char p.mark ∷ (map Char (ds ++ closing p) ++ more) =
          sym (ap (λ c. map Char (c ++ (cs ++ closing q)) ++ rest) three) ∙ whole ∙ ap (λ c. map Char (c ++ (ds ++ closing p)) ++ more) one in
          let none = empty_body ds b f shown in
          omega (arith, length-append (closing p) (ds ++ closing p), length-append ds (closing p), length-append (closing q) (cs ++ closing q), length-append cs (closing q), size p, size q, ap length none)
        where
          empty_body : (xs : List ℕ) → Body p xs u → p.count ≡ 1 → Char p.mark ∷ Char p.mark ∷ Char p.mark ∷ (map Char (cs ++ closing q) ++ rest) ≡ Char p.mark ∷ (map Char (xs ++ closing p) ++ more) → xs ≡ []
          empty_body [] y f e = refl
          empty_body (x ∷ xs) y f e = let first : p.mark ≡ x = cc in absurd (no_first_mark p x xs u k f first y)

raw_text : (q : strings.Quote) (cs : List ℕ) → q.is_raw ≡ true → text_by q cs ≡ 114 ∷ Tail q cs
raw_text q cs e = append_assoc (opening q) cs (closing q) ∙ ap (λ o. o ++ (cs ++ closing q)) (opening_raw q e)

plain_text : (q : strings.Quote) (cs : List ℕ) → q.is_raw ≡ false → text_by q cs ≡ Tail q cs
plain_text q cs e = append_assoc (opening q) cs (closing q) ∙ ap (λ o. o ++ (cs ++ closing q)) (opening_plain q e)

-- the first of a string's ends is a mark
tail_first : (q : strings.Quote) (cs : List ℕ) → IsQuote q → (more : List ℕ) × (Tail q cs ≡ q.mark ∷ more)
tail_first q cs h = let x = closing_cons q h in (x.0 ++ (cs ++ closing q), ap (λ c. c ++ (cs ++ closing q)) x.1)

no_letter_mark : (q : strings.Quote) → IsQuote q → q.mark ≡ 114 → ⊥
no_letter_mark q h e = by_mark h.0
  where
    by_mark : (q.mark ≡ 34) ⊎ (q.mark ≡ 39) → ⊥
    by_mark (inl f) = omega arith
    by_mark (inr f) = omega arith

first_letter : (q : strings.Quote) (cs ts : List ℕ) (xs ys : List Glyph) → IsQuote q → map Char (114 ∷ ts) ++ xs ≡ map Char (Tail q cs) ++ ys → ⊥
first_letter q cs ts xs ys h e =
    let f = tail_first q cs h in
    let shown : Char 114 ∷ (map Char ts ++ xs) ≡ Char q.mark ∷ (map Char f.0 ++ ys) = e ∙ ap (λ t. map Char t ++ ys) f.1 in
    let same : q.mark ≡ 114 = cc in no_letter_mark q h same

opens_three : (q : strings.Quote) (gs : List Glyph) → Opens q gs → q.count ≡ 1 → BeginsWith (opening (made q.is_raw q.mark 3)) gs → ⊥
opens_three q gs o e b = o.2 e b

-- another string that begins here is no longer
string_no_longer : (q p : strings.Quote) (cs ds t u : List ℕ) (gs rest more : List Glyph) → Opens q gs → IsQuote p → Body q cs t → Body p ds u → gs ≡ map Char (text_by q cs) ++ rest → gs ≡ map Char (text_by p ds) ++ more
    → length (text_by p ds) ≤ length (text_by q cs)
string_no_longer q p cs ds t u gs rest more o k a b whole other = by_raw q.is_raw p.is_raw refl refl
  where
    by_raw : (x y : Bool) → q.is_raw ≡ x → p.is_raw ≡ y → length (text_by p ds) ≤ length (text_by q cs)
    by_raw true true e f =
        let one = raw_text q cs e in let two = raw_text p ds f in
        let both : Char 114 ∷ (map Char (Tail q cs) ++ rest) ≡ Char 114 ∷ (map Char (Tail p ds) ++ more) = sym (ap (λ w. map Char w ++ rest) one) ∙ sym whole ∙ other ∙ ap (λ w. map Char w ++ more) two in
        let tails : map Char (Tail q cs) ++ rest ≡ map Char (Tail p ds) ++ more = cc in
        let shorter =
        not_longer q p cs ds t u rest more o.0 k (f ∙ sym e) a b
        (λ single x. opens_three q gs o single (x.0, whole ∙ ap (λ w. map Char w ++ rest) one ∙ ap (λ w. Char 114 ∷ w) x.1 ∙ ap (λ w. map Char w ++ x.0) (sym (opening_raw (made q.is_raw q.mark 3) e)))) tails in
        omega (arith, ap length one, ap length two)
    by_raw true false e f =
        absurd (first_letter p ds (Tail q cs) rest more k (sym (ap (λ w. map Char w ++ rest) (raw_text q cs e)) ∙ sym whole ∙ other ∙ ap (λ w. map Char w ++ more) (plain_text p ds f)))
    by_raw false true e f =
        absurd (first_letter q cs (Tail p ds) more rest o.0 (sym (ap (λ w. map Char w ++ more) (raw_text p ds f)) ∙ sym other ∙ whole ∙ ap (λ w. map Char w ++ rest) (plain_text q cs e)))
    by_raw false false e f =
        let one = plain_text q cs e in let two = plain_text p ds f in
        let tails : map Char (Tail q cs) ++ rest ≡ map Char (Tail p ds) ++ more = sym (ap (λ w. map Char w ++ rest) one) ∙ sym whole ∙ other ∙ ap (λ w. map Char w ++ more) two in
        let shorter =
        not_longer q p cs ds t u rest more o.0 k (f ∙ sym e) a b
        (λ single x. opens_three q gs o single (x.0, whole ∙ ap (λ w. map Char w ++ rest) one ∙ x.1 ∙ ap (λ w. map Char w ++ x.0) (sym (opening_plain (made q.is_raw q.mark 3) e)))) tails in
        omega (arith, ap length one, ap length two)

-- a name that begins where a string does has one character
string_no_name : (longer : List ℕ) (c : ℕ) (hs rest : List Glyph) → opens_string c (Char c ∷ hs) ≡ true → IsName longer → 2 ≤ length longer → Char c ∷ hs ≡ map Char longer ++ rest → ⊥
string_no_name [] c hs rest h n l e = absurd n
string_no_name (a ∷ []) c hs rest h n l e = absurd (omega arith)
string_no_name (a ∷ b ∷ more) c hs rest h n l e =
    let first : c ≡ a = cc in
    let second : hs ≡ Char b ∷ (map Char more ++ rest) = cc in
    let P : List Glyph → Type 0 = λ k. (c == 34 || c == 39 || (c == 114 && (sees 34 (Char c ∷ k) 1 || sees 39 (Char c ∷ k) 1))) ≡ true in
    let Q : ℕ → Type 0 = λ n. (n == 34 || n == 39 || (n == 114 && (b == 34 || b == 39))) ≡ true in
    by_tests (a == 34) (a == 39) (b == 34) (b == 39) refl refl refl refl (subst Q first (subst P second h)) n.0 (All-head GoesOn b more n.1)
  where
    no_start : (d : ℕ) → (d ≡ 34) ⊎ (d ≡ 39) → (is_xid_start d || d == 95) ≡ true → ⊥
    no_start d (inl e) f = let ascii = is_xid_start-ascii d (omega arith) in grind (arith, nat_tests)
    no_start d (inr e) f = let ascii = is_xid_start-ascii d (omega arith) in grind (arith, nat_tests)

    no_goes : (d : ℕ) → (d ≡ 34) ⊎ (d ≡ 39) → is_xid_continue d ≡ true → ⊥
    no_goes d (inl e) f = let ascii = is_xid_continue-ascii d (omega arith) in grind (arith, nat_tests)
    no_goes d (inr e) f = let ascii = is_xid_continue-ascii d (omega arith) in grind (arith, nat_tests)

    by_tests : (w x y z : Bool) → (a == 34) ≡ w → (a == 39) ≡ x → (b == 34) ≡ y → (b == 39) ≡ z → (a == 34 || a == 39 || (a == 114 && (b == 34 || b == 39))) ≡ true → (is_xid_start a || a == 95) ≡ true → is_xid_continue b ≡ true → ⊥
    by_tests true x y z p q r s t u v = no_start a (inl (eqb-true a 34 p)) u
    by_tests false true y z p q r s t u v = no_start a (inr (eqb-true a 39 q)) u
    by_tests false false true z p q r s t u v = no_goes b (inl (eqb-true b 34 r)) v
    by_tests false false false true p q r s t u v = no_goes b (inr (eqb-true b 39 s)) v
    by_tests false false false false p q r s t u v = gone (a == 34) (a == 39) (b == 34) (b == 39) (a == 114) p q r s t
      where
        gone : (w x y z k : Bool) → w ≡ false → x ≡ false → y ≡ false → z ≡ false → (w || x || (k && (y || z))) ≡ true → ⊥
        gone true x y z k d e f g m = cc
        gone false true y z k d e f g m = cc
        gone false false true z k d e f g m = cc
        gone false false false true k d e f g m = cc
        gone false false false false true d e f g m = cc
        gone false false false false false d e f g m = cc

pub opens_first : (c : ℕ) (gs : List Glyph) → opens_string c gs ≡ true → (c ≡ 34) ⊎ ((c ≡ 39) ⊎ (c ≡ 114))
opens_first c gs h = by_tests (c == 34) (c == 39) (c == 114) refl refl refl h
  where
    by_tests : (x y z : Bool) → (c == 34) ≡ x → (c == 39) ≡ y → (c == 114) ≡ z → (c == 34 || c == 39 || (c == 114 && (sees 34 gs 1 || sees 39 gs 1))) ≡ true → (c ≡ 34) ⊎ ((c ≡ 39) ⊎ (c ≡ 114))
    by_tests true y z p q r s = inl (eqb-true c 34 p)
    by_tests false true z p q r s = inr (inl (eqb-true c 39 q))
    by_tests false false true p q r s = inr (inr (eqb-true c 114 r))
    by_tests false false false p q r s = cc

not_plain : (c : ℕ) → (c ≡ 34) ⊎ ((c ≡ 39) ⊎ (c ≡ 114)) → is_plain c ≡ true → ⊥
not_plain c (inl e) f = grind (arith, nat_tests)
not_plain c (inr (inl e)) f = grind (arith, nat_tests)
not_plain c (inr (inr e)) f = let ascii = is_xid_start-ascii c (omega arith) in grind (arith, nat_tests)

string_IsLongest : (q : strings.Quote) (cs t : List ℕ) (c : ℕ) (hs rest : List Glyph) → Opens q (Char c ∷ hs) → Body q cs t → opens_string c (Char c ∷ hs) ≡ true → is_ascii_digit c ≡ false → Char c ∷ hs ≡ map Char (text_by q cs) ++ rest
    → IsLongest (text_by q cs) (Char c ∷ hs)
string_IsLongest q cs t c hs rest o body h digits whole longer kind more b w = by_kind kind w (head_is kind longer c hs b w)
  where
    long : 2 ≤ length longer
    long = let x = closing_cons q o.0 in omega (arith, more, length-append (opening q ++ cs) (closing q), length-append (opening q) cs, ap length x.1, opening_size q)
      where
        opening_size : (p : strings.Quote) → length (closing p) ≤ length (opening p)
        opening_size p = by_raw p.is_raw refl
          where
            by_raw : (r : Bool) → p.is_raw ≡ r → length (closing p) ≤ length (opening p)
            by_raw true e = omega (arith, ap length (opening_raw p e))
            by_raw false e = omega (arith, ap length (opening_plain p e))

    by_kind : (k : TokenKind) → Writes k longer → HeadIs k c (Char c ∷ hs) → ⊥
    by_kind (kinds.Word n) x head = string_no_name longer c hs b.0 h x.0 long b.1
    by_kind (kinds.Keyword k) x head = let P : List ℕ → Type 0 = λ y. IsName y in string_no_name longer c hs b.0 h (subst P (sym x) (keyword_IsName k)) long b.1
    by_kind (kinds.Number n) x head = cc
    by_kind (kinds.Quoted u) x head =
        let other = string_no_longer q x.0 cs x.1 t u (Char c ∷ hs) rest b.0 o x.2 body x.4 whole (b.1 ∙ ap (λ y. map Char y ++ b.0) x.3) in
        omega (arith, ap length x.3)
    by_kind (kinds.Mark m) x head = not_plain c (opens_first c (Char c ∷ hs) h) head
    by_kind kinds.Newline x head = head
    by_kind kinds.Indent x head = head
    by_kind kinds.Dedent x head = head
    by_kind kinds.End x head = head

-- an empty string is not the front of three marks
string_IsClear : (q : strings.Quote) (cs : List ℕ) (gs rest : List Glyph) → Opens q gs → gs ≡ map Char (text_by q cs) ++ rest → (p : strings.Quote) → p.count ≡ 1 → text_by q cs ≡ opening p ++ closing p → BeginsWith (p.mark ∷ []) rest → ⊥
string_IsClear q cs gs rest o whole p one same b = by_count o.0.1
  where
    single : closing p ≡ p.mark ∷ []
    single = ap (λ n. replicate n p.mark) one

    size : (x : strings.Quote) → length (closing x) ≡ x.count
    size x = length-replicate x.count x.mark

    small : (y : Bool) → p.is_raw ≡ y → length (opening p ++ closing p) ≤ 3
    small true f = omega (arith, length-append (opening p) (closing p), ap length (opening_raw p f), size p, one)
    small false f = omega (arith, length-append (opening p) (closing p), ap length (opening_plain p f), size p, one)

    large : (y : Bool) → q.is_raw ≡ y → q.count ≡ 3 → 6 ≤ length (text_by q cs)
    large true f n = omega (arith, ap length (raw_text q cs f), length-append (closing q) (cs ++ closing q), length-append cs (closing q), size q, n)
    large false f n = omega (arith, ap length (plain_text q cs f), length-append (closing q) (cs ++ closing q), length-append cs (closing q), size q, n)

    -- behind the `r`, if there is one, the text is two marks
    two_marks : q.count ≡ 1 → Tail q cs ≡ p.mark ∷ p.mark ∷ [] → (q.mark ≡ p.mark) × (Tail q cs ≡ q.mark ∷ q.mark ∷ [])
    two_marks n e =
        let f = tail_first q cs o.0 in
        let shown : q.mark ∷ f.0 ≡ p.mark ∷ p.mark ∷ [] = sym f.1 ∙ e in
        let mark : q.mark ≡ p.mark = cc in
        (mark, e ∙ ap (λ m. m ∷ m ∷ []) (sym mark))

    three_begin : q.count ≡ 1 → (mark : q.mark ≡ p.mark) → (front : List ℕ) → text_by q cs ≡ front ++ (q.mark ∷ q.mark ∷ []) → gs ≡ map Char (front ++ (q.mark ∷ q.mark ∷ q.mark ∷ [])) ++ b.0
    three_begin n mark front e =
        let behind : rest ≡ Char q.mark ∷ b.0 = b.1 ∙ ap (λ m. Char m ∷ b.0) (sym mark) in
        whole ∙ ap (λ w. map Char w ++ rest) e ∙ ap (λ w. w ++ rest) (map-append Char front (q.mark ∷ q.mark ∷ [])) ∙ append_assoc (map Char front) (Char q.mark ∷ Char q.mark ∷ []) rest
        ∙ ap (λ w. map Char front ++ (Char q.mark ∷ Char q.mark ∷ w)) behind ∙ sym (append_assoc (map Char front) (Char q.mark ∷ Char q.mark ∷ Char q.mark ∷ []) b.0) ∙ ap (λ w. w ++ b.0) (sym (map-append Char front (q.mark ∷ q.mark ∷ q.mark ∷ [])))

    by_raw : (x y : Bool) → q.is_raw ≡ x → p.is_raw ≡ y → q.count ≡ 1 → ⊥
    by_raw true true e f n =
        let shown : 114 ∷ Tail q cs ≡ 114 ∷ p.mark ∷ p.mark ∷ [] = sym (raw_text q cs e) ∙ same ∙ ap (λ w. w ++ closing p) (opening_raw p f ∙ ap (λ w. 114 ∷ w) single) ∙ ap (λ w. 114 ∷ p.mark ∷ w) single in
        let tail : Tail q cs ≡ p.mark ∷ p.mark ∷ [] = cc in
        let two = two_marks n tail in
        opens_three q gs o n (b.0, three_begin n two.0 (114 ∷ []) (raw_text q cs e ∙ ap (λ w. 114 ∷ w) two.1) ∙ ap (λ w. map Char w ++ b.0) (sym (opening_raw (made q.is_raw q.mark 3) e)))
    by_raw true false e f n =
        let g = tail_first q cs o.0 in
        let shown : 114 ∷ q.mark ∷ g.0 ≡ p.mark ∷ p.mark ∷ [] = ap (λ w. 114 ∷ w) (sym g.1) ∙ sym (raw_text q cs e) ∙ same ∙ ap (λ w. w ++ closing p) (opening_plain p f ∙ single) ∙ ap (λ w. p.mark ∷ w) single in
        let first : 114 ≡ p.mark = cc in let second : q.mark ≡ p.mark = cc in no_letter_mark q o.0 (second ∙ sym first)
    by_raw false true e f n =
        let g = tail_first q cs o.0 in
        let shown : q.mark ∷ g.0 ≡ 114 ∷ p.mark ∷ p.mark ∷ [] = sym g.1 ∙ sym (plain_text q cs e) ∙ same ∙ ap (λ w. w ++ closing p) (opening_raw p f ∙ ap (λ w. 114 ∷ w) single) ∙ ap (λ w. 114 ∷ p.mark ∷ w) single in
        let first : q.mark ≡ 114 = cc in no_letter_mark q o.0 first
    by_raw false false e f n =
        let tail : Tail q cs ≡ p.mark ∷ p.mark ∷ [] = sym (plain_text q cs e) ∙ same ∙ ap (λ w. w ++ closing p) (opening_plain p f ∙ single) ∙ ap (λ w. p.mark ∷ w) single in
        let two = two_marks n tail in
        opens_three q gs o n (b.0, three_begin n two.0 [] (plain_text q cs e ∙ two.1) ∙ ap (λ w. map Char w ++ b.0) (sym (opening_plain (made q.is_raw q.mark 3) e)))

    by_count : (q.count ≡ 1) ⊎ (q.count ≡ 3) → ⊥
    by_count (inl n) = by_raw q.is_raw p.is_raw refl refl n
    by_count (inr n) = let l = large q.is_raw refl n in let k = small p.is_raw refl in omega (arith, ap length same)

-- ---- the token or the fault that the string is

pub string_token : (s : Spot) (r t : Reading) → Some starts.Quoted ≡ start_at s.glyphs → r.at ≡ opened s → r.chars ≡ [] → r.fault ≡ None → Steps (quote_of s) r true t → t.fault ≡ None → IsToken (kinds.Quoted t.chars) s.glyphs t.at.glyphs
string_token s r t e at none clean steps sound_end =
    let here = string_here s.glyphs e in
    let o = opened_here s e in
    let x = read_true (quote_of s) o.mark steps refl in
    by_outcome here o x (x.what clean)
  where
    q : strings.Quote
    q = ends_of (quote_of s)

    by_outcome : StringHere s.glyphs → Opened s → (x : Read (quote_of s) r t) → Outcome (quote_of s) r t x.body → IsToken (kinds.Quoted t.chars) s.glyphs t.at.glyphs
    by_outcome here o x (sound codes text whole chars fault body) =
        let w = is_whole s r t o at x in
        let shown : s.glyphs ≡ map Char (opening (ends_of (quote_of s)) ++ codes ++ closing (ends_of (quote_of s))) ++ t.at.glyphs =
        w.1 ∙ ap (λ k. map Char (opening (ends_of (quote_of s))) ++ (k ++ (map Char (closing (ends_of (quote_of s))) ++ t.at.glyphs))) whole ∙ joined (opening (ends_of (quote_of s))) codes (closing (ends_of (quote_of s))) t.at.glyphs in
        let same : t.chars ≡ text = chars ∙ ap (λ k. k ++ text) none in
        let P : List Glyph → Type 0 = λ k. Opens (ends_of (quote_of s)) k in
        let Q : List Glyph → Type 0 = λ k. opens_string here.c k ≡ true in
        let longest = string_IsLongest (ends_of (quote_of s)) codes text here.c (drop 1 s.glyphs) t.at.glyphs (subst P here.head o.opens) body (subst Q here.head here.opens) here.digits (sym here.head ∙ shown) in
        let R : List Glyph → Type 0 = λ k. IsLongest (opening (ends_of (quote_of s)) ++ codes ++ closing (ends_of (quote_of s))) k in (
          opening (ends_of (quote_of s)) ++ codes ++ closing (ends_of (quote_of s)),
          shown,
          (
            (ends_of (quote_of s), codes, is_quote_of (quote_of s) o.mark, refl, subst (λ k. Body (ends_of (quote_of s)) codes k) (sym same) body),
            subst R (sym here.head ∙ shown) longest,
            string_IsClear (ends_of (quote_of s)) codes s.glyphs t.at.glyphs o.opens shown,
          ),
        )
      where
        joined : (a b c : List ℕ) (gs : List Glyph) → map Char a ++ (map Char b ++ (map Char c ++ gs)) ≡ map Char (a ++ b ++ c) ++ gs
        joined a b c gs =
            sym (append_assoc (map Char a) (map Char b) (map Char c ++ gs)) ∙ ap (λ k. k ++ (map Char c ++ gs)) (sym (map-append Char a b)) ∙ sym (append_assoc (map Char (a ++ b)) (map Char c) gs) ∙ ap (λ k. k ++ gs) (sym (map-append Char (a ++ b) c))
    by_outcome here o x (wrong front place rule goes fault w clean_front) = let f : None ≡ Some (place.pos, rule) = sym sound_end ∙ fault in cc

-- ---- a fault inside

broken_inside : (q : Quote) (rule : Rule) (gs body rest front : List Glyph) → IsWhole (ends_of q) body rest gs → IsWrong q rule front body rest → (before : List Piece) → Breaks rule before gs (map Char (opening (ends_of q)) ++ front)
broken_inside q broken.NotUtf8 gs body rest front w x before =
    let o = map Char (opening (ends_of q)) in
    let tail = map Char (closing (ends_of q)) ++ rest in
    let shown : gs ≡ (o ++ front) ++ Bad x.0 ∷ (x.1.0 ++ tail) =
    w.1 ∙ ap (λ k. o ++ (k ++ tail)) x.1.1 ∙ ap (λ k. o ++ k) (append_assoc front (Bad x.0 ∷ x.1.0) tail) ∙ sym (append_assoc o front (Bad x.0 ∷ (x.1.0 ++ tail))) in (
      x.0,
      x.1.0 ++ tail,
      shown,
      inr (inr (ends_of q, body, rest, front, w, refl, omega (arith, length-append o front, length-map (opening (ends_of q)) Char, ap length x.1.1, length-append front (Bad x.0 ∷ x.1.0)))),
    )
broken_inside q broken.BadEscape gs body rest front w x before = (ends_of q, body, rest, front, x.0, w, x.1.0, refl, x.1.1, x.1.2, x.1.3, x.1.4)
broken_inside q _ gs body rest front w x before = absurd x

-- the glyph with which it is wrong
glyph_inside : (q : Quote) (rule : Rule) (gs body rest front : List Glyph) → IsWhole (ends_of q) body rest gs → IsWrong q rule front body rest
    → (g : Glyph) × (back : List Glyph) × (gs ≡ (map Char (opening (ends_of q)) ++ front) ++ g ∷ back) × IsStringFault rule g
glyph_inside q broken.NotUtf8 gs body rest front w x =
    let o = map Char (opening (ends_of q)) in
    let tail = map Char (closing (ends_of q)) ++ rest in
    let shown : gs ≡ (o ++ front) ++ Bad x.0 ∷ (x.1.0 ++ tail) =
    w.1 ∙ ap (λ k. o ++ (k ++ tail)) x.1.1 ∙ ap (λ k. o ++ k) (append_assoc front (Bad x.0 ∷ x.1.0) tail) ∙ sym (append_assoc o front (Bad x.0 ∷ (x.1.0 ++ tail))) in
    (Bad x.0, x.1.0 ++ tail, shown, (x.0, refl))
glyph_inside q broken.BadEscape gs body rest front w x =
    let o = map Char (opening (ends_of q)) in
    (Char 92, x.0, w.1 ∙ ap (λ k. o ++ k) x.1.1 ∙ sym (append_assoc o front (Char 92 ∷ x.0)), refl)
glyph_inside q _ gs body rest front w x = absurd x

pub string_inner : (s : Spot) (r t : Reading) (pos : Pos) (rule : Rule) → Some starts.Quoted ≡ start_at s.glyphs → r.at ≡ opened s → r.fault ≡ None → Steps (quote_of s) r true t → t.fault ≡ Some (pos, rule) → IsInner s pos rule
string_inner s r t pos rule e at clean steps found =
    let o = opened_here s e in
    let x = read_true (quote_of s) o.mark steps refl in
    by_outcome o x (x.what clean)
  where
    by_outcome : Opened s → (x : Read (quote_of s) r t) → Outcome (quote_of s) r t x.body → IsInner s pos rule
    by_outcome o x (sound codes text whole chars fault body) = let f : None ≡ Some (pos, rule) = sym fault ∙ found in cc
    by_outcome o x (wrong front place other goes fault w clean_front) =
        let both : Some (place.pos, other) ≡ Some (pos, rule) = sym fault ∙ found in
        let pair : ◌≡◌ {A = Pos × Rule} (place.pos, other) (pos, rule) = cc in
        let same_pos : place.pos ≡ pos = ap (λ (p : Pos × Rule). p.0) pair in
        let same_rule : other ≡ rule = ap (λ (p : Pos × Rule). p.1) pair in
        let P : Rule → Type 0 = λ k. (before : List Piece) → Breaks k before s.glyphs (map Char (opening (ends_of (quote_of s))) ++ front) in
        let Q : Spot → Type 0 = λ k. Goes k front place in
        let over = then_goes s (opened s) place (map Char (opening (ends_of (quote_of s)))) front o.goes (subst Q at goes) in
        let whole = is_whole s r t o at x in
        let seen = glyph_inside (quote_of s) other s.glyphs x.body t.at.glyphs front whole w in
        let R : Rule → Type 0 = λ k. IsStringFault k seen.0 in
        record {
          string = record { quote = ends_of (quote_of s); body = x.body; rest = t.at.glyphs; whole = whole };
          front = front;
          clean = clean_front;
          glyph = seen.0;
          back = seen.1;
          split = seen.2;
          wrong = subst R same_rule seen.3;
          broken = subst P same_rule (broken_inside (quote_of s) other s.glyphs x.body t.at.glyphs front whole w);
          place = λ file before here. sym same_pos ∙ over.place file before here;
        }

seen_none : (o : Option Fault) → o ≡ None → seen_fault o ≡ None
seen_none o e = ap seen_fault e

-- the same, as the code shows it
pub quoted_inner : (s : Spot) (r t : Reading) (o : Option Fault) (text : List ℕ) → Some starts.Quoted ≡ start_at s.glyphs → r.at ≡ opened s → r.fault ≡ None → Steps (quote_of s) r true t → t.fault ≡ seen_fault o → IfSome o (IsInnerOf (kinds.Quoted text) s)
quoted_inner s r t None text e at clean steps found = tt
quoted_inner s r t (Some f) text e at clean steps found = (tt, string_inner s r t f.pos f.rule e at clean steps found)

pub quoted_token : (s : Spot) (r t : Reading) (o : Option Fault) (text : List ℕ) → Some starts.Quoted ≡ start_at s.glyphs → r.at ≡ opened s → r.chars ≡ [] → r.fault ≡ None → Steps (quote_of s) r true t → t.fault ≡ seen_fault o → text ≡ t.chars → o ≡ None
    → IsToken (kinds.Quoted text) s.glyphs t.at.glyphs
quoted_token s r t o text e at none clean steps found same empty =
    subst (λ k. IsToken (kinds.Quoted k) s.glyphs t.at.glyphs) (sym same) (string_token s r t e at none clean steps (found ∙ seen_none o empty))
