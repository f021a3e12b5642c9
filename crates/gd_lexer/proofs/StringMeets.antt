-- The string that is read is the one that begins there.
use Rattle.std.proofs.Common.{◌≡◌, ◌≢◌, ℕ, suc, ◌+◌, ◌<◌, ◌≤◌, Bool, true, false, cond, List, [], ◌∷◌, ◌++◌, length, drop, slice_get, map, refl, ap, sym, ◌∙◌, arith, subst, inl, inr, append_assoc, length-append}
use Rattle.std.proofs.lemmas.Bool.{eqb-true, eqb-false, eq-eqb, and_parts}
use Rattle.std.proofs.lemmas.List.{append-nil, map-append, append_cancel_left, length-map, nil_from_length}
use Rattle.std.specs.Prelude.{Option, Some, None, ◌||◌, ◌&&◌, ◌==◌, ◌⊎◌, nat_eq, replicate}
use Rattle.std.specs.List.{starts_with}
use Rattle.gd_syntax.specs.declared.pos.Pos.{Pos}
use Rattle.gd_rules.specs.declared.rule.Rule.{Rule}
use Rattle.gd_rules.specs.declared.rule.Rule.TheVariants.{BadEscape, NotUtf8}
use Rattle.gd_lexis.specs.declared.glyph.Glyph.{Glyph}
use Rattle.gd_lexis.specs.declared.glyph.Glyph.TheVariants.{Char, Bad}
use Rattle.gd_lexis.specs.Strings as strings
use Rattle.gd_lexis.specs.Strings.{IsQuote, opening, closing, ends_here, begins_line_end, IsEscape, Body, line_end, escape, kept_line_end}
use Rattle.gd_lexis.specs.Pieces.{BeginsWith}
use Rattle.gd_lexis.specs.Faults.{Inside, nothing, taken, Parts, no_more, itself, whole_escape}
use Rattle.gd_lexis.specs.Faultless.{Clean, no_more as clean_end, itself as clean_char, whole_escape as clean_escape, in_raw as clean_raw}
use Rattle.gd_lexis.specs.Faults as faults
use Rattle.gd_lexer.specs.declared.quoted.Quote.{Quote}
use Rattle.gd_lexer.specs.Cursor.{Spot, advanced, sees, is_char}
use Rattle.gd_lexer.specs.Escape.{Reading, moved, pushed, or_fault, plain, kept, kept_glyph, escaped, escaped_glyph, escaped_by, is_line_end, after_line_end, character}
use Rattle.gd_lexer.specs.Quoted.{Steps, open_end, end, step, closed, step_by, is_backslash, sees_three, three}
use Rattle.gd_lexer.proofs.Heads.{closing_cons}
use Rattle.gd_lexer.proofs.MarkMeets.{char_is, head_seen}
use Rattle.gd_lexer.proofs.EscapeMeets.{Goes, stay, then_goes, goes_one, rest_of, EscapeBy, character_is, not_mark, char_not, Walks, Left, taken_walks, plain_back}

abbrev pub count_of : Bool → ℕ
count_of triple = cond triple 3 1

abbrev pub ends_of : Quote → strings.Quote
ends_of q = record { is_raw = q.is_raw; mark = q.mark; count = count_of q.is_triple }

abbrev pub IsMark : Quote → Type 0
IsMark q = (q.mark ≡ 34) ⊎ (q.mark ≡ 39)

pub is_quote_of : (q : Quote) → IsMark q → IsQuote (ends_of q)
is_quote_of q h = (h, by_count q.is_triple)
  where
    by_count : (b : Bool) → (count_of b ≡ 1) ⊎ (count_of b ≡ 3)
    by_count true = inr refl
    by_count false = inl refl

low_not_mark : (q : Quote) (c : ℕ) → IsMark q → c < 34 → c ≢ q.mark
low_not_mark q c (inl e) small same = omega arith
low_not_mark q c (inr e) small same = omega arith

-- ---- where a string ends

starts_is : (xs ys : List ℕ) → starts_with nat_eq xs ys ≡ true → (more : List ℕ) × (xs ≡ ys ++ more)
starts_is xs [] e = (xs, refl)
starts_is [] (y ∷ ys) e = cc
starts_is (x ∷ xs) (y ∷ ys) e =
    let p = and_parts (y == x) (starts_with nat_eq xs ys) e in
    let same : y ≡ x = eqb-true y x p.0 in
    let found = starts_is xs ys p.1 in
    let tail = found.1 in
    (found.0, cc)

-- no end stands before a text that the end follows
goes_on_here : (q : strings.Quote) (c : ℕ) (cs : List ℕ) (hs rest : List Glyph) → (BeginsWith (closing q) (Char c ∷ hs) → ⊥) → hs ≡ map Char cs ++ (map Char (closing q) ++ rest) → ends_here q (c ∷ cs) ≡ false
goes_on_here q c cs hs rest going e = by_test (ends_here q (c ∷ cs)) refl
  where
    by_test : (b : Bool) → ends_here q (c ∷ cs) ≡ b → b ≡ false
    by_test false f = refl
    by_test true f =
        let found = starts_is ((c ∷ cs) ++ closing q) (closing q) f in
        let whole : Char c ∷ hs ≡ map Char ((c ∷ cs) ++ closing q) ++ rest = ap (λ t. Char c ∷ t) (e ∙ sym (append_assoc (map Char cs) (map Char (closing q)) rest)) ∙ ap (λ t. t ++ rest) (sym (map-append Char (c ∷ cs) (closing q))) in
        absurd (going (map Char found.0 ++ rest, whole ∙ ap (λ t. map Char t ++ rest) found.1 ∙ ap (λ t. t ++ rest) (map-append Char (closing q) found.0) ∙ append_assoc (map Char (closing q)) (map Char found.0) rest))

no_line_end_here : (q : strings.Quote) (c : ℕ) (cs : List ℕ) (hs rest : List Glyph) → (c == 13 && sees 10 (Char c ∷ hs) 1) ≡ false → hs ≡ map Char cs ++ (map Char (closing q) ++ rest) → begins_line_end (c ∷ cs) ≡ false
no_line_end_here q c [] hs rest e f = by_first (c == 13)
  where
    by_first : (b : Bool) → (b && false) ≡ false
    by_first true = refl
    by_first false = refl
no_line_end_here q c (d ∷ cs) hs rest e f =
    let seen : sees 10 (Char c ∷ hs) 1 ≡ (d == 10) = ap (λ t. is_char (slice_get t 0) 10) f in
    ap (λ b. c == 13 && b) (sym seen) ∙ e

-- ---- one step

-- What one step went over. Behind it the string can go on in every way that it could before.
record Stepped (q : Quote) (r t : Reading) : Type 0 where
  over : List Glyph
  goes : Goes r.at over t.at
  walks : (rest gs : List Glyph) → gs ++ rest ≡ t.at.glyphs → Inside (ends_of q) rest gs → Inside (ends_of q) rest (over ++ gs)
  back : (rest body : List Glyph) → body ++ rest ≡ r.at.glyphs → BeginsWith (closing (ends_of q)) rest → Inside (ends_of q) rest body → Left (ends_of q) rest body over
  shorter : 1 ≤ length over

-- nothing was wrong
record Fine (q : Quote) (r t : Reading) (over : List Glyph) : Type 0 where
  codes : List ℕ
  text : List ℕ
  whole : over ≡ map Char codes
  chars : t.chars ≡ r.chars ++ text
  fault : t.fault ≡ r.fault
  body : (cs u : List ℕ) (rest : List Glyph) → t.at.glyphs ≡ map Char cs ++ (map Char (closing (ends_of q)) ++ rest) → Body (ends_of q) cs u → Body (ends_of q) (codes ++ cs) (text ++ u)
  parts : q.is_raw ≡ false → (rest gs : List Glyph) → Parts rest gs → Parts rest (over ++ gs)
  clean : (gs : List Glyph) → Clean (ends_of q) gs → Clean (ends_of q) (over ++ gs)

-- a byte was wrong
record WrongByte (q : Quote) (r t : Reading) (over : List Glyph) : Type 0 where
  front : List Glyph
  byte : ℕ
  whole : over ≡ front ++ Bad byte ∷ []
  clean : Clean (ends_of q) front
  at : Spot
  goes : Goes r.at front at
  fault : t.fault ≡ or_fault r.fault (at.pos, NotUtf8)

-- no escape began
record WrongEscape (q : Quote) (r t : Reading) (over : List Glyph) : Type 0 where
  raw : q.is_raw ≡ false
  back : List Glyph
  whole : r.at.glyphs ≡ Char 92 ∷ back
  none : (e x : List ℕ) → IsEscape e x → BeginsWith e (Char 92 ∷ back) → ⊥
  fault : t.fault ≡ or_fault r.fault (r.at.pos, BadEscape)

data Done (q : Quote) (r t : Reading) : Type 0 where
  at_end : length r.at.glyphs ≡ 1 → t.at.glyphs ≡ [] → t.fault ≡ r.fault → Done q r t
  fine : (s : Stepped q r t) → Fine q r t s.over → Done q r t
  wrong_byte : (s : Stepped q r t) → WrongByte q r t s.over → Done q r t
  wrong_escape : (s : Stepped q r t) → WrongEscape q r t s.over → Done q r t

bad_not_char : (b c : ℕ) → Bad b ≡ Char c → ⊥
bad_not_char b c e = cc

shown_at : (s : Spot) (g : Glyph) (hs gs rest : List Glyph) → s.glyphs ≡ g ∷ hs → gs ++ rest ≡ (advanced s).glyphs → g ∷ (gs ++ rest) ≡ g ∷ hs
shown_at s g hs gs rest e f = ap (λ t. g ∷ t) (f ∙ rest_of s g hs e)

plain_walks : (q : Quote) (s : Spot) (g : Glyph) (hs : List Glyph) → s.glyphs ≡ g ∷ hs → g ≢ Char 92 → (BeginsWith (closing (ends_of q)) (g ∷ hs) → ⊥)
    → (rest gs : List Glyph) → gs ++ rest ≡ (advanced s).glyphs → Inside (ends_of q) rest gs → Inside (ends_of q) rest (g ∷ gs)
plain_walks q s g hs e other going rest gs f i =
    let P : List Glyph → Type 0 = λ k. BeginsWith (closing (ends_of q)) k → ⊥ in
    faults.plain g gs other (subst P (sym (shown_at s g hs gs rest e f)) going) i

-- the line feed of a line end is passed over
feed_walks : (q : Quote) → IsMark q → (rest gs : List Glyph) → Inside (ends_of q) rest gs → Inside (ends_of q) rest (Char 10 ∷ gs)
feed_walks q h rest gs i = faults.plain (Char 10) gs (char_not 10 92 (λ e. unequal 10 92 e refl refl)) (not_mark (ends_of q) 10 (gs ++ rest) (is_quote_of q h) (low_not_mark q 10 h (omega arith))) i
  where
    unequal : (m n : ℕ) → m ≡ n → m ≡ 10 → n ≡ 92 → ⊥
    unequal m n p a b = omega arith

feed_back : (q : Quote) → IsMark q → (rest body gs : List Glyph) → body ++ rest ≡ Char 10 ∷ gs → BeginsWith (closing (ends_of q)) rest → Inside (ends_of q) rest body → Left (ends_of q) rest body (Char 10 ∷ [])
feed_back q h rest body gs e b i = plain_back (ends_of q) rest body (Char 10) gs (char_not 10 92 (λ x. unequal 10 92 x refl refl)) (not_mark (ends_of q) 10 gs (is_quote_of q h) (low_not_mark q 10 h (omega arith))) e b i
  where
    unequal : (m n : ℕ) → m ≡ n → m ≡ 10 → n ≡ 92 → ⊥
    unequal m n p a b = omega arith

taken_one : (q : Quote) → IsMark q → (g : Glyph) (ks : List Glyph) (s : Spot) → s.glyphs ≡ Char 92 ∷ g ∷ ks → (rest body : List Glyph) → body ++ rest ≡ s.glyphs → BeginsWith (closing (ends_of q)) rest → Inside (ends_of q) rest body
    → Left (ends_of q) rest body (Char 92 ∷ g ∷ [])
taken_one q h g ks s e rest body k x i = (taken_walks g).1 (ends_of q) rest body ks (is_quote_of q h) (k ∙ e) x i

taken_feed : (q : Quote) → IsMark q → (ks : List Glyph) (s : Spot) → s.glyphs ≡ Char 92 ∷ Char 13 ∷ Char 10 ∷ ks → (rest body : List Glyph) → body ++ rest ≡ s.glyphs → BeginsWith (closing (ends_of q)) rest → Inside (ends_of q) rest body
    → Left (ends_of q) rest body (Char 92 ∷ Char 13 ∷ Char 10 ∷ [])
taken_feed q h ks s e rest body k x i =
    let one = taken_one q h (Char 13) (Char 10 ∷ ks) s e rest body k x i in
    let tail : one.more ++ rest ≡ Char 10 ∷ ks = let shown : Char 92 ∷ Char 13 ∷ (one.more ++ rest) ≡ Char 92 ∷ Char 13 ∷ Char 10 ∷ ks = ap (λ t. t ++ rest) (sym one.whole) ∙ k ∙ e in cc in
    let two = feed_back q h rest one.more ks tail x one.inside in
    record { more = two.more; whole = one.whole ∙ ap (λ t. Char 92 ∷ Char 13 ∷ t) two.whole; inside = two.inside }

two_goes : (s : Spot) (g h : Glyph) (hs : List Glyph) → s.glyphs ≡ g ∷ h ∷ hs → Goes s (g ∷ h ∷ []) (advanced (advanced s))
two_goes s g h hs e = then_goes s (advanced s) (advanced (advanced s)) (g ∷ []) (h ∷ []) (goes_one s g (h ∷ hs) e) (goes_one (advanced s) h hs (rest_of s g (h ∷ hs) e))

sees_next : (g : Glyph) (hs : List Glyph) (c : ℕ) → sees c (g ∷ hs) 1 ≡ true → hs ≡ Char c ∷ drop 1 hs
sees_next g hs c e = head_seen hs (Char c) (char_is (slice_get hs 0) c e)

not_slash : (c : ℕ) → (c == 92) ≡ false → Char c ≢ Char 92
not_slash c e = char_not c 92 (eqb-false c 92 e)

plain_done : (q : Quote) (r : Reading) (g : Glyph) (hs : List Glyph) → IsMark q → r.at.glyphs ≡ g ∷ hs → is_backslash g ≡ false → (BeginsWith (closing (ends_of q)) (g ∷ hs) → ⊥) → Done q r (plain g r)
unfolding plain
plain_done q r (Bad b) hs h e slash going =
    wrong_byte (record { over = Bad b ∷ []; goes = goes_one r.at (Bad b) hs e; walks = plain_walks q r.at (Bad b) hs e (bad_not_char b 92) going; back = λ rest body k x i. plain_back (ends_of q) rest body (Bad b) hs (bad_not_char b 92) going (k ∙ e) x i; shorter = omega arith })
    (record { front = []; byte = b; whole = refl; clean = clean_end; at = r.at; goes = stay r.at; fault = refl })
plain_done q r (Char c) hs h e slash going = by_test (c == 13 && sees 10 r.at.glyphs 1) refl
  where
    by_test : (b : Bool) → (c == 13 && sees 10 r.at.glyphs 1) ≡ b → Done q r (cond b (pushed 10 (advanced (advanced r.at)) r) (pushed c (advanced r.at) r))
    by_test true f =
        let p = and_parts (c == 13) (sees 10 r.at.glyphs 1) f in
        let cr : c ≡ 13 = eqb-true c 13 p.0 in
        let P : List Glyph → Type 0 = λ k. sees 10 k 1 ≡ true in
        let next = sees_next (Char c) hs 10 (subst P e p.1) in
        let whole : r.at.glyphs ≡ Char 13 ∷ Char 10 ∷ drop 1 hs = e ∙ ap (λ n. Char n ∷ hs) cr ∙ ap (λ t. Char 13 ∷ t) next in
        let Q : List Glyph → Type 0 = λ k. BeginsWith (closing (ends_of q)) k → ⊥ in
        let unended = subst Q (sym e ∙ whole) going in
        fine
        (record {
          over = Char 13 ∷ Char 10 ∷ [];
          goes = two_goes r.at (Char 13) (Char 10) (drop 1 hs) whole;
          walks = λ rest gs k i.
              let rest2 = rest_of (advanced r.at) (Char 10) (drop 1 hs) (rest_of r.at (Char 13) (Char 10 ∷ drop 1 hs) whole) in
              faults.plain (Char 13) (Char 10 ∷ gs) (char_not 13 92 (λ x. unequal 13 92 x refl refl))
              (subst Q (ap (λ t. Char 13 ∷ Char 10 ∷ t) (sym (k ∙ rest2))) unended) (feed_walks q h rest gs i);
          back = λ rest body k x i.
              let one = plain_back (ends_of q) rest body (Char 13) (Char 10 ∷ drop 1 hs) (char_not 13 92 (λ y. unequal 13 92 y refl refl)) unended (k ∙ whole) x i in
              let tail : one.more ++ rest ≡ Char 10 ∷ drop 1 hs = let shown : Char 13 ∷ (one.more ++ rest) ≡ Char 13 ∷ Char 10 ∷ drop 1 hs = ap (λ t. t ++ rest) (sym one.whole) ∙ k ∙ whole in cc in
              let two = feed_back q h rest one.more (drop 1 hs) tail x one.inside in
              record { more = two.more; whole = one.whole ∙ ap (λ t. Char 13 ∷ t) two.whole; inside = two.inside };
          shorter = omega arith;
        })
        (record {
          codes = 13 ∷ 10 ∷ [];
          text = 10 ∷ [];
          whole = refl;
          chars = refl;
          fault = refl;
          body = λ cs u rest k b. line_end cs u b;
          parts = λ raw rest gs p. itself (Char 13) (Char 10 ∷ gs) (char_not 13 92 (λ x. unequal 13 92 x refl refl)) (itself (Char 10) gs (char_not 10 92 (λ x. unequal2 10 92 x refl refl)) p);
          clean = λ gs k. clean_char 13 (Char 10 ∷ gs) (λ x. unequal 13 92 x refl refl) (clean_char 10 gs (λ x. unequal2 10 92 x refl refl) k);
        })
      where
        unequal : (m n : ℕ) → m ≡ n → m ≡ 13 → n ≡ 92 → ⊥
        unequal m n x a b = omega arith

        unequal2 : (m n : ℕ) → m ≡ n → m ≡ 10 → n ≡ 92 → ⊥
        unequal2 m n x a b = omega arith
    by_test false f =
        let P : List Glyph → Type 0 = λ k. (c == 13 && sees 10 k 1) ≡ false in
        let other = not_slash c slash in
        fine
        (record { over = Char c ∷ []; goes = goes_one r.at (Char c) hs e; walks = plain_walks q r.at (Char c) hs e other going; back = λ rest body k x i. plain_back (ends_of q) rest body (Char c) hs other going (k ∙ e) x i; shorter = omega arith })
        (record {
          codes = c ∷ [];
          text = c ∷ [];
          whole = refl;
          chars = refl;
          fault = refl;
          body = λ cs u rest k b.
              let tail : hs ≡ map Char cs ++ (map Char (closing (ends_of q)) ++ rest) = sym (rest_of r.at (Char c) hs e) ∙ k in
              strings.plain c cs u (eqb-false c 92 slash) (goes_on_here (ends_of q) c cs hs rest going tail) (no_line_end_here (ends_of q) c cs hs rest (subst P e f) tail) b;
          parts = λ raw rest gs p. itself (Char c) gs other p;
          clean = λ gs k. clean_char c gs (eqb-false c 92 slash) k;
        })

-- ---- a backslash

slash_goes : (r : Reading) (hs : List Glyph) → r.at.glyphs ≡ Char 92 ∷ hs → (advanced r.at).glyphs ≡ hs
slash_goes r hs e = rest_of r.at (Char 92) hs e

behind_slash : (s t : Spot) (hs over : List Glyph) → s.glyphs ≡ Char 92 ∷ hs → Goes (advanced s) over t → Goes s (Char 92 ∷ over) t
behind_slash s t hs over e g = then_goes s (advanced s) t (Char 92 ∷ []) over (goes_one s (Char 92) hs e) g

kept_done : (q : Quote) (r : Reading) (hs : List Glyph) → IsMark q → q.is_raw ≡ true → r.at.glyphs ≡ Char 92 ∷ hs → Done q r (kept r)
unfolding kept plain
kept_done q r [] h raw e =
    let P : Option Glyph → Type 0 = λ o. Done q r (kept_glyph o (pushed 92 (advanced r.at) r)) in
    subst P (sym (ap (λ t. slice_get t 0) (slash_goes r [] e))) (at_end (ap length e) (slash_goes r [] e) refl)
kept_done q r (Bad b ∷ ks) h raw e =
    let tail = slash_goes r (Bad b ∷ ks) e in
    let P : Option Glyph → Type 0 = λ o. Done q r (kept_glyph o (pushed 92 (advanced r.at) r)) in
    subst P (sym (ap (λ t. slice_get t 0) tail))
    (wrong_byte
    (record { over = Char 92 ∷ Bad b ∷ []; goes = behind_slash r.at (advanced (advanced r.at)) (Bad b ∷ ks) (Bad b ∷ []) e (goes_one (advanced r.at) (Bad b) ks tail); walks = λ rest gs k i. taken (Bad b) gs i; back = taken_one q h (Bad b) ks r.at e; shorter = omega arith })
    (record { front = Char 92 ∷ []; byte = b; whole = refl; clean = clean_raw 92 [] raw clean_end; at = advanced r.at; goes = goes_one r.at (Char 92) (Bad b ∷ ks) e; fault = refl }))
kept_done q r (Char c ∷ ks) h raw e =
    let tail = slash_goes r (Char c ∷ ks) e in
    let P : Option Glyph → Type 0 = λ o. Done q r (kept_glyph o (pushed 92 (advanced r.at) r)) in
    subst P (sym (ap (λ t. slice_get t 0) tail)) (by_test (c == 13 && sees 10 (advanced r.at).glyphs 1) refl)
  where
    tail : (advanced r.at).glyphs ≡ Char c ∷ ks
    tail = slash_goes r (Char c ∷ ks) e

    by_test : (b : Bool) → (c == 13 && sees 10 (advanced r.at).glyphs 1) ≡ b
        → Done q r (cond b (pushed 10 (advanced (advanced (advanced r.at))) (pushed 92 (advanced r.at) r)) (pushed c (advanced (advanced r.at)) (pushed 92 (advanced r.at) r)))
    by_test true f =
        let p = and_parts (c == 13) (sees 10 (advanced r.at).glyphs 1) f in
        let cr : c ≡ 13 = eqb-true c 13 p.0 in
        let Q : List Glyph → Type 0 = λ k. sees 10 k 1 ≡ true in
        let next = sees_next (Char c) ks 10 (subst Q tail p.1) in
        let whole : (advanced r.at).glyphs ≡ Char 13 ∷ Char 10 ∷ drop 1 ks = tail ∙ ap (λ n. Char n ∷ ks) cr ∙ ap (λ t. Char 13 ∷ t) next in
        fine
        (record {
          over = Char 92 ∷ Char 13 ∷ Char 10 ∷ [];
          goes = behind_slash r.at (advanced (advanced (advanced r.at))) (Char c ∷ ks) (Char 13 ∷ Char 10 ∷ []) e (two_goes (advanced r.at) (Char 13) (Char 10) (drop 1 ks) whole);
          walks = λ rest gs k i. taken (Char 13) (Char 10 ∷ gs) (feed_walks q h rest gs i);
          back = taken_feed q h (drop 1 ks) r.at (e ∙ ap (λ t. Char 92 ∷ t) (sym tail ∙ whole));
          shorter = omega arith;
        })
        (record {
          codes = 92 ∷ 13 ∷ 10 ∷ [];
          text = 92 ∷ 10 ∷ [];
          whole = refl;
          chars = append_assoc r.chars (92 ∷ []) (10 ∷ []);
          fault = refl;
          body = λ cs u rest k b. kept_line_end cs u raw b;
          parts = λ no_raw rest gs p. cc;
          clean = λ gs k. clean_raw 92 (Char 13 ∷ Char 10 ∷ gs) raw (clean_raw 13 (Char 10 ∷ gs) raw (clean_raw 10 gs raw k));
        })
    by_test false f =
        let Q : List Glyph → Type 0 = λ k. (c == 13 && sees 10 k 1) ≡ false in
        fine
        (record { over = Char 92 ∷ Char c ∷ []; goes = behind_slash r.at (advanced (advanced r.at)) (Char c ∷ ks) (Char c ∷ []) e (goes_one (advanced r.at) (Char c) ks tail); walks = λ rest gs k i. taken (Char c) gs i; back = taken_one q h (Char c) ks r.at e; shorter = omega arith })
        (record {
          codes = 92 ∷ c ∷ [];
          text = 92 ∷ c ∷ [];
          whole = refl;
          chars = append_assoc r.chars (92 ∷ []) (c ∷ []);
          fault = refl;
          body = λ cs u rest k b.
              let more : ks ≡ map Char cs ++ (map Char (closing (ends_of q)) ++ rest) = sym (rest_of (advanced r.at) (Char c) ks tail) ∙ k in
              strings.kept c cs u raw (no_line_end_here (ends_of q) c cs ks rest (subst Q tail f) more) b;
          parts = λ no_raw rest gs p. cc;
          clean = λ gs k. clean_raw 92 (Char c ∷ gs) raw (clean_raw c gs raw k);
        })

escape_fine : (q : Quote) (r t : Reading) (e x : List ℕ) (over : List Glyph) → q.is_raw ≡ false → IsEscape e x → over ≡ map Char e → t.chars ≡ r.chars ++ x → t.fault ≡ r.fault → Fine q r t over
escape_fine q r t e x over raw is whole chars fault = record {
  codes = e;
  text = x;
  whole = whole;
  chars = chars;
  fault = fault;
  body = λ cs u rest k b. escape e x cs u raw is b;
  parts = λ _ rest gs p. let P : List Glyph → Type 0 = λ w. Parts rest (w ++ gs) in subst P (sym whole) (whole_escape e x gs is p);
  clean = λ gs k. let P : List Glyph → Type 0 = λ w. Clean (ends_of q) (w ++ gs) in subst P (sym whole) (clean_escape e x gs raw is k);
}

bad_begins_none : (b : ℕ) (ks : List Glyph) (e x : List ℕ) → IsEscape e x → BeginsWith e (Char 92 ∷ Bad b ∷ ks) → ⊥
bad_begins_none b ks e x is begins = by_escape is
  where
    second : (a : ℕ) (tail : List ℕ) → e ≡ 92 ∷ a ∷ tail → ⊥
    second a tail f = let shown : Char 92 ∷ Bad b ∷ ks ≡ Char 92 ∷ Char a ∷ (map Char tail ++ begins.0) = begins.1 ∙ ap (λ t. map Char t ++ begins.0) f in let g : Bad b ≡ Char a = cc in cc

    by_escape : IsEscape e x → ⊥
    by_escape (inl h) = second h.0 [] h.2
    by_escape (inr (inl h)) = by_end h.0
      where
        by_end : (e ≡ 92 ∷ 10 ∷ []) ⊎ (e ≡ 92 ∷ 13 ∷ 10 ∷ []) → ⊥
        by_end (inl f) = second 10 [] f
        by_end (inr f) = second 13 (10 ∷ []) f
    by_escape (inr (inr (inl h))) = second 117 h.0 h.2
    by_escape (inr (inr (inr (inl h)))) = second 85 h.0 h.2
    by_escape (inr (inr (inr (inr h)))) = second 117 (h.0 ++ (92 ∷ 117 ∷ h.1)) h.4

escaped_done : (q : Quote) (r : Reading) (hs : List Glyph) → IsMark q → q.is_raw ≡ false → r.at.glyphs ≡ Char 92 ∷ hs → Done q r (escaped r)
unfolding escaped
escaped_done q r hs h raw e = by_end (is_line_end s) refl
  where
    s : Spot
    s = advanced r.at

    tail : (advanced r.at).glyphs ≡ hs
    tail = slash_goes r hs e

    feed : sees 10 (advanced r.at).glyphs 0 ≡ true → Done q r (moved (advanced (advanced r.at)) r)
    feed f =
        let next = head_seen (advanced r.at).glyphs (Char 10) (char_is (slice_get (advanced r.at).glyphs 0) 10 f) in
        fine
        (record { over = Char 92 ∷ Char 10 ∷ []; goes = behind_slash r.at (advanced (advanced r.at)) hs (Char 10 ∷ []) e (goes_one (advanced r.at) (Char 10) _ next); walks = λ rest gs k i. taken (Char 10) gs i; back = taken_one q h (Char 10) _ r.at (e ∙ ap (λ t. Char 92 ∷ t) (sym tail ∙ next)); shorter = omega arith })
        (escape_fine q r (moved (advanced (advanced r.at)) r) (92 ∷ 10 ∷ []) [] (Char 92 ∷ Char 10 ∷ []) raw (inr (inl (inl refl, refl))) refl (sym (append-nil r.chars)) refl)

    crlf : sees 13 (advanced r.at).glyphs 0 ≡ true → sees 10 (advanced r.at).glyphs 1 ≡ true → Done q r (moved (advanced (advanced (advanced r.at))) r)
    crlf f g =
        let first = head_seen (advanced r.at).glyphs (Char 13) (char_is (slice_get (advanced r.at).glyphs 0) 13 f) in
        let P : List Glyph → Type 0 = λ k. sees 10 k 1 ≡ true in
        let next = sees_next (Char 13) (drop 1 (advanced r.at).glyphs) 10 (subst P first g) in
        let whole : (advanced r.at).glyphs ≡ Char 13 ∷ Char 10 ∷ drop 1 (drop 1 (advanced r.at).glyphs) = first ∙ ap (λ t. Char 13 ∷ t) next in
        fine
        (record { over = Char 92 ∷ Char 13 ∷ Char 10 ∷ []; goes = behind_slash r.at (advanced (advanced (advanced r.at))) hs (Char 13 ∷ Char 10 ∷ []) e (two_goes (advanced r.at) (Char 13) (Char 10) _ whole); walks = λ rest gs k i. taken (Char 13) (Char 10 ∷ gs) (feed_walks q h rest gs i); back = taken_feed q h _ r.at (e ∙ ap (λ t. Char 92 ∷ t) (sym tail ∙ whole)); shorter = omega arith })
        (escape_fine q r (moved (advanced (advanced (advanced r.at))) r) (92 ∷ 13 ∷ 10 ∷ []) [] (Char 92 ∷ Char 13 ∷ Char 10 ∷ []) raw (inr (inl (inr refl, refl))) refl (sym (append-nil r.chars)) refl)

    walk_with : (over : List Glyph) → ((p : strings.Quote) (rest gs : List Glyph) → IsQuote p → Inside p rest gs → Inside p rest (over ++ gs)) → (t : Spot) → (rest gs : List Glyph) → gs ++ rest ≡ t.glyphs → Inside (ends_of q) rest gs → Inside (ends_of q) rest (over ++ gs)
    walk_with over w t rest gs k i = w (ends_of q) rest gs (is_quote_of q h) i

    back_with : (over : List Glyph) → Walks over → (t : Spot) → Goes r.at over t → (rest body : List Glyph) → body ++ rest ≡ r.at.glyphs → BeginsWith (closing (ends_of q)) rest → Inside (ends_of q) rest body → Left (ends_of q) rest body over
    back_with over w t g rest body k x i = w.1 (ends_of q) rest body t.glyphs (is_quote_of q h) (k ∙ g.glyphs) x i

    by_found : (c : ℕ) (ks : List Glyph) (o : Option ℕ) (t : Spot) → hs ≡ Char c ∷ ks → EscapeBy (advanced r.at) o t → Done q r (escaped_by r.at.pos o t r)
    by_found c ks (Some d) t f x =
        fine
        (record { over = Char 92 ∷ map Char x.text; goes = behind_slash r.at t hs (map Char x.text) e x.goes; walks = walk_with (Char 92 ∷ map Char x.text) x.walks.0 t; back = back_with (Char 92 ∷ map Char x.text) x.walks t (behind_slash r.at t hs (map Char x.text) e x.goes); shorter = omega arith })
        (escape_fine q r (pushed d t r) (92 ∷ x.text) (d ∷ []) (Char 92 ∷ map Char x.text) raw x.escape refl refl refl)
    by_found c ks None t f x =
        let P : List Glyph → Type 0 = λ k. (y z : List ℕ) → IsEscape y z → BeginsWith y (Char 92 ∷ k) → ⊥ in
        wrong_escape
        (record { over = Char 92 ∷ x.over; goes = behind_slash r.at t hs x.over e x.goes; walks = walk_with (Char 92 ∷ x.over) x.walks.0 t; back = back_with (Char 92 ∷ x.over) x.walks t (behind_slash r.at t hs x.over e x.goes); shorter = omega arith })
        (record { raw = raw; back = hs; whole = e; none = subst P tail x.none; fault = refl })

    by_glyph : (o : Option Glyph) → slice_get (advanced r.at).glyphs 0 ≡ o → is_line_end (advanced r.at) ≡ false → Done q r (escaped_glyph r.at.pos o (advanced r.at) r)
    by_glyph None f g = at_end (ap length e ∙ ap (λ t. suc (length t)) (sym tail ∙ nothing_left (advanced r.at).glyphs f)) (nothing_left (advanced r.at).glyphs f) refl
      where
        nothing_left : (gs : List Glyph) → slice_get gs 0 ≡ None → gs ≡ []
        nothing_left [] k = refl
        nothing_left (x ∷ gs) k = cc
    by_glyph (Some (Bad b)) f g =
        let next = head_seen (advanced r.at).glyphs (Bad b) f in
        let P : List Glyph → Type 0 = λ k. (y z : List ℕ) → IsEscape y z → BeginsWith y (Char 92 ∷ k) → ⊥ in
        wrong_escape
        (record { over = Char 92 ∷ Bad b ∷ []; goes = behind_slash r.at (advanced (advanced r.at)) hs (Bad b ∷ []) e (goes_one (advanced r.at) (Bad b) _ next); walks = λ rest gs k i. taken (Bad b) gs i; back = taken_one q h (Bad b) _ r.at (e ∙ ap (λ t. Char 92 ∷ t) (sym tail ∙ next)); shorter = omega arith })
        (record { raw = raw; back = hs; whole = e; none = subst P (sym next ∙ tail) (bad_begins_none b (drop 1 (advanced r.at).glyphs)); fault = refl })
    by_glyph (Some (Char c)) f g =
        let next = head_seen (advanced r.at).glyphs (Char c) f in
        by_found c (drop 1 (advanced r.at).glyphs) (character c (advanced r.at)).value (character c (advanced r.at)).at (sym tail ∙ next) (character_is c (advanced r.at) (drop 1 (advanced r.at).glyphs) next g)

    ended : (a b c : Bool) → sees 10 (advanced r.at).glyphs 0 ≡ a → sees 13 (advanced r.at).glyphs 0 ≡ b → sees 10 (advanced r.at).glyphs 1 ≡ c → (a || (b && c)) ≡ true
        → Done q r (moved (cond a (advanced (advanced r.at)) (cond (b && c) (advanced (advanced (advanced r.at))) (advanced r.at))) r)
    ended true b c x y z w = feed x
    ended false true true x y z w = crlf y z
    ended false true false x y z w = cc
    ended false false c x y z w = cc

    by_end : (b : Bool) → is_line_end (advanced r.at) ≡ b → Done q r (cond b (moved (after_line_end (advanced r.at)) r) (escaped_glyph r.at.pos (slice_get (advanced r.at).glyphs 0) (advanced r.at) r))
    by_end true f = ended (sees 10 (advanced r.at).glyphs 0) (sees 13 (advanced r.at).glyphs 0) (sees 10 (advanced r.at).glyphs 1) refl refl refl f
    by_end false f = by_glyph (slice_get (advanced r.at).glyphs 0) refl f

pub slash_is : (g : Glyph) → is_backslash g ≡ true → g ≡ Char 92
slash_is (Bad b) e = cc
slash_is (Char c) e = ap (λ n. Char n) (eqb-true c 92 e)

step_done : (q : Quote) (r : Reading) (g : Glyph) (hs : List Glyph) → IsMark q → r.at.glyphs ≡ g ∷ hs → (BeginsWith (closing (ends_of q)) (g ∷ hs) → ⊥) → Done q r (step_by (is_backslash g) q.is_raw g r)
step_done q r g hs h e going = by_slash (is_backslash g) q.is_raw refl refl
  where
    by_slash : (b raw : Bool) → is_backslash g ≡ b → q.is_raw ≡ raw → Done q r (step_by b raw g r)
    by_slash false raw f k = plain_done q r g hs h e f going
    by_slash true true f k = kept_done q r hs h k (e ∙ ap (λ t. t ∷ hs) (slash_is g f))
    by_slash true false f k = escaped_done q r hs h k (e ∙ ap (λ t. t ∷ hs) (slash_is g f))

-- ---- a string that ends

pub three_marks : (m : ℕ) (gs : List Glyph) → sees m gs 0 ≡ true → (sees m gs 1 && sees m gs 2) ≡ true → gs ≡ Char m ∷ Char m ∷ Char m ∷ drop 3 gs
three_marks m [] e f = cc
three_marks m (g ∷ []) e f = cc
three_marks m (g ∷ h ∷ []) e f = let p = and_parts (sees m (g ∷ h ∷ []) 1) false f in cc
three_marks m (g ∷ h ∷ i ∷ gs) e f =
    let both = and_parts (sees m (g ∷ h ∷ i ∷ gs) 1) (sees m (g ∷ h ∷ i ∷ gs) 2) f in
    let p = char_is (Some g) m e in let q = char_is (Some h) m both.0 in let r = char_is (Some i) m both.1 in
    let first : g ≡ Char m = cc in let second : h ≡ Char m = cc in let third : i ≡ Char m = cc in rw (first, second, third) refl

pub three_goes : (s : Spot) (m : ℕ) → s.glyphs ≡ Char m ∷ Char m ∷ Char m ∷ drop 3 s.glyphs → Goes s (Char m ∷ Char m ∷ Char m ∷ []) (three s)
three_goes s m e =
    then_goes s (advanced s) (three s) (Char m ∷ []) (Char m ∷ Char m ∷ []) (goes_one s (Char m) (Char m ∷ Char m ∷ drop 3 s.glyphs) e)
    (two_goes (advanced s) (Char m) (Char m) (drop 3 s.glyphs) (rest_of s (Char m) (Char m ∷ Char m ∷ drop 3 s.glyphs) e))

pub closing_of : (q : Quote) (b : Bool) → q.is_triple ≡ b → closing (ends_of q) ≡ replicate (count_of b) q.mark
closing_of q b e = ap (λ t. replicate (count_of t) q.mark) e

closed_goes : (q : Quote) (s t : Spot) → closed q s ≡ Some t → Goes s (map Char (closing (ends_of q))) t
unfolding closed
closed_goes q s t e = by_tests (sees q.mark s.glyphs 0) q.is_triple (sees_three q.mark s) refl refl refl e
  where
    by_tests : (a b c : Bool) → sees q.mark s.glyphs 0 ≡ a → q.is_triple ≡ b → sees_three q.mark s ≡ c → cond a (cond b (cond c (Some (three s)) None) (Some (advanced s))) None ≡ Some t → Goes s (map Char (closing (ends_of q))) t
    by_tests true true true x y z f =
        let same : three s ≡ t = cc in
        let P : List ℕ → Type 0 = λ k. Goes s (map Char k) t in
        subst P (sym (closing_of q true y)) (subst (λ k. Goes s (Char q.mark ∷ Char q.mark ∷ Char q.mark ∷ []) k) same (three_goes s q.mark (three_marks q.mark s.glyphs x z)))
    by_tests true true false x y z f = cc
    by_tests true false c x y z f =
        let same : advanced s ≡ t = cc in
        let P : List ℕ → Type 0 = λ k. Goes s (map Char k) t in
        let head = head_seen s.glyphs (Char q.mark) (char_is (slice_get s.glyphs 0) q.mark x) in
        subst P (sym (closing_of q false y)) (subst (λ k. Goes s (Char q.mark ∷ []) k) same (goes_one s (Char q.mark) (drop 1 s.glyphs) head))
    by_tests false b c x y z f = cc

seen_same : (m : ℕ) → (m == m) ≡ true
seen_same m = eq-eqb m m refl

closed_none : (q : Quote) (s : Spot) → closed q s ≡ None → BeginsWith (closing (ends_of q)) s.glyphs → ⊥
unfolding closed
closed_none q s e b = by_tests (sees q.mark s.glyphs 0) q.is_triple (sees_three q.mark s) refl refl refl e
  where
    by_tests : (a b2 c : Bool) → sees q.mark s.glyphs 0 ≡ a → q.is_triple ≡ b2 → sees_three q.mark s ≡ c → cond a (cond b2 (cond c (Some (three s)) None) (Some (advanced s))) None ≡ None → ⊥
    by_tests true true true x y z f = cc
    by_tests true true false x y z f =
        let shown : s.glyphs ≡ Char q.mark ∷ Char q.mark ∷ Char q.mark ∷ b.0 = b.1 ∙ ap (λ k. map Char k ++ b.0) (closing_of q true y) in
        let P : List Glyph → Type 0 = λ k. (sees q.mark k 1 && sees q.mark k 2) ≡ false in
        let g = subst P shown z in
        let same = seen_same q.mark in
        two_true (q.mark == q.mark) same g
      where
        two_true : (t : Bool) → t ≡ true → (t && t) ≡ false → ⊥
        two_true true h k = cc
        two_true false h k = cc
    by_tests true false c x y z f = cc
    by_tests false b2 c x y z f =
        let shut = closing_cons (ends_of q) in
        first_seen b2 y x
      where
        first_seen : (d : Bool) → q.is_triple ≡ d → sees q.mark s.glyphs 0 ≡ false → ⊥
        first_seen true y x =
            let shown : s.glyphs ≡ Char q.mark ∷ Char q.mark ∷ Char q.mark ∷ b.0 = b.1 ∙ ap (λ k. map Char k ++ b.0) (closing_of q true y) in
            let P : List Glyph → Type 0 = λ k. sees q.mark k 0 ≡ false in
            let g = subst P shown x in let same = seen_same q.mark in cc
        first_seen false y x =
            let shown : s.glyphs ≡ Char q.mark ∷ b.0 = b.1 ∙ ap (λ k. map Char k ++ b.0) (closing_of q false y) in
            let P : List Glyph → Type 0 = λ k. sees q.mark k 0 ≡ false in
            let g = subst P shown x in let same = seen_same q.mark in cc

abbrev pub IsWrong : Quote → Rule → List Glyph → List Glyph → List Glyph → Type 0
IsWrong q NotUtf8 front body rest = (b : ℕ) × ((more : List Glyph) × (body ≡ front ++ Bad b ∷ more))
IsWrong q BadEscape front body rest =
    (back : List Glyph) × ((q.is_raw ≡ false) × (body ++ (map Char (closing (ends_of q)) ++ rest) ≡ front ++ Char 92 ∷ back) × Parts (Char 92 ∷ back) front × (length front < length body)
    × ((e x : List ℕ) → IsEscape e x → BeginsWith e (Char 92 ∷ back) → ⊥))
IsWrong q _ front body rest = ⊥

pub data Outcome (q : Quote) (r t : Reading) (body : List Glyph) : Type 0 where
  sound : (codes text : List ℕ) → body ≡ map Char codes → t.chars ≡ r.chars ++ text → t.fault ≡ None → Body (ends_of q) codes text → Outcome q r t body
  wrong : (front : List Glyph) (at : Spot) (rule : Rule) → Goes r.at front at → t.fault ≡ Some (at.pos, rule) → IsWrong q rule front body t.at.glyphs → Clean (ends_of q) front → Outcome q r t body

-- what was read up to the string's end
pub record Read (q : Quote) (r t : Reading) : Type 0 where
  pub body : List Glyph
  pub goes : Goes r.at (body ++ map Char (closing (ends_of q))) t.at
  pub inside : Inside (ends_of q) (map Char (closing (ends_of q)) ++ t.at.glyphs) body
  pub keeps : (f : Pos × Rule) → r.fault ≡ Some f → t.fault ≡ Some f
  pub what : r.fault ≡ None → Outcome q r t body

kept_fault : (o : Option (Pos × Rule)) (f g : Pos × Rule) → o ≡ Some f → or_fault o g ≡ Some f
kept_fault o f g e = ap (λ x. or_fault x g) e

new_fault : (o : Option (Pos × Rule)) (g : Pos × Rule) → o ≡ None → or_fault o g ≡ Some g
new_fault o g e = ap (λ x. or_fault x g) e

module _ (q : Quote) (mark : IsMark q) (r u t : Reading) (ih : Read q u t) where
  ends : List Glyph
  ends = map Char (closing (ends_of q))

  behind : (s : Stepped q r u) → ih.body ++ (map Char (closing (ends_of q)) ++ t.at.glyphs) ≡ u.at.glyphs
  behind s = sym (ih.goes.glyphs ∙ append_assoc ih.body (map Char (closing (ends_of q))) t.at.glyphs)

  longer_goes : (s : Stepped q r u) → Goes r.at ((s.over ++ ih.body) ++ map Char (closing (ends_of q))) t.at
  longer_goes s = subst (λ w. Goes r.at w t.at) (sym (append_assoc s.over ih.body (map Char (closing (ends_of q))))) (then_goes r.at u.at t.at s.over (ih.body ++ map Char (closing (ends_of q))) s.goes ih.goes)

  longer_inside : (s : Stepped q r u) → Inside (ends_of q) (map Char (closing (ends_of q)) ++ t.at.glyphs) (s.over ++ ih.body)
  longer_inside s = s.walks (map Char (closing (ends_of q)) ++ t.at.glyphs) ih.body (behind s) ih.inside

  shifted : (s : Stepped q r u) → Fine q r u s.over → (rule : Rule) (front : List Glyph) → IsWrong q rule front ih.body t.at.glyphs → IsWrong q rule (s.over ++ front) (s.over ++ ih.body) t.at.glyphs
  shifted s f NotUtf8 front w = (w.0, (w.1.0, ap (λ k. s.over ++ k) w.1.1 ∙ sym (append_assoc s.over front (Bad w.0 ∷ w.1.0))))
  shifted s f BadEscape front w = (
    w.0,
    (
      w.1.0,
      append_assoc s.over ih.body (map Char (closing (ends_of q)) ++ t.at.glyphs) ∙ ap (λ k. s.over ++ k) w.1.1 ∙ sym (append_assoc s.over front (Char 92 ∷ w.0)),
      f.parts w.1.0 (Char 92 ∷ w.0) front w.1.2,
      omega (arith, length-append s.over front, length-append s.over ih.body, w.1.3),
      w.1.4,
    ),
  )
  shifted s f _ front w = absurd w

  after_fine : (s : Stepped q r u) → Fine q r u s.over → Outcome q u t ih.body → Outcome q r t (s.over ++ ih.body)
  after_fine s f (sound codes text whole chars fault body) =
      sound (f.codes ++ codes) (f.text ++ text) (ap (λ k. k ++ ih.body) f.whole ∙ ap (λ k. map Char f.codes ++ k) whole ∙ sym (map-append Char f.codes codes))
      (chars ∙ ap (λ k. k ++ text) f.chars ∙ append_assoc r.chars f.text text) fault (f.body codes text t.at.glyphs (sym (behind s) ∙ ap (λ k. k ++ (map Char (closing (ends_of q)) ++ t.at.glyphs)) whole) body)
  after_fine s f (wrong front at rule goes fault w k) = wrong (s.over ++ front) at rule (then_goes r.at u.at at s.over front s.goes goes) fault (shifted s f rule front w) (f.clean front k)

  one_more : Done q r u → Read q r t
  one_more (at_end alone none fault) =
      let shut = closing_cons (ends_of q) (is_quote_of q mark) in
      let sizes : length u.at.glyphs ≡ length ((ih.body ++ map Char (closing (ends_of q))) ++ t.at.glyphs) = ap length ih.goes.glyphs in
      let ends_size : length (closing (ends_of q)) ≡ length shut.0 + 1 = omega (arith, ap length shut.1) in
      absurd (omega (arith, length-append (ih.body ++ map Char (closing (ends_of q))) t.at.glyphs, length-append ih.body (map Char (closing (ends_of q))), length-map (closing (ends_of q)) Char, ap length none, sizes))
  one_more (fine s f) = record {
    body = s.over ++ ih.body;
    goes = longer_goes s;
    inside = longer_inside s;
    keeps = λ g e. ih.keeps g (f.fault ∙ e);
    what = λ e. after_fine s f (ih.what (f.fault ∙ e));
  }
  one_more (wrong_byte s w) = record {
    body = s.over ++ ih.body;
    goes = longer_goes s;
    inside = longer_inside s;
    keeps = λ g e. ih.keeps g (w.fault ∙ kept_fault r.fault g (w.at.pos, NotUtf8) e);
    what = λ e.
        wrong w.front w.at NotUtf8 w.goes (ih.keeps (w.at.pos, NotUtf8) (w.fault ∙ new_fault r.fault (w.at.pos, NotUtf8) e))
        (w.byte, (ih.body, ap (λ k. k ++ ih.body) w.whole ∙ append_assoc w.front (Bad w.byte ∷ []) ih.body)) w.clean;
  }
  one_more (wrong_escape s w) = record {
    body = s.over ++ ih.body;
    goes = longer_goes s;
    inside = longer_inside s;
    keeps = λ g e. ih.keeps g (w.fault ∙ kept_fault r.fault g (r.at.pos, BadEscape) e);
    what = λ e.
        wrong [] r.at BadEscape (stay r.at) (ih.keeps (r.at.pos, BadEscape) (w.fault ∙ new_fault r.fault (r.at.pos, BadEscape) e)) (
          w.back,
          (
            w.raw,
            append_assoc s.over ih.body (map Char (closing (ends_of q)) ++ t.at.glyphs) ∙ ap (λ k. s.over ++ k) (behind s) ∙ sym s.goes.glyphs ∙ w.whole,
            no_more,
            omega (arith, length-append s.over ih.body, s.shorter),
            w.none,
          ),
        ) clean_end;
  }

pub read_true : (q : Quote) → IsMark q → {r t : Reading} {b : Bool} → Steps q r b t → b ≡ true → Read q r t
read_true q mark (open_end r e) true_is = cc
read_true q mark (end r s e) true_is = record {
  body = [];
  goes = closed_goes q r.at s e;
  inside = nothing;
  keeps = λ f h. h;
  what = λ h. sound [] [] refl (sym (append-nil r.chars)) h strings.nothing;
}
read_true q mark (step r t b g head going steps) true_is =
    let shown = head_seen r.at.glyphs g head in
    let P : List Glyph → Type 0 = λ k. BeginsWith (closing (ends_of q)) k → ⊥ in
    one_more q mark r (step_by (is_backslash g) q.is_raw g r) t (read_true q mark steps true_is) (step_done q r g (drop 1 r.at.glyphs) mark shown (subst P shown (closed_none q r.at going)))

-- ---- a string that does not end

pub read_false : (q : Quote) → IsMark q → {r t : Reading} {b : Bool} → Steps q r b t → b ≡ false → (body rest : List Glyph) → r.at.glyphs ≡ body ++ (map Char (closing (ends_of q)) ++ rest)
    → Inside (ends_of q) (map Char (closing (ends_of q)) ++ rest) body → ⊥
read_false q mark (open_end r e) false_is body rest whole i =
    let shut = closing_cons (ends_of q) (is_quote_of q mark) in
    let none = nothing_left r.at.glyphs e in
    let ends_size : length (closing (ends_of q)) ≡ length shut.0 + 1 = omega (arith, ap length shut.1) in
    omega (arith, ap length none, ap length whole, length-append body (map Char (closing (ends_of q)) ++ rest), length-append (map Char (closing (ends_of q))) rest, length-map (closing (ends_of q)) Char)
  where
    nothing_left : (gs : List Glyph) → slice_get gs 0 ≡ None → gs ≡ []
    nothing_left [] k = refl
    nothing_left (x ∷ gs) k = cc
read_false q mark (end r s e) false_is body rest whole i = cc
read_false q mark (step r t b g head going steps) false_is body rest whole i =
    let shown = head_seen r.at.glyphs g head in
    let P : List Glyph → Type 0 = λ k. BeginsWith (closing (ends_of q)) k → ⊥ in
    by_done (step_done q r g (drop 1 r.at.glyphs) mark shown (subst P shown (closed_none q r.at going))) (read_false q mark steps false_is)
  where
    u : Reading
    u = step_by (is_backslash g) q.is_raw g r

    goes_on : (s : Stepped q r (step_by (is_backslash g) q.is_raw g r))
        → ((more tail : List Glyph) → (step_by (is_backslash g) q.is_raw g r).at.glyphs ≡ more ++ (map Char (closing (ends_of q)) ++ tail) → Inside (ends_of q) (map Char (closing (ends_of q)) ++ tail) more → ⊥) → ⊥
    goes_on s ih =
        let left = s.back (map Char (closing (ends_of q)) ++ rest) body (sym whole) (rest, refl) i in
        let both : s.over ++ (step_by (is_backslash g) q.is_raw g r).at.glyphs ≡ s.over ++ (left.more ++ (map Char (closing (ends_of q)) ++ rest)) =
        sym s.goes.glyphs ∙ whole ∙ ap (λ k. k ++ (map Char (closing (ends_of q)) ++ rest)) left.whole ∙ append_assoc s.over left.more (map Char (closing (ends_of q)) ++ rest) in
        ih left.more rest (append_cancel_left s.over _ _ both) left.inside

    by_done : Done q r (step_by (is_backslash g) q.is_raw g r)
        → ((more tail : List Glyph) → (step_by (is_backslash g) q.is_raw g r).at.glyphs ≡ more ++ (map Char (closing (ends_of q)) ++ tail) → Inside (ends_of q) (map Char (closing (ends_of q)) ++ tail) more → ⊥) → ⊥
    by_done (at_end alone none fault) ih =
        let shut = closing_cons (ends_of q) (is_quote_of q mark) in
        let ends_size : length (closing (ends_of q)) ≡ length shut.0 + 1 = omega (arith, ap length shut.1) in
        let empty : length body ≡ 0 = omega (arith, alone, ap length whole, length-append body (map Char (closing (ends_of q)) ++ rest), length-append (map Char (closing (ends_of q))) rest, length-map (closing (ends_of q)) Char) in
        closed_none q r.at going (rest, whole ∙ ap (λ k. k ++ (map Char (closing (ends_of q)) ++ rest)) (nil_from_length body empty))
    by_done (fine s f) ih = goes_on s ih
    by_done (wrong_byte s w) ih = goes_on s ih
    by_done (wrong_escape s w) ih = goes_on s ih
