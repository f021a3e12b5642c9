-- The escape that is read is the one that begins there.
use Rattle.std.proofs.Common.{◌≡◌, ℕ, ◌+◌, ◌-◌, ◌*◌, ◌<◌, ◌≤◌, Bool, true, false, cond, List, [], ◌∷◌, ◌++◌, length, drop, slice_get, map, refl, ap, sym, ◌∙◌, arith, subst, inl, inr, append_assoc, ◌≢◌, length-append}
use Rattle.std.proofs.lemmas.Bool.Decides.{nat_tests}
use Rattle.std.proofs.lemmas.Bool.{eqb-true, eqb-false, eq-eqb, and_parts, ltb-true, ltb-false, leb-true, leb-false}
use Rattle.std.proofs.lemmas.List.{append-nil, map-append, append_cancel_left}
use Rattle.std.proofs.lemmas.List.Elements.{All-nil, All-head, All-tail, All-cons, All-append}
use Rattle.std.specs.Prelude.{Option, Some, None, ◌||◌, ◌&&◌, ◌==◌, ◌⊎◌, fold, nat_lt, nat_le, All}
use Rattle.std.specs.Char.{IsScalar, digit_value}
use Rattle.gd_lexis.specs.declared.glyph.Glyph.{Glyph}
use Rattle.gd_lexis.specs.declared.glyph.Glyph.TheVariants.{Char}
use Rattle.gd_lexis.specs.Chars.{place_behind}
use Rattle.gd_lexis.specs.Strings.{Quote, IsQuote, closing, simple, IsEscape, WritesCode}
use Rattle.gd_lexis.specs.Pieces.{BeginsWith}
use Rattle.gd_lexis.specs.Faults.{Inside, nothing, plain, taken}
use Rattle.gd_lexer.specs.Cursor.{Spot, advanced, advanced_over, after_glyph, sees, is_char}
use Rattle.gd_lexer.specs.Glyphs.{is_scalar, scalar_of}
use Rattle.gd_lexer.specs.Number.{digit_at}
use Rattle.gd_lexer.specs.Escape.{Taken, none_at, some_at, go_on, and_then, digit_taken, hex_digit, hex_pair, hex_four, hex_six, low_of, paired, short_of, short, long, character, is_line_end}
use Rattle.gd_lexer.proofs.FollowsLemmas.{advanced_rest, place_more}
use Rattle.gd_lexer.proofs.NumberMeets.{digit_of, digit_known}
use Rattle.gd_lexer.proofs.MarkMeets.{char_is, head_seen}
use Rattle.gd_lexer.proofs.DecodeLemmas.{pick}
use Rattle.gd_lexer.proofs.Heads.{closing_cons}
use Rattle.std.proofs.lemmas.Grind.{fold-append}

-- ---- going over glyphs

-- from one spot to another, over these glyphs
pub record Goes (s : Spot) (over : List Glyph) (t : Spot) : Type 0 where
  pub glyphs : s.glyphs ≡ over ++ t.glyphs
  pub place : (file : ℕ) (before : List Glyph) → s.pos ≡ place_behind file before → t.pos ≡ place_behind file (before ++ over)

pub stay : (s : Spot) → Goes s [] s
stay s = record { glyphs = refl; place = λ file before e. e ∙ ap (place_behind file) (sym (append-nil before)) }

pub then_goes : (s t u : Spot) (v w : List Glyph) → Goes s v t → Goes t w u → Goes s (v ++ w) u
then_goes s t u v w a b = record {
  glyphs = a.glyphs ∙ ap (λ x. v ++ x) b.glyphs ∙ sym (append_assoc v w u.glyphs);
  place = λ file before e. b.place file (before ++ v) (a.place file before e) ∙ ap (place_behind file) (append_assoc before v w);
}

pos_advanced : (s : Spot) (g : Glyph) (gs : List Glyph) → s.glyphs ≡ g ∷ gs → (advanced s).pos ≡ after_glyph g s.pos
unfolding advanced
pos_advanced s g gs e = ap (λ t. (advanced_over t s).pos) e

pub goes_one : (s : Spot) (g : Glyph) (gs : List Glyph) → s.glyphs ≡ g ∷ gs → Goes s (g ∷ []) (advanced s)
goes_one s g gs e =
    let rest : (advanced s).glyphs ≡ gs = advanced_rest s ∙ ap (drop 1) e in
    record {
      glyphs = e ∙ ap (λ t. g ∷ t) (sym rest);
      place = λ file before at. pos_advanced s g gs e ∙ ap (after_glyph g) at ∙ place_more file before g;
    }

pub rest_of : (s : Spot) (g : Glyph) (gs : List Glyph) → s.glyphs ≡ g ∷ gs → (advanced s).glyphs ≡ gs
rest_of s g gs e = advanced_rest s ∙ ap (drop 1) e

-- ---- hexadecimal digits

abbrev IsHex : ℕ → Type 0
IsHex c = digit_value c < 16

abbrev hex_value : ℕ → List ℕ → ℕ
hex_value n cs = fold (λ n c. n * 16 + digit_value c) n cs

record HexSome (k n : ℕ) (s t : Spot) : Type 0 where
  cs : List ℕ
  size : length cs ≡ k
  each : All IsHex cs
  code : n ≡ hex_value 0 cs
  goes : Goes s (map Char cs) t

record HexNone (k : ℕ) (s t : Spot) : Type 0 where
  cs : List ℕ
  size : length cs < k
  each : All IsHex cs
  goes : Goes s (map Char cs) t
  stop : digit_at 16 (slice_get t.glyphs 0) ≡ None

abbrev HexBy : ℕ → Spot → Option ℕ → Spot → Type 0
HexBy k s None t = HexNone k s t
HexBy k s (Some n) t = HexSome k n s t

one_hex : (c : ℕ) → IsHex c → All IsHex (c ∷ [])
one_hex c h = All-cons IsHex c [] h (All-nil IsHex)

hex_digit_by : (s : Spot) (o : Option ℕ) → digit_at 16 (slice_get s.glyphs 0) ≡ o → HexBy 1 s (digit_taken o s).value (digit_taken o s).at
hex_digit_by s None e = record { cs = []; size = omega arith; each = All-nil IsHex; goes = stay s; stop = e }
hex_digit_by s (Some d) e =
    let digit = digit_of 16 (slice_get s.glyphs 0) d e in
    let shown = head_seen s.glyphs (Char digit.0) digit.1.0 in
    record {
      cs = digit.0 ∷ [];
      size = refl;
      each = one_hex digit.0 digit.1.1;
      code = digit.1.2 ∙ omega arith;
      goes = goes_one s (Char digit.0) (drop 1 s.glyphs) shown;
    }

hex_digit_is : (s : Spot) → HexBy 1 s (hex_digit s).value (hex_digit s).at
unfolding hex_digit
hex_digit_is s = hex_digit_by s (digit_at 16 (slice_get s.glyphs 0)) refl

-- digits behind digits
hex_join : (j k x m : ℕ) (s t u : Spot) (o : Option ℕ) → ((cs : List ℕ) (n : ℕ) → length cs ≡ k → hex_value n cs ≡ n * x + hex_value 0 cs) → HexSome j m s t → HexBy k t o u
    → HexBy (j + k) s (go_on o u (λ low v. some_at (m * x + low) v)).value (go_on o u (λ low v. some_at (m * x + low) v)).at
hex_join j k x m s t u None law a b = record {
  cs = a.cs ++ b.cs;
  size = omega (arith, length-append a.cs b.cs, a.size, b.size);
  each = All-append IsHex a.cs b.cs a.each b.each;
  goes = subst (λ w. Goes s w u) (sym (map-append Char a.cs b.cs)) (then_goes s t u (map Char a.cs) (map Char b.cs) a.goes b.goes);
  stop = b.stop;
}
hex_join j k x m s t u (Some n) law a b = record {
  cs = a.cs ++ b.cs;
  size = length-append a.cs b.cs ∙ omega (arith, a.size, b.size);
  each = All-append IsHex a.cs b.cs a.each b.each;
  code =
      let whole : hex_value 0 (a.cs ++ b.cs) ≡ hex_value (hex_value 0 a.cs) b.cs = fold-append (λ n c. n * 16 + digit_value c) 0 a.cs b.cs in
      let parts = law b.cs (hex_value 0 a.cs) b.size in
      sym (whole ∙ parts ∙ (let P : hex_value 0 a.cs ≡ m = sym a.code in let Q : hex_value 0 b.cs ≡ n = sym b.code in rw (P, Q) refl));
  goes = subst (λ w. Goes s w u) (sym (map-append Char a.cs b.cs)) (then_goes s t u (map Char a.cs) (map Char b.cs) a.goes b.goes);
}

-- digits that stop early stay so
hex_short : (j k : ℕ) (s t : Spot) → HexNone j s t → HexNone (j + k) s t
hex_short j k s t a = record { cs = a.cs; size = omega (arith, a.size); each = a.each; goes = a.goes; stop = a.stop }

hex_then : (j k x : ℕ) (s : Spot) (o : Option ℕ) (t : Spot) (f : Spot → Taken) → ((cs : List ℕ) (n : ℕ) → length cs ≡ k → hex_value n cs ≡ n * x + hex_value 0 cs)
    → ((v : Spot) → HexBy k v (f v).value (f v).at) → HexBy j s o t
    → HexBy (j + k) s (go_on o t (λ high v. and_then (f v) (λ low w. some_at (high * x + low) w))).value (go_on o t (λ high v. and_then (f v) (λ low w. some_at (high * x + low) w))).at
hex_then j k x s None t f law each a = hex_short j k s t a
hex_then j k x s (Some m) t f law each a = hex_join j k x m s t (f t).at (f t).value law a (each t)

one_law : (cs : List ℕ) (n : ℕ) → length cs ≡ 1 → hex_value n cs ≡ n * 16 + hex_value 0 cs
one_law [] n e = absurd (omega arith)
one_law (a ∷ []) n e = omega arith
one_law (a ∷ b ∷ cs) n e = absurd (omega arith)

two_law : (cs : List ℕ) (n : ℕ) → length cs ≡ 2 → hex_value n cs ≡ n * 256 + hex_value 0 cs
two_law [] n e = absurd (omega arith)
two_law (a ∷ []) n e = absurd (omega arith)
two_law (a ∷ b ∷ []) n e = omega arith
two_law (a ∷ b ∷ c ∷ cs) n e = absurd (omega arith)

hex_pair_is : (s : Spot) → HexBy 2 s (hex_pair s).value (hex_pair s).at
unfolding hex_pair
hex_pair_is s = hex_then 1 1 16 s (hex_digit s).value (hex_digit s).at hex_digit one_law hex_digit_is (hex_digit_is s)

hex_four_is : (s : Spot) → HexBy 4 s (hex_four s).value (hex_four s).at
unfolding hex_four
hex_four_is s = hex_then 2 2 256 s (hex_pair s).value (hex_pair s).at hex_pair two_law hex_pair_is (hex_pair_is s)

hex_six_is : (s : Spot) → HexBy 6 s (hex_six s).value (hex_six s).at
unfolding hex_six
hex_six_is s = hex_then 4 2 256 s (hex_four s).value (hex_four s).at hex_pair two_law hex_pair_is (hex_four_is s)

-- where the digits stop early, no more of them begin
cut_off : (cs ds : List ℕ) (gs rest : List Glyph) → map Char cs ++ gs ≡ map Char ds ++ rest → length cs < length ds → All IsHex ds → digit_at 16 (slice_get gs 0) ≡ None → ⊥
cut_off [] [] gs rest e l a stop = absurd (omega arith)
cut_off [] (d ∷ ds) gs rest e l a stop =
    let known = digit_known 16 d (All-head IsHex d ds a) in
    let shown : digit_at 16 (slice_get gs 0) ≡ Some (digit_value d) = ap (λ t. digit_at 16 (slice_get t 0)) e ∙ known in cc
cut_off (c ∷ cs) [] gs rest e l a stop = absurd (omega arith)
cut_off (c ∷ cs) (d ∷ ds) gs rest e l a stop = let tail : map Char cs ++ gs ≡ map Char ds ++ rest = cc in cut_off cs ds gs rest tail (omega arith) (All-tail IsHex d ds a) stop

no_hex : (k : ℕ) (s t : Spot) (ds : List ℕ) (n : ℕ) → HexNone k s t → WritesCode k ds n → BeginsWith ds s.glyphs → ⊥
no_hex k s t ds n a w b = cut_off a.cs ds t.glyphs b.0 (sym a.goes.glyphs ∙ b.1) (omega (arith, a.size, w.0)) w.1 a.stop

same_front : (cs ds : List ℕ) (gs rest : List Glyph) → length cs ≡ length ds → map Char cs ++ gs ≡ map Char ds ++ rest → (cs ≡ ds) × (gs ≡ rest)
same_front [] [] gs rest l e = (refl, e)
same_front [] (d ∷ ds) gs rest l e = absurd (omega arith)
same_front (c ∷ cs) [] gs rest l e = absurd (omega arith)
same_front (c ∷ cs) (d ∷ ds) gs rest l e =
    let head : c ≡ d = cc in let tail : map Char cs ++ gs ≡ map Char ds ++ rest = cc in let more = same_front cs ds gs rest (omega arith) tail in let eq = more.0 in (cc, more.1)

-- digits that are read have one value
one_code : (k n m : ℕ) (s t : Spot) (ds : List ℕ) → HexSome k n s t → WritesCode k ds m → (b : BeginsWith ds s.glyphs) → (n ≡ m) × (t.glyphs ≡ b.0)
one_code k n m s t ds a w b =
    let same = same_front a.cs ds t.glyphs b.0 (a.size ∙ sym w.0) (sym a.goes.glyphs ∙ b.1) in
    (a.code ∙ ap (hex_value 0) same.0 ∙ sym w.2, same.1)

-- ---- what is passed over

-- what is left of the inside of a string behind its front
pub record Left (q : Quote) (rest body w : List Glyph) : Type 0 where
  pub more : List Glyph
  pub whole : body ≡ w ++ more
  pub inside : Inside q rest more

-- the glyphs can stand before the inside of a string, and an inside that begins with them goes on behind them
abbrev pub Forth : List Glyph → Type 0
Forth w = (q : Quote) (rest gs : List Glyph) → IsQuote q → Inside q rest gs → Inside q rest (w ++ gs)

abbrev pub Back : List Glyph → Type 0
Back w = (q : Quote) (rest body gs : List Glyph) → IsQuote q → body ++ rest ≡ w ++ gs → BeginsWith (closing q) rest → Inside q rest body → Left q rest body w

abbrev pub Walks : List Glyph → Type 0
Walks w = Forth w × Back w

pub not_mark : (q : Quote) (c : ℕ) (gs : List Glyph) → IsQuote q → c ≢ q.mark → BeginsWith (closing q) (Char c ∷ gs) → ⊥
not_mark q c gs h differs b =
    let shut = closing_cons q h in
    let shown : Char c ∷ gs ≡ Char q.mark ∷ (map Char shut.0 ++ b.0) = b.1 ∙ ap (λ t. map Char t ++ b.0) shut.1 in
    differs cc

hex_not_mark : (q : Quote) (c : ℕ) → IsQuote q → IsHex c → c ≢ q.mark
hex_not_mark q c h hex e = by_mark h.0
  where
    value : digit_value q.mark < 16
    value = let P : ℕ → Type 0 = λ n. digit_value n < 16 in subst P e hex

    by_mark : (q.mark ≡ 34) ⊎ (q.mark ≡ 39) → ⊥
    by_mark (inl f) = let P : ℕ → Type 0 = λ n. digit_value n < 16 in let v = subst P f value in omega arith
    by_mark (inr f) = let P : ℕ → Type 0 = λ n. digit_value n < 16 in let v = subst P f value in omega arith

hex_not_slash : (c : ℕ) → IsHex c → c ≡ 92 → ⊥
hex_not_slash c hex e = let P : ℕ → Type 0 = λ n. digit_value n < 16 in let v = subst P e hex in omega arith

pub char_not : (c d : ℕ) → (c ≡ d → ⊥) → Char c ≡ Char d → ⊥
char_not c d f e = f cc

hex_forth : (cs : List ℕ) → All IsHex cs → Forth (map Char cs)
hex_forth [] a q rest gs h i = i
hex_forth (c ∷ cs) a q rest gs h i =
    let hex = All-head IsHex c cs a in
    plain (Char c) (map Char cs ++ gs) (char_not c 92 (hex_not_slash c hex)) (not_mark q c ((map Char cs ++ gs) ++ rest) h (hex_not_mark q c h hex)) (hex_forth cs (All-tail IsHex c cs a) q rest gs h i)

-- a plain glyph at which no string ends
pub plain_back : (q : Quote) (rest body : List Glyph) (g : Glyph) (gs : List Glyph) → g ≢ Char 92 → (BeginsWith (closing q) (g ∷ gs) → ⊥) → body ++ rest ≡ g ∷ gs → BeginsWith (closing q) rest → Inside q rest body
    → Left q rest body (g ∷ [])
plain_back q rest body g gs other going e b nothing = let P : List Glyph → Type 0 = λ k. BeginsWith (closing q) k in absurd (going (subst P e b))
plain_back q rest body g gs other going e b (plain x xs differs going2 i) = let same : x ≡ g = cc in record { more = xs; whole = ap (λ t. t ∷ xs) same; inside = i }
plain_back q rest body g gs other going e b (taken x xs i) = let same : Char 92 ≡ g = cc in absurd (other (sym same))

hex_back : (cs : List ℕ) → All IsHex cs → Back (map Char cs)
hex_back [] a q rest body gs h e b i = record { more = body; whole = refl; inside = i }
hex_back (c ∷ cs) a q rest body gs h e b i =
    let hex = All-head IsHex c cs a in
    let one = plain_back q rest body (Char c) (map Char cs ++ gs) (char_not c 92 (hex_not_slash c hex)) (not_mark q c (map Char cs ++ gs) h (hex_not_mark q c h hex)) e b i in
    let tail : one.more ++ rest ≡ map Char cs ++ gs = let shown : Char c ∷ (one.more ++ rest) ≡ Char c ∷ (map Char cs ++ gs) = ap (λ t. t ++ rest) (sym one.whole) ∙ e in cc in
    let more = hex_back cs (All-tail IsHex c cs a) q rest one.more gs h tail b one.inside in
    record { more = more.more; whole = one.whole ∙ ap (λ t. Char c ∷ t) more.whole; inside = more.inside }

pub hex_walks : (cs : List ℕ) → All IsHex cs → Walks (map Char cs)
hex_walks cs a = (hex_forth cs a, hex_back cs a)

pub then_walks : (v w : List Glyph) → Walks v → Walks w → Walks (v ++ w)
then_walks v w f g = (
  (λ q rest gs h i. let P : List Glyph → Type 0 = λ t. Inside q rest t in subst P (sym (append_assoc v w gs)) (f.0 q rest (w ++ gs) h (g.0 q rest gs h i))),
  (λ q rest body gs h e b i.
      let one = f.1 q rest body (w ++ gs) h (e ∙ append_assoc v w gs) b i in
      let tail : one.more ++ rest ≡ w ++ gs = append_cancel_left v (one.more ++ rest) (w ++ gs) (sym (append_assoc v one.more rest) ∙ ap (λ t. t ++ rest) (sym one.whole) ∙ e ∙ append_assoc v w gs) in
      let two = g.1 q rest one.more gs h tail b one.inside in
      record { more = two.more; whole = one.whole ∙ ap (λ t. v ++ t) two.whole ∙ sym (append_assoc v w two.more); inside = two.inside }),
)

pub slash_not_mark : (q : Quote) → IsQuote q → 92 ≢ q.mark
slash_not_mark q h = by_mark h.0
  where
    by_mark : (q.mark ≡ 34) ⊎ (q.mark ≡ 39) → 92 ≡ q.mark → ⊥
    by_mark (inl f) e = omega arith
    by_mark (inr f) e = omega arith

taken_back : (g : Glyph) (q : Quote) (rest body gs : List Glyph) → IsQuote q → body ++ rest ≡ Char 92 ∷ g ∷ gs → BeginsWith (closing q) rest → Inside q rest body → Left q rest body (Char 92 ∷ g ∷ [])
taken_back g q rest body gs h e b nothing = let P : List Glyph → Type 0 = λ k. BeginsWith (closing q) k in absurd (not_mark q 92 (g ∷ gs) h (slash_not_mark q h) (subst P e b))
taken_back g q rest body gs h e b (plain x xs differs going i) = let same : x ≡ Char 92 = cc in absurd (differs same)
taken_back g q rest body gs h e b (taken x xs i) = let same : x ≡ g = cc in record { more = xs; whole = ap (λ t. Char 92 ∷ t ∷ xs) same; inside = i }

pub taken_walks : (g : Glyph) → Walks (Char 92 ∷ g ∷ [])
taken_walks g = ((λ q rest gs h i. taken g gs i), taken_back g)

-- ---- the escapes

-- What stands behind a backslash is this, or no escape: then it can be passed over.
pub record NoEscape (s t : Spot) : Type 0 where
  pub over : List Glyph
  pub goes : Goes s over t
  pub walks : Walks (Char 92 ∷ over)
  pub none : (e x : List ℕ) → IsEscape e x → BeginsWith e (Char 92 ∷ s.glyphs) → ⊥

pub record AnEscape (d : ℕ) (s t : Spot) : Type 0 where
  pub text : List ℕ
  pub goes : Goes s (map Char text) t
  pub escape : IsEscape (92 ∷ text) (d ∷ [])
  pub walks : Walks (Char 92 ∷ map Char text)

abbrev pub EscapeBy : Spot → Option ℕ → Spot → Type 0
EscapeBy s None t = NoEscape s t
EscapeBy s (Some d) t = AnEscape d s t

-- what an escape's second character is
abbrev Second : List Glyph → Type 0
Second gs = (e x : List ℕ) → IsEscape e x → BeginsWith e (Char 92 ∷ gs) → ⊥

pub scalar_some : (n d : ℕ) → scalar_of n ≡ Some d → IsScalar n × (d ≡ n)
scalar_some n d e = pick _ (is_scalar n) (Some n) None (Some d) (λ h f. (h, cc)) (λ h f. cc) e

scalar_none : (n : ℕ) → scalar_of n ≡ None → IsScalar n → ⊥
scalar_none n e s = pick _ (is_scalar n) (Some n) None None (λ h f. cc) (λ h f. let b : is_scalar n ≡ true = s in cc) e

-- ---- which escape can begin

second_of : (e : List ℕ) (a c : ℕ) (tail : List ℕ) (hs : List Glyph) → e ≡ 92 ∷ a ∷ tail → (b : BeginsWith e (Char 92 ∷ Char c ∷ hs)) → (a ≡ c) × (hs ≡ map Char tail ++ b.0)
second_of e a c tail hs is b = let shown : Char 92 ∷ Char c ∷ hs ≡ Char 92 ∷ Char a ∷ (map Char tail ++ b.0) = b.1 ∙ ap (λ t. map Char t ++ b.0) is in (cc, cc)

front_of : (first more : List ℕ) (hs rest : List Glyph) → hs ≡ map Char (first ++ more) ++ rest → hs ≡ map Char first ++ (map Char more ++ rest)
front_of first more hs rest e = e ∙ ap (λ t. t ++ rest) (map-append Char first more) ∙ append_assoc (map Char first) (map Char more) rest

no_simple : (c : ℕ) (hs : List Glyph) → (c ≡ 117 → ⊥) → (c ≡ 85 → ⊥) → simple c ≡ None → (c ≡ 10 → ⊥) → (c ≡ 13 → slice_get hs 0 ≡ Some (Char 10) → ⊥)
    → (e x : List ℕ) → IsEscape e x → BeginsWith e (Char 92 ∷ Char c ∷ hs) → ⊥
no_simple c hs u v none lf cr e x (inl h) b =
    let same = (second_of e h.0 c [] hs h.2 b).0 in let P : ℕ → Type 0 = λ n. simple n ≡ Some h.1 in let f = subst P same h.3 in cc
no_simple c hs u v none lf cr e x (inr (inl h)) b = by_end h.0
  where
    by_end : (e ≡ 92 ∷ 10 ∷ []) ⊎ (e ≡ 92 ∷ 13 ∷ 10 ∷ []) → ⊥
    by_end (inl f) = lf (sym (second_of e 10 c [] hs f b).0)
    by_end (inr f) = let p = second_of e 13 c (10 ∷ []) hs f b in cr (sym p.0) (ap (λ t. slice_get t 0) p.1)
no_simple c hs u v none lf cr e x (inr (inr (inl h))) b = u (sym (second_of e 117 c h.0 hs h.2 b).0)
no_simple c hs u v none lf cr e x (inr (inr (inr (inl h)))) b = v (sym (second_of e 85 c h.0 hs h.2 b).0)
no_simple c hs u v none lf cr e x (inr (inr (inr (inr h)))) b = u (sym (second_of e 117 c (h.0 ++ (92 ∷ 117 ∷ h.1)) hs h.4 b).0)

no_u : (hs : List Glyph) → ((ds : List ℕ) (m : ℕ) → WritesCode 4 ds m → BeginsWith ds hs → IsScalar m → ⊥)
    → ((ds es : List ℕ) (high low : ℕ) → WritesCode 4 ds (0xD800 + high) → WritesCode 4 es (0xDC00 + low) → high < 0x400 → low < 0x400 → (rest : List Glyph) → hs ≡ map Char ds ++ (Char 92 ∷ Char 117 ∷ (map Char es ++ rest)) → ⊥)
    → (e x : List ℕ) → IsEscape e x → BeginsWith e (Char 92 ∷ Char 117 ∷ hs) → ⊥
no_u hs scalars pairs e x (inl h) b =
    let same = (second_of e h.0 117 [] hs h.2 b).0 in let P : ℕ → Type 0 = λ n. simple n ≡ Some h.1 in let f = subst P same h.3 in cc
no_u hs scalars pairs e x (inr (inl h)) b = by_end h.0
  where
    by_end : (e ≡ 92 ∷ 10 ∷ []) ⊎ (e ≡ 92 ∷ 13 ∷ 10 ∷ []) → ⊥
    by_end (inl f) = let p = (second_of e 10 117 [] hs f b).0 in unequal 10 117 p refl refl
      where
        unequal : (m n : ℕ) → m ≡ n → m ≡ 10 → n ≡ 117 → ⊥
        unequal m n p q r = omega arith
    by_end (inr f) = let p = (second_of e 13 117 (10 ∷ []) hs f b).0 in unequal 13 117 p refl refl
      where
        unequal : (m n : ℕ) → m ≡ n → m ≡ 13 → n ≡ 117 → ⊥
        unequal m n p q r = omega arith
no_u hs scalars pairs e x (inr (inr (inl h))) b = scalars h.0 h.1 h.3 (b.0, (second_of e 117 117 h.0 hs h.2 b).1) h.4
no_u hs scalars pairs e x (inr (inr (inr (inl h)))) b = let p = (second_of e 85 117 h.0 hs h.2 b).0 in unequal 85 117 p refl refl
  where
    unequal : (m n : ℕ) → m ≡ n → m ≡ 85 → n ≡ 117 → ⊥
    unequal m n p q r = omega arith
no_u hs scalars pairs e x (inr (inr (inr (inr h)))) b =
    let p = (second_of e 117 117 (h.0 ++ (92 ∷ 117 ∷ h.1)) hs h.4 b).1 in
    pairs h.0 h.1 h.2 h.3 h.5 h.6 h.7 h.8 b.0 (front_of h.0 (92 ∷ 117 ∷ h.1) hs b.0 p)

no_long : (hs : List Glyph) → ((ds : List ℕ) (m : ℕ) → WritesCode 6 ds m → BeginsWith ds hs → IsScalar m → ⊥) → (e x : List ℕ) → IsEscape e x → BeginsWith e (Char 92 ∷ Char 85 ∷ hs) → ⊥
no_long hs scalars e x (inl h) b =
    let same = (second_of e h.0 85 [] hs h.2 b).0 in let P : ℕ → Type 0 = λ n. simple n ≡ Some h.1 in let f = subst P same h.3 in cc
no_long hs scalars e x (inr (inl h)) b = by_end h.0
  where
    by_end : (e ≡ 92 ∷ 10 ∷ []) ⊎ (e ≡ 92 ∷ 13 ∷ 10 ∷ []) → ⊥
    by_end (inl f) = let p = (second_of e 10 85 [] hs f b).0 in unequal 10 85 p refl refl
      where
        unequal : (m n : ℕ) → m ≡ n → m ≡ 10 → n ≡ 85 → ⊥
        unequal m n p q r = omega arith
    by_end (inr f) = let p = (second_of e 13 85 (10 ∷ []) hs f b).0 in unequal 13 85 p refl refl
      where
        unequal : (m n : ℕ) → m ≡ n → m ≡ 13 → n ≡ 85 → ⊥
        unequal m n p q r = omega arith
no_long hs scalars e x (inr (inr (inl h))) b = let p = (second_of e 117 85 h.0 hs h.2 b).0 in unequal 117 85 p refl refl
  where
    unequal : (m n : ℕ) → m ≡ n → m ≡ 117 → n ≡ 85 → ⊥
    unequal m n p q r = omega arith
no_long hs scalars e x (inr (inr (inr (inl h)))) b = scalars h.0 h.1 h.3 (b.0, (second_of e 85 85 h.0 hs h.2 b).1) h.4
no_long hs scalars e x (inr (inr (inr (inr h)))) b = let p = (second_of e 117 85 (h.0 ++ (92 ∷ 117 ∷ h.1)) hs h.4 b).0 in unequal 117 85 p refl refl
  where
    unequal : (m n : ℕ) → m ≡ n → m ≡ 117 → n ≡ 85 → ⊥
    unequal m n p q r = omega arith

-- ---- the code of four or six digits

abbrev Unless : Spot → Type 0
Unless s = (e x : List ℕ) → IsEscape e x → BeginsWith e (Char 92 ∷ s.glyphs) → ⊥

pub letter_walks : (c : ℕ) (cs : List ℕ) → All IsHex cs → Walks (Char 92 ∷ Char c ∷ map Char cs)
letter_walks c cs a = then_walks (Char 92 ∷ Char c ∷ []) (map Char cs) (taken_walks (Char c)) (hex_walks cs a)

goes_letter : (c : ℕ) (cs : List ℕ) (s t : Spot) (hs : List Glyph) → s.glyphs ≡ Char c ∷ hs → Goes (advanced s) (map Char cs) t → Goes s (map Char (c ∷ cs)) t
goes_letter c cs s t hs e g = then_goes s (advanced s) t (Char c ∷ []) (map Char cs) (goes_one s (Char c) hs e) g

no_escape_by : (c : ℕ) (cs : List ℕ) (s t : Spot) (hs : List Glyph) → s.glyphs ≡ Char c ∷ hs → All IsHex cs → Goes (advanced s) (map Char cs) t → ((e x : List ℕ) → IsEscape e x → BeginsWith e (Char 92 ∷ Char c ∷ hs) → ⊥) → NoEscape s t
no_escape_by c cs s t hs e a g none =
    let P : List Glyph → Type 0 = λ k. (e x : List ℕ) → IsEscape e x → BeginsWith e (Char 92 ∷ k) → ⊥ in
    record { over = map Char (c ∷ cs); goes = goes_letter c cs s t hs e g; walks = letter_walks c cs a; none = subst P (sym e) none }

long_by : (s t : Spot) (hs : List Glyph) (o : Option ℕ) → s.glyphs ≡ Char 85 ∷ hs → HexBy 6 (advanced s) o t
    → EscapeBy s (go_on o t (λ n v. record { value = scalar_of n; at = v })).value (go_on o t (λ n v. record { value = scalar_of n; at = v })).at
long_by s t hs None e h =
    let rest = rest_of s (Char 85) hs e in
    no_escape_by 85 h.cs s t hs e h.each h.goes (no_long hs (λ ds m w b _. let P : List Glyph → Type 0 = λ k. BeginsWith ds k in no_hex 6 (advanced s) t ds m h w (subst P (sym rest) b)))
long_by s t hs (Some n) e h = by_scalar (scalar_of n) refl
  where
    rest : (advanced s).glyphs ≡ hs
    rest = rest_of s (Char 85) hs e

    by_scalar : (o : Option ℕ) → scalar_of n ≡ o → EscapeBy s o t
    by_scalar None f =
        no_escape_by 85 h.cs s t hs e h.each h.goes
        (no_long hs (λ ds m w b scalar. let P : List Glyph → Type 0 = λ k. BeginsWith ds k in let one = one_code 6 n m (advanced s) t ds h w (subst P (sym rest) b) in scalar_none n f (subst (λ k. IsScalar k) (sym one.0) scalar)))
    by_scalar (Some d) f =
        let is = scalar_some n d f in
        record {
          text = 85 ∷ h.cs;
          goes = goes_letter 85 h.cs s t hs e h.goes;
          escape = inr (inr (inr (inl (h.cs, n, refl, (h.size, h.each, h.code), is.0, ap (λ k. k ∷ []) is.1))));
          walks = letter_walks 85 h.cs h.each;
        }

not_high : (n : ℕ) → IsScalar n → 0xD800 ≤ n → n < 0xDC00 → ⊥
not_high n s low high = grind (arith, nat_tests)

-- a high surrogate was read, and what is behind it decides
module _ (s t : Spot) (hs : List Glyph) (n : ℕ) (e : s.glyphs ≡ Char 117 ∷ hs) (h : HexSome 4 n (advanced s) t) where
  front_code : (ds : List ℕ) (m : ℕ) (rest : List Glyph) → WritesCode 4 ds m → hs ≡ map Char ds ++ rest → (n ≡ m) × (t.glyphs ≡ rest)
  front_code ds m rest w b = one_code 4 n m (advanced s) t ds h w (rest, rest_of s (Char 117) hs e ∙ b)

  no_scalar_here : 0xD800 ≤ n → n < 0xDC00 → (ds : List ℕ) (m : ℕ) → WritesCode 4 ds m → BeginsWith ds hs → IsScalar m → ⊥
  no_scalar_here low high ds m w b scalar = let one = front_code ds m b.0 w b.1 in not_high n (subst (λ k. IsScalar k) (sym one.0) scalar) low high

  alone : 0xD800 ≤ n → n < 0xDC00 → (sees 92 t.glyphs 0 && sees 117 t.glyphs 1) ≡ false → NoEscape s t
  alone low high unseen =
      no_escape_by 117 h.cs s t hs e h.each h.goes
      (no_u hs (no_scalar_here low high)
      (λ ds es hi lo w x small less rest shown.
      let one = front_code ds (0xD800 + hi) (Char 92 ∷ Char 117 ∷ (map Char es ++ rest)) w shown in
      let P : List Glyph → Type 0 = λ k. (sees 92 k 0 && sees 117 k 1) ≡ false in
      let f = subst P one.1 unseen in cc))

  module _ (ks : List Glyph) (f : t.glyphs ≡ Char 92 ∷ Char 117 ∷ ks) where
    behind : (advanced (advanced t)).glyphs ≡ ks
    behind = rest_of (advanced t) (Char 117) ks (rest_of t (Char 92) (Char 117 ∷ ks) f)

    goes_pair : (u : Spot) (ds : List ℕ) → Goes (advanced (advanced t)) (map Char ds) u → Goes s (map Char (117 ∷ (h.cs ++ (92 ∷ 117 ∷ ds)))) u
    goes_pair u ds g =
        let second = then_goes t (advanced t) u (Char 92 ∷ []) (map Char (117 ∷ ds)) (goes_one t (Char 92) (Char 117 ∷ ks) f) (goes_letter 117 ds (advanced t) u ks (rest_of t (Char 92) (Char 117 ∷ ks) f) g) in
        let whole = then_goes s t u (map Char (117 ∷ h.cs)) (map Char (92 ∷ 117 ∷ ds)) (goes_letter 117 h.cs s t hs e h.goes) second in
        subst (λ w. Goes s (Char 117 ∷ w) u) (sym (map-append Char h.cs (92 ∷ 117 ∷ ds))) whole

    pair_walks : (ds : List ℕ) → All IsHex ds → Walks (Char 92 ∷ map Char (117 ∷ (h.cs ++ (92 ∷ 117 ∷ ds))))
    pair_walks ds a =
        subst (λ w. Walks (Char 92 ∷ Char 117 ∷ w)) (sym (map-append Char h.cs (92 ∷ 117 ∷ ds)))
        (then_walks (Char 92 ∷ Char 117 ∷ map Char h.cs) (map Char (92 ∷ 117 ∷ ds)) (letter_walks 117 h.cs h.each) (letter_walks 117 ds a))

    no_pair : (u : Spot) (ds : List ℕ) → 0xD800 ≤ n → n < 0xDC00 → All IsHex ds → Goes (advanced (advanced t)) (map Char ds) u
        → ((es : List ℕ) (lo : ℕ) → WritesCode 4 es (0xDC00 + lo) → lo < 0x400 → BeginsWith es (advanced (advanced t)).glyphs → ⊥) → NoEscape s u
    no_pair u ds low high a g none =
        let P : List Glyph → Type 0 = λ k. (e x : List ℕ) → IsEscape e x → BeginsWith e (Char 92 ∷ k) → ⊥ in
        record {
          over = map Char (117 ∷ (h.cs ++ (92 ∷ 117 ∷ ds)));
          goes = goes_pair u ds g;
          walks = pair_walks ds a;
          none =
              subst P (sym e)
              (no_u hs (no_scalar_here low high)
              (λ cs es hi lo w x small less rest shown.
              let one = front_code cs (0xD800 + hi) (Char 92 ∷ Char 117 ∷ (map Char es ++ rest)) w shown in
              let tail : ks ≡ map Char es ++ rest = let both : Char 92 ∷ Char 117 ∷ ks ≡ Char 92 ∷ Char 117 ∷ (map Char es ++ rest) = sym f ∙ one.1 in cc in
              none es lo x less (rest, behind ∙ tail)));
        }

    low_by : (u : Spot) (low : ℕ) → 0xD800 ≤ n → n < 0xDC00 → HexSome 4 low (advanced (advanced t)) u → EscapeBy s (low_of n low u).value (low_of n low u).at
    low_by u low least most k = by_range (nat_lt low 0xDC00) (nat_lt 0xDFFF low) refl refl
      where
        code : ℕ
        code = 0x10000 + (n - 0xD800) * 0x400 + (low - 0xDC00)

        outside : (low < 0xDC00) ⊎ (0xDFFF < low) → NoEscape s u
        outside out =
            no_pair u k.cs least most k.each k.goes
            (λ es lo x less b. let one = one_code 4 low (0xDC00 + lo) (advanced (advanced t)) u es k x b in by_side out one.0 less)
          where
            by_side : {lo : ℕ} → (low < 0xDC00) ⊎ (0xDFFF < low) → low ≡ 0xDC00 + lo → lo < 0x400 → ⊥
            by_side (inl p) q r = omega arith
            by_side (inr p) q r = omega arith

        made : 0xDC00 ≤ low → low ≤ 0xDFFF → EscapeBy s (scalar_of (0x10000 + (n - 0xD800) * 0x400 + (low - 0xDC00))) u
        made p q = by_scalar (scalar_of (0x10000 + (n - 0xD800) * 0x400 + (low - 0xDC00))) refl
          where
            is_one : IsScalar (0x10000 + (n - 0xD800) * 0x400 + (low - 0xDC00))
            is_one = let low_bound : 0xE000 ≤ 0x10000 + (n - 0xD800) * 0x400 + (low - 0xDC00) = omega arith in let high_bound : 0x10000 + (n - 0xD800) * 0x400 + (low - 0xDC00) < 0x110000 = omega arith in scalar_between _ low_bound high_bound
              where
                scalar_between : (m : ℕ) → 0xE000 ≤ m → m < 0x110000 → IsScalar m
                scalar_between m x y = grind (arith, nat_tests)

            by_scalar : (o : Option ℕ) → scalar_of (0x10000 + (n - 0xD800) * 0x400 + (low - 0xDC00)) ≡ o → EscapeBy s o u
            by_scalar None f = absurd (scalar_none (0x10000 + (n - 0xD800) * 0x400 + (low - 0xDC00)) f is_one)
            by_scalar (Some d) f =
                let is = scalar_some (0x10000 + (n - 0xD800) * 0x400 + (low - 0xDC00)) d f in
                let high_part : n ≡ 0xD800 + (n - 0xD800) = omega arith in
                let low_part : low ≡ 0xDC00 + (low - 0xDC00) = omega arith in
                record {
                  text = 117 ∷ (h.cs ++ (92 ∷ 117 ∷ k.cs));
                  goes = goes_pair u k.cs k.goes;
                  escape = inr (inr (inr (inr (h.cs, k.cs, n - 0xD800, low - 0xDC00, refl, (h.size, h.each, sym high_part ∙ h.code), (k.size, k.each, sym low_part ∙ k.code), omega arith, omega arith, ap (λ m. m ∷ []) is.1))));
                  walks = pair_walks k.cs k.each;
                }

        by_range : (x y : Bool) → nat_lt low 0xDC00 ≡ x → nat_lt 0xDFFF low ≡ y → EscapeBy s (cond (x || y) (none_at u) (record { value = scalar_of (0x10000 + (n - 0xD800) * 0x400 + (low - 0xDC00)); at = u })).value (cond (x || y) (none_at u) (record { value = scalar_of (0x10000 + (n - 0xD800) * 0x400 + (low - 0xDC00)); at = u })).at
        by_range true y p q = outside (inl (ltb-true low 0xDC00 p))
        by_range false true p q = outside (inr (ltb-true 0xDFFF low q))
        by_range false false p q = made (ltb-false low 0xDC00 p) (ltb-false 0xDFFF low q)

    pair_by : (o : Option ℕ) (u : Spot) → 0xD800 ≤ n → n < 0xDC00 → HexBy 4 (advanced (advanced t)) o u → EscapeBy s (go_on o u (λ low v. low_of n low v)).value (go_on o u (λ low v. low_of n low v)).at
    pair_by None u low high k = no_pair u k.cs low high k.each k.goes (λ es lo x less b. no_hex 4 (advanced (advanced t)) u es (0xDC00 + lo) k x b)
    pair_by (Some m) u low high k = low_by u m low high k

two_seen_at : (x y : ℕ) (gs : List Glyph) → (sees x gs 0 && sees y gs 1) ≡ true → gs ≡ Char x ∷ Char y ∷ drop 2 gs
two_seen_at x y [] e = cc
two_seen_at x y (g ∷ []) e = let p = and_parts (sees x (g ∷ []) 0) false e in cc
two_seen_at x y (g ∷ h ∷ gs) e =
    let both = and_parts (sees x (g ∷ h ∷ gs) 0) (sees y (g ∷ h ∷ gs) 1) e in
    let p = char_is (Some g) x both.0 in let q = char_is (Some h) y both.1 in
    let first : g ≡ Char x = cc in let second : h ≡ Char y = cc in rw (first, second) refl

paired_by : (s t : Spot) (hs : List Glyph) (n : ℕ) → s.glyphs ≡ Char 117 ∷ hs → HexSome 4 n (advanced s) t → 0xD800 ≤ n → n < 0xDC00 → EscapeBy s (paired n t).value (paired n t).at
unfolding paired
paired_by s t hs n e h low high = by_test (sees 92 t.glyphs 0 && sees 117 t.glyphs 1) refl
  where
    by_test : (b : Bool) → (sees 92 t.glyphs 0 && sees 117 t.glyphs 1) ≡ b
        → EscapeBy s (cond b (and_then (hex_four (advanced (advanced t))) (λ l u. low_of n l u)) (none_at t)).value (cond b (and_then (hex_four (advanced (advanced t))) (λ l u. low_of n l u)) (none_at t)).at
    by_test true f = pair_by s t hs n e h (drop 2 t.glyphs) (two_seen_at 92 117 t.glyphs f) (hex_four (advanced (advanced t))).value (hex_four (advanced (advanced t))).at low high (hex_four_is (advanced (advanced t)))
    by_test false f = alone s t hs n e h low high f

plain_code : (s t : Spot) (hs : List Glyph) (n : ℕ) → s.glyphs ≡ Char 117 ∷ hs → HexSome 4 n (advanced s) t → ((0xD800 ≤ n) × (n < 0xDC00) → ⊥) → EscapeBy s (scalar_of n) t
plain_code s t hs n e h not_high = by_scalar (scalar_of n) refl
  where
    by_scalar : (o : Option ℕ) → scalar_of n ≡ o → EscapeBy s o t
    by_scalar None f =
        no_escape_by 117 h.cs s t hs e h.each h.goes
        (no_u hs (λ ds m w b scalar. let one = front_code s t hs n e h ds m b.0 w b.1 in scalar_none n f (subst (λ k. IsScalar k) (sym one.0) scalar))
        (λ ds es hi lo w x small less rest shown. let one = front_code s t hs n e h ds (0xD800 + hi) (Char 92 ∷ Char 117 ∷ (map Char es ++ rest)) w shown in let same = one.0 in not_high (omega arith, omega arith)))
    by_scalar (Some d) f =
        let is = scalar_some n d f in
        record {
          text = 117 ∷ h.cs;
          goes = goes_letter 117 h.cs s t hs e h.goes;
          escape = inr (inr (inl (h.cs, n, refl, (h.size, h.each, h.code), is.0, ap (λ k. k ∷ []) is.1)));
          walks = letter_walks 117 h.cs h.each;
        }

short_by : (s t : Spot) (hs : List Glyph) (o : Option ℕ) → s.glyphs ≡ Char 117 ∷ hs → HexBy 4 (advanced s) o t → EscapeBy s (go_on o t short_of).value (go_on o t short_of).at
short_by s t hs None e h =
    let rest = rest_of s (Char 117) hs e in
    let P : (ds : List ℕ) → List Glyph → Type 0 = λ ds k. BeginsWith ds k in
    no_escape_by 117 h.cs s t hs e h.each h.goes
    (no_u hs (λ ds m w b _. no_hex 4 (advanced s) t ds m h w (subst (P ds) (sym rest) b))
    (λ ds es hi lo w x small less more shown. no_hex 4 (advanced s) t ds (0xD800 + hi) h w (subst (P ds) (sym rest) (Char 92 ∷ Char 117 ∷ (map Char es ++ more), shown))))
short_by s t hs (Some n) e h = by_test (nat_le 0xD800 n) (nat_lt n 0xDC00) refl refl
  where
    by_test : (x y : Bool) → nat_le 0xD800 n ≡ x → nat_lt n 0xDC00 ≡ y → EscapeBy s (cond (x && y) (paired n t) (record { value = scalar_of n; at = t })).value (cond (x && y) (paired n t) (record { value = scalar_of n; at = t })).at
    by_test true true p q = paired_by s t hs n e h (leb-true 0xD800 n p) (ltb-true n 0xDC00 q)
    by_test true false p q = plain_code s t hs n e h (λ both. let f = ltb-false n 0xDC00 q in omega (arith, both.1))
    by_test false y p q = plain_code s t hs n e h (λ both. let f = leb-false 0xD800 n p in omega (arith, both.0))

-- what stands behind a backslash that no line end follows
pub character_is : (c : ℕ) (s : Spot) (hs : List Glyph) → s.glyphs ≡ Char c ∷ hs → is_line_end s ≡ false → EscapeBy s (character c s).value (character c s).at
unfolding character short long
character_is c s hs e plain_end = by_letter (c == 117) (c == 85) refl refl
  where
    by_simple : (o : Option ℕ) → (c ≡ 117 → ⊥) → (c ≡ 85 → ⊥) → simple c ≡ o → EscapeBy s o (advanced s)
    by_simple (Some d) u v f = record {
      text = c ∷ [];
      goes = goes_one s (Char c) hs e;
      escape = inl (c, d, refl, f, refl);
      walks = taken_walks (Char c);
    }
    by_simple None u v f =
        let P : List Glyph → Type 0 = λ k. (sees 10 k 0 || (sees 13 k 0 && sees 10 k 1)) ≡ false in
        no_escape_by c [] s (advanced s) hs e (All-nil IsHex) (stay (advanced s)) (no_simple c hs u v f (no_lf (subst P e plain_end)) (no_cr (subst P e plain_end)))
      where
        no_lf : (sees 10 (Char c ∷ hs) 0 || (sees 13 (Char c ∷ hs) 0 && sees 10 (Char c ∷ hs) 1)) ≡ false → c ≡ 10 → ⊥
        no_lf g is = let t : (c == 10) ≡ true = eq-eqb c 10 is in cc

        no_cr : (sees 10 (Char c ∷ hs) 0 || (sees 13 (Char c ∷ hs) 0 && sees 10 (Char c ∷ hs) 1)) ≡ false → c ≡ 13 → slice_get hs 0 ≡ Some (Char 10) → ⊥
        no_cr g is next =
            let t : (c == 13) ≡ true = eq-eqb c 13 is in
            let u : sees 10 (Char c ∷ hs) 1 ≡ true = ap (λ o. is_char o 10) next in
            both_there (c == 10) (c == 13) (sees 10 (Char c ∷ hs) 1) g t u
          where
            both_there : (x y z : Bool) → (x || (y && z)) ≡ false → y ≡ true → z ≡ true → ⊥
            both_there true y z a b d = cc
            both_there false true true a b d = cc
            both_there false true false a b d = cc
            both_there false false z a b d = cc

    by_letter : (x y : Bool) → (c == 117) ≡ x → (c == 85) ≡ y
        → EscapeBy s (cond x (and_then (hex_four (advanced s)) short_of) (cond y (and_then (hex_six (advanced s)) (λ n t. record { value = scalar_of n; at = t })) (record { value = simple c; at = advanced s }))).value
        (cond x (and_then (hex_four (advanced s)) short_of) (cond y (and_then (hex_six (advanced s)) (λ n t. record { value = scalar_of n; at = t })) (record { value = simple c; at = advanced s }))).at
    by_letter true y p q = short_by s (hex_four (advanced s)).at hs (hex_four (advanced s)).value (e ∙ ap (λ n. Char n ∷ hs) (eqb-true c 117 p)) (hex_four_is (advanced s))
    by_letter false true p q = long_by s (hex_six (advanced s)).at hs (hex_six (advanced s)).value (e ∙ ap (λ n. Char n ∷ hs) (eqb-true c 85 q)) (hex_six_is (advanced s))
    by_letter false false p q = by_simple (simple c) (eqb-false c 117 p) (eqb-false c 85 q) refl
