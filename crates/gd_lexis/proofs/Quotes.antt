-- Where what is left is cut to its end, no rule on strings is broken.
use Rattle.std.proofs.Common.{◌≡◌, ◌≢◌, ℕ, ◌<◌, Bool, true, false, ◌&&◌, ◌==◌, nat_eq, List, [], ◌∷◌, ◌++◌, map, refl, ap, sym, ◌∙◌, subst, inl, inr, arith, append_assoc, replicate}
use Rattle.std.specs.Prelude.{◌⊎◌, All, Some, None}
use Rattle.std.specs.List.{starts_with}
use Rattle.std.specs.Char.{digit_value}
use Rattle.std.proofs.lemmas.Bool.{eq-eqb, ne_eqb, and_from, and_left}
use Rattle.std.proofs.lemmas.List.{map-append}
use Rattle.std.proofs.lemmas.List.Elements.{All-head, All-tail}
use Rattle.gd_lexis.specs.declared.glyph.Glyph.{Glyph}
use Rattle.gd_lexis.specs.declared.glyph.Glyph.TheVariants.{Char}
use Rattle.gd_lexis.specs.Strings.{Quote, IsQuote, closing, ends_here, begins_line_end, simple, IsEscape, Body, nothing, plain, line_end, escape, kept, kept_line_end}
use Rattle.gd_lexis.specs.Pieces.{BeginsWith}
use Rattle.gd_lexis.specs.Faults.{Inside, nothing as in_nothing, plain as in_plain, taken}
use Rattle.gd_lexis.proofs.Escapes.{Means, one as means_one, line_feed as means_feed, line_end as means_end, short, long, pair, meant}
use Rattle.gd_lexis.proofs.Bodies.{not_both}
use Rattle.gd_lexis.proofs.Cuts.{char_parts}

-- ---- the ends of a string

abbrev ends_by : List ℕ → List ℕ → Bool
ends_by k cs = starts_with nat_eq (cs ++ k) k

abbrev pub IsClosing : ℕ → List ℕ → Type 0
IsClosing m k = (k ≡ m ∷ []) ⊎ (k ≡ m ∷ m ∷ m ∷ [])

pub closings : (q : Quote) → IsQuote q → IsClosing q.mark (closing q)
closings q (m, inl e) = inl (ap (λ n. replicate n q.mark) e)
closings q (m, inr e) = inr (ap (λ n. replicate n q.mark) e)

not_ended : (m c : ℕ) (cs k : List ℕ) → c ≢ m → IsClosing m k → ends_by k (c ∷ cs) ≡ false
not_ended m c cs k h (inl e) = ap (λ k. ends_by k (c ∷ cs)) e ∙ and_left (nat_eq m c) _ (ne_eqb m c (λ f. h (sym f)))
not_ended m c cs k h (inr e) = ap (λ k. ends_by k (c ∷ cs)) e ∙ and_left (nat_eq m c) _ (ne_eqb m c (λ f. h (sym f)))

pub closing_head : (m c : ℕ) (us vs : List Glyph) (k : List ℕ) → IsClosing m k → map Char k ++ vs ≡ Char c ∷ us → m ≡ c
closing_head m c us vs k (inl e) h = (char_parts m c vs us (ap (λ t. map Char t ++ vs) (sym e) ∙ h)).0
closing_head m c us vs k (inr e) h = (char_parts m c (Char m ∷ Char m ∷ vs) us (ap (λ t. map Char t ++ vs) (sym e) ∙ h)).0

ended_one : (m c : ℕ) (cs : List ℕ) → c ≡ m → ends_by (m ∷ []) (c ∷ cs) ≡ true
ended_one m c cs h = and_from (nat_eq m c) true (eq-eqb m c (sym h)) refl

three_tests : (m c d e : ℕ) → c ≡ m → d ≡ m → e ≡ m → (nat_eq m c && (nat_eq m d && (nat_eq m e && true))) ≡ true
three_tests m c d e h k l = and_from (nat_eq m c) _ (eq-eqb m c (sym h)) (and_from (nat_eq m d) _ (eq-eqb m d (sym k)) (and_from (nat_eq m e) true (eq-eqb m e (sym l)) refl))

ended_three : (m c : ℕ) (cs : List ℕ) (rest us : List Glyph) → Char c ∷ map Char cs ++ (Char m ∷ Char m ∷ Char m ∷ rest) ≡ Char m ∷ Char m ∷ Char m ∷ us → ends_by (m ∷ m ∷ m ∷ []) (c ∷ cs) ≡ true
ended_three m c [] rest us e = three_tests m c m m (char_parts c m (Char m ∷ Char m ∷ Char m ∷ rest) (Char m ∷ Char m ∷ us) e).0 refl refl
ended_three m c (d ∷ []) rest us e =
    let first = char_parts c m (Char d ∷ Char m ∷ Char m ∷ Char m ∷ rest) (Char m ∷ Char m ∷ us) e in
    three_tests m c d m first.0 (char_parts d m (Char m ∷ Char m ∷ Char m ∷ rest) (Char m ∷ us) first.1).0 refl
ended_three m c (d ∷ x ∷ cs) rest us e =
    let first = char_parts c m (Char d ∷ Char x ∷ map Char cs ++ (Char m ∷ Char m ∷ Char m ∷ rest)) (Char m ∷ Char m ∷ us) e in
    let second = char_parts d m (Char x ∷ map Char cs ++ (Char m ∷ Char m ∷ Char m ∷ rest)) (Char m ∷ us) first.1 in
    three_tests m c d x first.0 second.0 (char_parts x m (map Char cs ++ (Char m ∷ Char m ∷ Char m ∷ rest)) us second.1).0

-- where the end's marks stand, the string ends
ended_by : (m c : ℕ) (cs k : List ℕ) (rest : List Glyph) → IsClosing m k → BeginsWith k (Char c ∷ map Char cs ++ (map Char k ++ rest)) → ends_by k (c ∷ cs) ≡ true
ended_by m c cs k rest (inl e) h =
    let glyphs : Char c ∷ map Char cs ++ (map Char k ++ rest) ≡ Char m ∷ h.0 = h.1 ∙ ap (λ t. map Char t ++ h.0) e in
    ap (λ k. ends_by k (c ∷ cs)) e ∙ ended_one m c cs (char_parts c m (map Char cs ++ (map Char k ++ rest)) h.0 glyphs).0
ended_by m c cs k rest (inr e) h =
    let glyphs : Char c ∷ map Char cs ++ (Char m ∷ Char m ∷ Char m ∷ rest) ≡ Char m ∷ Char m ∷ Char m ∷ h.0 =
    ap (λ t. Char c ∷ map Char cs ++ (map Char t ++ rest)) (sym e) ∙ h.1 ∙ ap (λ t. map Char t ++ h.0) e in
    ap (λ k. ends_by k (c ∷ cs)) e ∙ ended_three m c cs rest h.0 glyphs

no_end : (q : Quote) (c : ℕ) (cs : List ℕ) (rest : List Glyph) → IsQuote q → ends_here q (c ∷ cs) ≡ false → BeginsWith (closing q) (Char c ∷ map Char cs ++ (map Char (closing q) ++ rest)) → ⊥
no_end q c cs rest h k b = not_both (ends_here q (c ∷ cs)) (ended_by q.mark c cs (closing q) rest (closings q h) b) k

pub no_end_at : (q : Quote) (c : ℕ) (us : List Glyph) → IsQuote q → c ≢ q.mark → BeginsWith (closing q) (Char c ∷ us) → ⊥
no_end_at q c us h other b = other (sym (closing_head q.mark c us b.0 (closing q) (closings q h) (sym b.1)))

pub char_same : (c d : ℕ) → Char c ≡ Char d → c ≡ d
char_same c d e = cc

pub mark_apart : (q : Quote) (c : ℕ) → IsQuote q → c ≢ 34 → c ≢ 39 → c ≢ q.mark
mark_apart q c (inl e, k) h i f = h (f ∙ e)
mark_apart q c (inr e, k) h i f = i (f ∙ e)

no_value : (c d : ℕ) → digit_value d ≡ 36 → digit_value c < 16 → c ≢ d
no_value c d value h e = let same : digit_value c ≡ 36 = ap digit_value e ∙ value in omega arith

-- ---- what stands between the ends is inside of them

plain_glyph : (q : Quote) (rest : List Glyph) (c : ℕ) (us : List Glyph) → IsQuote q → c ≢ 92 → c ≢ 34 → c ≢ 39 → Inside q rest us → Inside q rest (Char c ∷ us)
plain_glyph q rest c us h k l m i = in_plain (Char c) us (λ e. k (char_same c 92 e)) (no_end_at q c (us ++ rest) h (mark_apart q c h l m)) i

inside_digits : (q : Quote) (rest us : List Glyph) (hex : List ℕ) → IsQuote q → All (λ c. digit_value c < 16) hex → Inside q rest us → Inside q rest (map Char hex ++ us)
inside_digits q rest us [] h all i = i
inside_digits q rest us (c ∷ hex) h all i =
    let small : digit_value c < 16 = All-head (λ c. digit_value c < 16) c hex all in
    plain_glyph q rest c (map Char hex ++ us) h (no_value c 92 refl small) (no_value c 34 refl small) (no_value c 39 refl small)
    (inside_digits q rest us hex h (All-tail (λ c. digit_value c < 16) c hex all) i)

inside_meaning : (q : Quote) (c : ℕ) (more s : List ℕ) (rest us : List Glyph) → IsQuote q → Means c more s → Inside q rest us → Inside q rest (Char 92 ∷ Char c ∷ map Char more ++ us)
inside_meaning q c more s rest us h (means_one d k e f) i = let P : List ℕ → Type 0 = λ t. Inside q rest (Char 92 ∷ Char c ∷ map Char t ++ us) in subst P (sym e) (taken (Char c) us i)
inside_meaning q c more s rest us h (means_feed k e f) i = let P : List ℕ → Type 0 = λ t. Inside q rest (Char 92 ∷ Char c ∷ map Char t ++ us) in subst P (sym e) (taken (Char c) us i)
inside_meaning q c more s rest us h (means_end k e f) i =
    let P : List ℕ → Type 0 = λ t. Inside q rest (Char 92 ∷ Char c ∷ map Char t ++ us) in
    subst P (sym e) (taken (Char c) (Char 10 ∷ us) (plain_glyph q rest 10 us h (omega arith) (omega arith) (omega arith) i))
inside_meaning q c more s rest us h (short n k w a f) i = taken (Char c) (map Char more ++ us) (inside_digits q rest us more h w.1 i)
inside_meaning q c more s rest us h (long n k w a f) i = taken (Char c) (map Char more ++ us) (inside_digits q rest us more h w.1 i)
inside_meaning q c more s rest us h (pair x y j l k e w v m n f) i =
    let behind = taken (Char 117) (map Char y ++ us) (inside_digits q rest us y h v.1 i) in
    let digits = inside_digits q rest (Char 92 ∷ Char 117 ∷ map Char y ++ us) x h w.1 behind in
    let glyphs : map Char more ++ us ≡ map Char x ++ (Char 92 ∷ Char 117 ∷ map Char y ++ us) =
    ap (λ t. map Char t ++ us) e ∙ ap (λ t. t ++ us) (map-append Char x (92 ∷ 117 ∷ y)) ∙ append_assoc (map Char x) (map Char (92 ∷ 117 ∷ y)) us in
    let P : List Glyph → Type 0 = λ t. Inside q rest (Char 92 ∷ Char c ∷ t) in
    subst P (sym glyphs) (taken (Char c) (map Char x ++ (Char 92 ∷ Char 117 ∷ map Char y ++ us)) digits)

inside_escape : (q : Quote) (e s : List ℕ) (rest us : List Glyph) → IsQuote q → IsEscape e s → Inside q rest us → Inside q rest (map Char e ++ us)
inside_escape q e s rest us h k i =
    let m = meant e s k in
    let P : List ℕ → Type 0 = λ t. Inside q rest (map Char t ++ us) in
    subst P (sym m.2) (inside_meaning q m.0 m.1 s rest us h m.3 i)

pub inside_of : (q : Quote) (rest : List Glyph) {body t : List ℕ} → IsQuote q → Body q body t → Inside q (map Char (closing q) ++ rest) (map Char body)
inside_of q rest h nothing = in_nothing
inside_of q rest h (plain c cs t k l m b) = in_plain (Char c) (map Char cs) (λ e. k (char_same c 92 e)) (no_end q c cs rest h l) (inside_of q rest h b)
inside_of q rest h (line_end cs t b) =
    let end = map Char (closing q) ++ rest in
    plain_glyph q end 13 (Char 10 ∷ map Char cs) h (omega arith) (omega arith) (omega arith) (plain_glyph q end 10 (map Char cs) h (omega arith) (omega arith) (omega arith) (inside_of q rest h b))
inside_of q rest h (escape e s cs t k l b) =
    let P : List Glyph → Type 0 = λ x. Inside q (map Char (closing q) ++ rest) x in
    subst P (sym (map-append Char e cs)) (inside_escape q e s (map Char (closing q) ++ rest) (map Char cs) h l (inside_of q rest h b))
inside_of q rest h (kept c cs t k l b) = taken (Char c) (map Char cs) (inside_of q rest h b)
inside_of q rest h (kept_line_end cs t k b) =
    taken (Char 13) (Char 10 ∷ map Char cs) (plain_glyph q (map Char (closing q) ++ rest) 10 (map Char cs) h (omega arith) (omega arith) (omega arith) (inside_of q rest h b))

-- ---- what can stand in a string can stand in a raw one

abbrev pub raw : Quote → Quote
raw q = record { is_raw = true; mark = q.mark; count = q.count }

abbrev pub RawBody : Quote → List ℕ → Type 0
RawBody q cs = (t : List ℕ) × Body (raw q) cs t

not_return : (c : ℕ) (cs : List ℕ) → c ≢ 13 → begins_line_end (c ∷ cs) ≡ false
not_return c cs h = and_left (c == 13) _ (ne_eqb c 13 h)

raw_digits : (q : Quote) (hex cs : List ℕ) → IsQuote q → All (λ c. digit_value c < 16) hex → RawBody q cs → RawBody q (hex ++ cs)
raw_digits q [] cs h all b = b
raw_digits q (c ∷ hex) cs h all b =
    let small : digit_value c < 16 = All-head (λ c. digit_value c < 16) c hex all in
    let more = raw_digits q hex cs h (All-tail (λ c. digit_value c < 16) c hex all) b in
    let other = mark_apart q c h (no_value c 34 refl small) (no_value c 39 refl small) in
    (c ∷ more.0, plain c (hex ++ cs) more.0 (no_value c 92 refl small) (not_ended q.mark c (hex ++ cs) (closing q) other (closings q h)) (not_return c (hex ++ cs) (no_value c 13 refl small)) more.1)

raw_kept : (q : Quote) (c : ℕ) (cs : List ℕ) → c ≢ 13 → RawBody q cs → RawBody q (92 ∷ c ∷ cs)
raw_kept q c cs h b = (92 ∷ c ∷ b.0, kept c cs b.0 refl (not_return c cs h) b.1)

no_simple_return : (c d : ℕ) → simple c ≡ Some d → c ≢ 13
no_simple_return c d h e = some_none d (ap simple (sym e) ∙ h)
  where
    some_none : (d : ℕ) → None ≡ Some d → ⊥
    some_none d e = cc

raw_meaning : (q : Quote) (c : ℕ) (more s cs : List ℕ) → IsQuote q → Means c more s → RawBody q cs → RawBody q (92 ∷ c ∷ more ++ cs)
raw_meaning q c more s cs h (means_one d k e f) b = let P : List ℕ → Type 0 = λ t. RawBody q (92 ∷ c ∷ t ++ cs) in subst P (sym e) (raw_kept q c cs (no_simple_return c d k) b)
raw_meaning q c more s cs h (means_feed k e f) b = let P : List ℕ → Type 0 = λ t. RawBody q (92 ∷ c ∷ t ++ cs) in subst P (sym e) (raw_kept q c cs (omega arith) b)
raw_meaning q c more s cs h (means_end k e f) b =
    let P : List ℕ → Type 0 = λ t. RawBody q (92 ∷ t ++ cs) in
    subst P (ap (λ x. x ∷ 10 ∷ []) (sym k) ∙ ap (λ t. c ∷ t) (sym e)) (92 ∷ 10 ∷ b.0, kept_line_end cs b.0 refl b.1)
raw_meaning q c more s cs h (short n k w a f) b = raw_kept q c (more ++ cs) (omega arith) (raw_digits q more cs h w.1 b)
raw_meaning q c more s cs h (long n k w a f) b = raw_kept q c (more ++ cs) (omega arith) (raw_digits q more cs h w.1 b)
raw_meaning q c more s cs h (pair x y i j k e w v l m f) b =
    let behind = raw_kept q 117 (y ++ cs) (omega arith) (raw_digits q y cs h v.1 b) in
    let P : List ℕ → Type 0 = λ t. RawBody q t in
    let digits : RawBody q ((x ++ 92 ∷ 117 ∷ y) ++ cs) = subst P (sym (append_assoc x (92 ∷ 117 ∷ y) cs)) (raw_digits q x (92 ∷ 117 ∷ y ++ cs) h w.1 behind) in
    let R : List ℕ → Type 0 = λ t. RawBody q (92 ∷ c ∷ t ++ cs) in
    subst R (sym e) (raw_kept q c ((x ++ 92 ∷ 117 ∷ y) ++ cs) (omega arith) digits)

raw_escape : (q : Quote) (e s cs : List ℕ) → IsQuote q → IsEscape e s → RawBody q cs → RawBody q (e ++ cs)
raw_escape q e s cs h k b =
    let m = meant e s k in
    let P : List ℕ → Type 0 = λ t. RawBody q (t ++ cs) in
    subst P (sym m.2) (raw_meaning q m.0 m.1 s cs h m.3 b)

pub raw_body : (q : Quote) {body t : List ℕ} → IsQuote q → q.is_raw ≡ false → Body q body t → RawBody q body
raw_body q h r nothing = ([], nothing)
raw_body q h r (plain c cs t k l m b) = let more = raw_body q h r b in (c ∷ more.0, plain c cs more.0 k l m more.1)
raw_body q h r (line_end cs t b) = let more = raw_body q h r b in (10 ∷ more.0, line_end cs more.0 more.1)
raw_body q h r (escape e s cs t k l b) = raw_escape q e s cs h l (raw_body q h r b)
raw_body q h r (kept c cs t k l b) = absurd (not_both q.is_raw k r)
raw_body q h r (kept_line_end cs t k b) = absurd (not_both q.is_raw k r)
