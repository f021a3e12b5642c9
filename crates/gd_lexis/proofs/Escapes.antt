-- Escapes are told apart by what they begin with.
use Rattle.std.proofs.Common.{◌≡◌, ◌≢◌, ℕ, ◌+◌, ◌*◌, ◌<◌, List, [], ◌∷◌, ◌++◌, refl, ap, sym, ◌∙◌, subst, inl, inr, arith, append_assoc}
use Rattle.std.specs.Prelude.{◌⊎◌, Some, None, fold}
use Rattle.std.specs.Char.{IsScalar, digit_value}
use lib.Utf8.{scalar_cases}
use Rattle.gd_lexis.specs.Strings.{WritesCode, IsEscape, simple}
use Rattle.gd_lexis.proofs.Lists.{same_parts, cons_parts}

-- what stands behind the backslash and this character, and what the escape stands for
pub data Means (c : ℕ) (more s : List ℕ) : Type 0 where
  one : (d : ℕ) → simple c ≡ Some d → more ≡ [] → s ≡ d ∷ [] → Means c more s
  line_feed : c ≡ 10 → more ≡ [] → s ≡ [] → Means c more s
  line_end : c ≡ 13 → more ≡ 10 ∷ [] → s ≡ [] → Means c more s
  short : (n : ℕ) → c ≡ 117 → WritesCode 4 more n → IsScalar n → s ≡ n ∷ [] → Means c more s
  long : (n : ℕ) → c ≡ 85 → WritesCode 6 more n → IsScalar n → s ≡ n ∷ [] → Means c more s
  pair : (first second : List ℕ) (high low : ℕ) → c ≡ 117 → more ≡ first ++ 92 ∷ 117 ∷ second → WritesCode 4 first (0xD800 + high) → WritesCode 4 second (0xDC00 + low)
      → high < 0x400 → low < 0x400 → s ≡ (0x10000 + high * 0x400 + low) ∷ [] → Means c more s

pub meant : (e s : List ℕ) → IsEscape e s → (c : ℕ) × (more : List ℕ) × (e ≡ 92 ∷ c ∷ more) × Means c more s
meant e s (inl h) = (h.0, [], h.2, one h.1 h.3 refl h.4)
meant e s (inr (inl (inl h, k))) = (10, [], h, line_feed refl refl k)
meant e s (inr (inl (inr h, k))) = (13, 10 ∷ [], h, line_end refl refl k)
meant e s (inr (inr (inl h))) = (117, h.0, h.2, short h.1 refl h.3 h.4 h.5)
meant e s (inr (inr (inr (inl h)))) = (85, h.0, h.2, long h.1 refl h.3 h.4 h.5)
meant e s (inr (inr (inr (inr h)))) = (117, h.0 ++ 92 ∷ 117 ∷ h.1, h.4, pair h.0 h.1 h.2 h.3 refl refl h.5 h.6 h.7 h.8 h.9)

some_none : (d : ℕ) → None ≡ Some d → ⊥
some_none d e = cc

at_code : (c k d : ℕ) → simple k ≡ None → simple c ≡ Some d → c ≡ k → ⊥
at_code c k d none h e = some_none d (sym none ∙ ap simple (sym e) ∙ h)

-- none of these characters stands for another one
record Others (c : ℕ) : Type 0 where
  line_feed : c ≢ 10
  carriage_return : c ≢ 13
  u : c ≢ 117
  big_u : c ≢ 85

others : (c d : ℕ) → simple c ≡ Some d → Others c
others c d h = record { line_feed = λ e. at_code c 10 d refl h e; carriage_return = λ e. at_code c 13 d refl h e; u = λ e. at_code c 117 d refl h e; big_u = λ e. at_code c 85 d refl h e }

one_code : (count m n : ℕ) (cs ds us vs : List ℕ) → WritesCode count cs m → WritesCode count ds n → cs ++ us ≡ ds ++ vs → (cs ≡ ds) × (us ≡ vs) × (m ≡ n)
one_code count m n cs ds us vs h k e =
    let parts = same_parts cs ds us vs (h.0 ∙ sym k.0) e in
    (parts.0, parts.1, h.2 ∙ ap (λ t. fold (λ n c. n * 16 + digit_value c) 0 t) parts.0 ∙ sym k.2)

no_surrogate : (m n high : ℕ) → IsScalar m → m ≡ n → n ≡ 0xD800 + high → high < 0x400 → ⊥
no_surrogate m n high scalar e f small = omega (arith, scalar_cases m scalar)

short_pair : (n high : ℕ) (hex first back us vs : List ℕ) → WritesCode 4 hex n → IsScalar n → WritesCode 4 first (0xD800 + high) → high < 0x400
    → hex ++ us ≡ (first ++ back) ++ vs → ⊥
short_pair n high hex first back us vs h scalar k small e =
    let same = one_code 4 n (0xD800 + high) hex first us (back ++ vs) h k (e ∙ append_assoc first back vs) in
    no_surrogate n (0xD800 + high) high scalar same.2 refl small

apart : {P : Type 0} (c : ℕ) → Others c → (c ≡ 10) ⊎ ((c ≡ 13) ⊎ ((c ≡ 117) ⊎ (c ≡ 85))) → P
apart c h (inl e) = absurd (h.line_feed e)
apart c h (inr (inl e)) = absurd (h.carriage_return e)
apart c h (inr (inr (inl e))) = absurd (h.u e)
apart c h (inr (inr (inr e))) = absurd (h.big_u e)

pairs : (first second first' second' : List ℕ) (high low high' low' : ℕ) (us vs : List ℕ) → WritesCode 4 first (0xD800 + high) → WritesCode 4 first' (0xD800 + high')
    → WritesCode 4 second (0xDC00 + low) → WritesCode 4 second' (0xDC00 + low') → (first ++ 92 ∷ 117 ∷ second) ++ us ≡ (first' ++ 92 ∷ 117 ∷ second') ++ vs
    → (first ≡ first') × (second ≡ second') × (high ≡ high') × (low ≡ low')
pairs first second first' second' high low high' low' us vs h h' k k' e =
    let back = 92 ∷ 117 ∷ second in
    let back' = 92 ∷ 117 ∷ second' in
    let fronts = one_code 4 (0xD800 + high) (0xD800 + high') first first' (back ++ us) (back' ++ vs) h h' (sym (append_assoc first back us) ∙ e ∙ append_assoc first' back' vs) in
    let behind = cons_parts 92 92 (117 ∷ second ++ us) (117 ∷ second' ++ vs) fronts.1 in
    let behind' = cons_parts 117 117 (second ++ us) (second' ++ vs) behind.1 in
    let ends = one_code 4 (0xDC00 + low) (0xDC00 + low') second second' us vs k k' behind'.1 in
    (fronts.0, ends.0, omega (arith, fronts.2), omega (arith, ends.2))

pub one_meaning : (c : ℕ) (more other s t us vs : List ℕ) → Means c more s → Means c other t → more ++ us ≡ other ++ vs → (more ≡ other) × (s ≡ t)
one_meaning c more other s t us vs (one d h e f) (one d' h' e' f') g =
    let same : Some d ≡ Some d' = sym h ∙ h' in
    let value : d ≡ d' = cc in
    (e ∙ sym e', f ∙ ap (λ n. n ∷ []) value ∙ sym f')
one_meaning c more other s t us vs (one d h e f) (line_feed h' e' f') g = apart c (others c d h) (inl h')
one_meaning c more other s t us vs (one d h e f) (line_end h' e' f') g = apart c (others c d h) (inr (inl h'))
one_meaning c more other s t us vs (one d h e f) (short n h' w a f') g = apart c (others c d h) (inr (inr (inl h')))
one_meaning c more other s t us vs (one d h e f) (long n h' w a f') g = apart c (others c d h) (inr (inr (inr h')))
one_meaning c more other s t us vs (one d h e f) (pair x y i j h' m w v l k f') g = apart c (others c d h) (inr (inr (inl h')))
one_meaning c more other s t us vs (line_feed h e f) (one d h' e' f') g = apart c (others c d h') (inl h)
one_meaning c more other s t us vs (line_feed h e f) (line_feed h' e' f') g = (e ∙ sym e', f ∙ sym f')
one_meaning c more other s t us vs (line_feed h e f) (line_end h' e' f') g = absurd (omega arith)
one_meaning c more other s t us vs (line_feed h e f) (short n h' w a f') g = absurd (omega arith)
one_meaning c more other s t us vs (line_feed h e f) (long n h' w a f') g = absurd (omega arith)
one_meaning c more other s t us vs (line_feed h e f) (pair x y i j h' m w v l k f') g = absurd (omega arith)
one_meaning c more other s t us vs (line_end h e f) (one d h' e' f') g = apart c (others c d h') (inr (inl h))
one_meaning c more other s t us vs (line_end h e f) (line_feed h' e' f') g = absurd (omega arith)
one_meaning c more other s t us vs (line_end h e f) (line_end h' e' f') g = (e ∙ sym e', f ∙ sym f')
one_meaning c more other s t us vs (line_end h e f) (short n h' w a f') g = absurd (omega arith)
one_meaning c more other s t us vs (line_end h e f) (long n h' w a f') g = absurd (omega arith)
one_meaning c more other s t us vs (line_end h e f) (pair x y i j h' m w v l k f') g = absurd (omega arith)
one_meaning c more other s t us vs (short n h w a f) (one d h' e' f') g = apart c (others c d h') (inr (inr (inl h)))
one_meaning c more other s t us vs (short n h w a f) (line_feed h' e' f') g = absurd (omega arith)
one_meaning c more other s t us vs (short n h w a f) (line_end h' e' f') g = absurd (omega arith)
one_meaning c more other s t us vs (short n h w a f) (short n' h' w' a' f') g =
    let same = one_code 4 n n' more other us vs w w' g in
    (same.0, f ∙ ap (λ n. n ∷ []) same.2 ∙ sym f')
one_meaning c more other s t us vs (short n h w a f) (long n' h' w' a' f') g = absurd (omega arith)
one_meaning c more other s t us vs (short n h w a f) (pair x y i j h' m w' v l k f') g =
    absurd (short_pair n i more x (92 ∷ 117 ∷ y) us vs w a w' l (g ∙ ap (λ r. r ++ vs) m))
one_meaning c more other s t us vs (long n h w a f) (one d h' e' f') g = apart c (others c d h') (inr (inr (inr h)))
one_meaning c more other s t us vs (long n h w a f) (line_feed h' e' f') g = absurd (omega arith)
one_meaning c more other s t us vs (long n h w a f) (line_end h' e' f') g = absurd (omega arith)
one_meaning c more other s t us vs (long n h w a f) (short n' h' w' a' f') g = absurd (omega arith)
one_meaning c more other s t us vs (long n h w a f) (long n' h' w' a' f') g =
    let same = one_code 6 n n' more other us vs w w' g in
    (same.0, f ∙ ap (λ n. n ∷ []) same.2 ∙ sym f')
one_meaning c more other s t us vs (long n h w a f) (pair x y i j h' m w' v l k f') g = absurd (omega arith)
one_meaning c more other s t us vs (pair x y i j h m w v l k f) (one d h' e' f') g = apart c (others c d h') (inr (inr (inl h)))
one_meaning c more other s t us vs (pair x y i j h m w v l k f) (line_feed h' e' f') g = absurd (omega arith)
one_meaning c more other s t us vs (pair x y i j h m w v l k f) (line_end h' e' f') g = absurd (omega arith)
one_meaning c more other s t us vs (pair x y i j h m w v l k f) (short n' h' w' a' f') g =
    absurd (short_pair n' i other x (92 ∷ 117 ∷ y) vs us w' a' w l (sym g ∙ ap (λ r. r ++ us) m))
one_meaning c more other s t us vs (pair x y i j h m w v l k f) (long n' h' w' a' f') g = absurd (omega arith)
one_meaning c more other s t us vs (pair x y i j h m w v l k f) (pair x' y' i' j' h' m' w' v' l' k' f') g =
    let same = pairs x y x' y' i j i' j' us vs w w' v v' (ap (λ r. r ++ us) (sym m) ∙ g ∙ ap (λ r. r ++ vs) m') in
    let first : x ≡ x' = same.0 in
    let second : y ≡ y' = same.1 in
    let high : i ≡ i' = same.2 in
    let low : j ≡ j' = same.3 in
    (cc, cc)

-- two escapes with which one text begins are one
pub one_escape : (e f s t us vs : List ℕ) → IsEscape e s → IsEscape f t → e ++ us ≡ f ++ vs → (e ≡ f) × (s ≡ t)
one_escape e f s t us vs h k g =
    let a = meant e s h in
    let b = meant f t k in
    let begun : 92 ∷ a.0 ∷ a.1 ++ us ≡ 92 ∷ b.0 ∷ b.1 ++ vs = ap (λ r. r ++ us) (sym a.2) ∙ g ∙ ap (λ r. r ++ vs) b.2 in
    let behind = cons_parts 92 92 (a.0 ∷ a.1 ++ us) (b.0 ∷ b.1 ++ vs) begun in
    let behind' = cons_parts a.0 b.0 (a.1 ++ us) (b.1 ++ vs) behind.1 in
    let code : a.0 ≡ b.0 = behind'.0 in
    let P : ℕ → Type 0 = λ c. Means c b.1 t in
    let same = one_meaning a.0 a.1 b.1 s t us vs a.3 (subst P (sym code) b.3) behind'.1 in
    let more : a.1 ≡ b.1 = same.0 in
    let texts : 92 ∷ a.0 ∷ a.1 ≡ 92 ∷ b.0 ∷ b.1 = cc in
    (a.2 ∙ texts ∙ sym b.2, same.1)
