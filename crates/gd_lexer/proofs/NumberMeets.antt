-- The number that is read is the longest that begins there, with its value.
use Rattle.std.proofs.Common.{◌≡◌, ℕ, ◌+◌, ◌*◌, ◌^◌, ◌<◌, ◌≤◌, Bool, true, false, cond, List, [], ◌∷◌, ◌++◌, length, drop, slice_get, map, refl, ap, sym, ◌∙◌, arith, subst, inl, inr}
use Rattle.std.proofs.lemmas.Bool.Decides.{nat_tests}
use Rattle.std.proofs.lemmas.Bool.{and_parts, ltb-true, ltb-false, lt-ltb, le-ltb, eq-eqb, ne_eqb, cases_order}
use Rattle.std.specs.Prelude.{Option, Some, None, Result, Ok, Err, ℤ, pos, ◌||◌, ◌&&◌, ◌==◌, ◌⊎◌, fold, nat_lt, codes}
use Rattle.std.specs.Char.{is_ascii_digit, digit_value}
use Rattle.unicode_ident.specs.Ident.{is_xid_continue}
use Rattle.gd_syntax.specs.declared.token.TokenKind.{TokenKind}
use Rattle.gd_syntax.specs.declared.token.TokenKind.TheVariants as kinds
use Rattle.gd_rules.specs.declared.rule.Rule.{Rule}
use Rattle.gd_rules.specs.declared.rule.Rule.TheVariants as broken
use Rattle.gd_lexis.specs.declared.glyph.Glyph.{Glyph}
use Rattle.gd_lexis.specs.declared.glyph.Glyph.TheVariants.{Char, Bad}
use Rattle.gd_lexis.specs.Words.{GoesOn}
use Rattle.gd_lexis.specs.Numbers.{IsDigit, AreDigits, number_of, WritesIn, WritesDecimal, WritesNumber}
use Rattle.gd_lexis.specs.Pieces.{Writes, BeginsWith, BeginsBy, IsLongest}
use Rattle.gd_lexis.specs.Faults.{IsNumber}
use Rattle.gd_lexis.specs.Words.{IsFloatName}
use Rattle.gd_lexis.specs.Pieces.{Piece}
use Rattle.gd_lexis.proofs.Lists.{same_chars}
use Rattle.gd_lexis.proofs.Sites.{Next, number_code, float_begins}
use Rattle.gd_lexis.proofs.Least.{same_code}
use Rattle.gd_lexer.specs.declared.number.Base.{Base}
use Rattle.gd_lexer.specs.declared.number.Base.TheVariants.{Binary, Decimal, Hexadecimal}
use Rattle.gd_lexer.specs.declared.number.Part.{Part}
use Rattle.gd_lexer.specs.declared.number.Part.TheVariants.{Digit, Bar}
use Rattle.gd_lexer.specs.declared.lexer.Start.TheVariants as starts
use Rattle.gd_lexer.specs.Cursor.{sees}
use Rattle.gd_lexer.specs.Name.{next_in_name}
use Rattle.gd_lexer.specs.Number.{radix, digit_at, is_there, part_by, part_at, extended, value_behind, after_digits, base_at, after_prefix, has_exponent, goes_on_as_float, is_decimal, checked, number_at, after_number}
use Rattle.gd_lexer.specs.Start.{start_at}
use Rattle.gd_lexer.specs.Token.{IsToken, IsBrokenAt, IsUnbrokenAt, IsLeastAt}
use Rattle.gd_lexer.proofs.Heads.{head_is, HeadIs}
use Rattle.gd_lexer.proofs.NameMeets.{beyond, not_digit}
use Rattle.gd_lexer.proofs.MarkMeets.{char_is, head_seen}
use Rattle.gd_lexer.proofs.StartsLemmas.{when_number, digit_there}
use Rattle.std.proofs.lemmas.List.{append_cancel_left}
use Rattle.std.proofs.Math.Nat.{mul-le-mul_left}

-- ---- digits

abbrev code : Glyph → ℕ
code (Char c) = c
code (Bad b) = b

abbrev value_of : Part → List ℕ → List ℕ
value_of (Digit d) ds = d ∷ ds
value_of Bar ds = ds

-- the text of the digits from here on, and their values
digit_text : ℕ → List Glyph → List ℕ
digit_text r [] = []
digit_text r (g ∷ gs) = elim (part_at r (g ∷ gs)) [ None ↦ [] | Some p ↦ code g ∷ digit_text r gs ]

digit_list : ℕ → List Glyph → List ℕ
digit_list r [] = []
digit_list r (g ∷ gs) = elim (part_at r (g ∷ gs)) [ None ↦ [] | Some p ↦ value_of p (digit_list r gs) ]

pub digit_of : (r : ℕ) (o : Option Glyph) (d : ℕ) → digit_at r o ≡ Some d → (c : ℕ) × ((o ≡ Some (Char c)) × IsDigit r c × (d ≡ digit_value c))
digit_of r None d e = cc
digit_of r (Some (Bad b)) d e = cc
digit_of r (Some (Char c)) d e = by_test (nat_lt (digit_value c) r) refl e
  where
    by_test : (b : Bool) → nat_lt (digit_value c) r ≡ b → cond b (Some (digit_value c)) None ≡ Some d → (x : ℕ) × ((Some (Char c) ≡ Some (Char x)) × IsDigit r x × (d ≡ digit_value x))
    by_test true t f = (c, (refl, ltb-true (digit_value c) r t, cc))
    by_test false t f = cc

pub digit_known : (r c : ℕ) → IsDigit r c → digit_at r (Some (Char c)) ≡ Some (digit_value c)
digit_known r c h = rw (lt-ltb (digit_value c) r h) refl

is_there_some : {A : Type 0} (o : Option A) → is_there o ≡ true → (x : A) × (o ≡ Some x)
is_there_some None e = cc
is_there_some (Some x) e = (x, refl)

-- what a part is
digit_part : (r : ℕ) (gs : List Glyph) (d : ℕ) → part_at r gs ≡ Some (Digit d) → digit_at r (slice_get gs 0) ≡ Some d
digit_part r gs d e = by_parts (digit_at r (slice_get gs 0)) (sees 95 gs 0 && is_there (digit_at r (slice_get gs 1))) e
  where
    by_parts : (o : Option ℕ) (b : Bool) → part_by o b ≡ Some (Digit d) → o ≡ Some d
    by_parts (Some x) b f = cc
    by_parts None true f = cc
    by_parts None false f = cc

bar_part : (r : ℕ) (gs : List Glyph) → part_at r gs ≡ Some Bar → (sees 95 gs 0 ≡ true) × (is_there (digit_at r (slice_get gs 1)) ≡ true)
bar_part r gs e = by_parts (digit_at r (slice_get gs 0)) (sees 95 gs 0) (is_there (digit_at r (slice_get gs 1))) e
  where
    by_parts : (o : Option ℕ) (a b : Bool) → part_by o (a && b) ≡ Some Bar → (a ≡ true) × (b ≡ true)
    by_parts (Some x) a b f = cc
    by_parts None true true f = (refl, refl)
    by_parts None true false f = cc
    by_parts None false b f = cc

char_head : (r : ℕ) (g : Glyph) (gs : List Glyph) (p : Part) → part_at r (g ∷ gs) ≡ Some p → g ≡ Char (code g)
char_head r (Char c) gs p e = refl
char_head r (Bad b) gs p e = cc

text_split : (r : ℕ) (gs : List Glyph) → gs ≡ map Char (digit_text r gs) ++ after_digits r gs
unfolding digit_text after_digits
text_split r [] = refl
text_split r (g ∷ gs) = by_part (part_at r (g ∷ gs)) refl (text_split r gs)
  where
    by_part : (o : Option Part) → part_at r (g ∷ gs) ≡ o → gs ≡ map Char (digit_text r gs) ++ after_digits r gs
        → g ∷ gs ≡ map Char (elim o as (λ _. List ℕ) [ None ↦ [] | Some p ↦ code g ∷ digit_text r gs ]) ++ (elim o as (λ _. List Glyph) [ None ↦ g ∷ gs | Some p ↦ after_digits r gs ])
    by_part None e f = refl
    by_part (Some p) e f = let head = char_head r g gs p e in cc

digits_end : (r : ℕ) (gs : List Glyph) → part_at r (after_digits r gs) ≡ None
unfolding after_digits
digits_end r [] = refl
digits_end r (g ∷ gs) = by_part (part_at r (g ∷ gs)) refl (digits_end r gs)
  where
    by_part : (o : Option Part) → part_at r (g ∷ gs) ≡ o → part_at r (after_digits r gs) ≡ None → part_at r (elim o as (λ _. List Glyph) [ None ↦ g ∷ gs | Some p ↦ after_digits r gs ]) ≡ None
    by_part None e f = e
    by_part (Some p) e f = f

more_digits : (r c : ℕ) (text ds : List ℕ) → IsDigit r c → AreDigits r text ds → AreDigits r (c ∷ text) (digit_value c ∷ ds)
more_digits r c [] ds h a = absurd a
more_digits r c (d ∷ []) ds h a = (h, a.0, ap (λ t. digit_value c ∷ t) a.1)
more_digits r c (d ∷ e ∷ cs) ds h a = (h, (ds, refl, inl a))

more_behind_bar : (r c : ℕ) (text ds : List ℕ) → IsDigit r c → AreDigits r text ds → AreDigits r (c ∷ 95 ∷ text) (digit_value c ∷ ds)
more_behind_bar r c [] ds h a = absurd a
more_behind_bar r c (e ∷ cs) ds h a = (h, (ds, refl, inr (refl, a)))

-- what the text writes that begins with a digit, and what it writes behind a `_`
abbrev Reads : ℕ → List ℕ → List ℕ → Option Part → Type 0
Reads r text ds None = (text ≡ []) × (ds ≡ [])
Reads r text ds (Some (Digit d)) = AreDigits r text ds
Reads r text ds (Some Bar) = (rest : List ℕ) × ((text ≡ 95 ∷ rest) × AreDigits r rest ds)

digit_first : (r : ℕ) (gs : List Glyph) → is_there (digit_at r (slice_get gs 0)) ≡ true → (d : ℕ) × (part_at r gs ≡ Some (Digit d))
digit_first r gs e = let found = is_there_some (digit_at r (slice_get gs 0)) e in (found.0, ap (λ o. part_by o (sees 95 gs 0 && is_there (digit_at r (slice_get gs 1)))) found.1)

cons_reads : (r c d : ℕ) (text ds : List ℕ) (o : Option Part) → IsDigit r c → d ≡ digit_value c → Reads r text ds o → AreDigits r (c ∷ text) (d ∷ ds)
cons_reads r c d text ds None h e a = rw (a.0, a.1, e) (h, refl)
cons_reads r c d text ds (Some (Digit x)) h e a = rw e (more_digits r c text ds h a)
cons_reads r c d text ds (Some Bar) h e a = rw (a.1.0, e) (more_behind_bar r c a.0 ds h a.1.1)

digits_read : (r : ℕ) (gs : List Glyph) → Reads r (digit_text r gs) (digit_list r gs) (part_at r gs)
unfolding digit_text digit_list
digits_read r [] = (refl, refl)
digits_read r (g ∷ gs) = by_part (part_at r (g ∷ gs)) refl (digits_read r gs)
  where
    by_part : (o : Option Part) → part_at r (g ∷ gs) ≡ o → Reads r (digit_text r gs) (digit_list r gs) (part_at r gs)
        → Reads r (elim o as (λ _. List ℕ) [ None ↦ [] | Some p ↦ code g ∷ digit_text r gs ]) (elim o as (λ _. List ℕ) [ None ↦ [] | Some p ↦ value_of p (digit_list r gs) ]) o
    by_part None e f = (refl, refl)
    by_part (Some (Digit d)) e f =
        let digit = digit_of r (Some g) d (digit_part r (g ∷ gs) d e) in
        let same : code g ≡ digit.0 = ap code (let s : Some g ≡ Some (Char digit.0) = digit.1.0 in let t : g ≡ Char digit.0 = cc in t) in
        rw same (cons_reads r digit.0 d (digit_text r gs) (digit_list r gs) (part_at r gs) digit.1.1 digit.1.2 f)
    by_part (Some Bar) e f =
        let parts = bar_part r (g ∷ gs) e in
        let shown = char_is (Some g) 95 parts.0 in
        let same : code g ≡ 95 = ap code (let t : g ≡ Char 95 = cc in t) in
        let next = digit_first r gs parts.1 in
        let P : Option Part → Type 0 = λ o. Reads r (digit_text r gs) (digit_list r gs) o in
        (digit_text r gs, (rw same refl, subst P next.1 f))

-- what can go on digits
PartHere : ℕ → ℕ → List ℕ → Type 0
PartHere r c more = IsDigit r c ⊎ ((c ≡ 95) × ((e : ℕ) × ((cs : List ℕ) × (more ≡ e ∷ cs) × IsDigit r e)))

digits_first : (r c : ℕ) (cs ds : List ℕ) → AreDigits r (c ∷ cs) ds → IsDigit r c
digits_first r c [] ds a = a.0
digits_first r c (d ∷ []) ds a = a.0
digits_first r c (d ∷ e ∷ cs) ds a = a.0

part_behind : (r : ℕ) (text : List ℕ) (c : ℕ) (more ds : List ℕ) → 1 ≤ length text → AreDigits r (text ++ c ∷ more) ds → PartHere r c more
unfolding PartHere
part_behind r [] c more ds l a = absurd (omega arith)
part_behind r (t ∷ []) c [] ds l a = inl a.1
part_behind r (t ∷ []) c (e ∷ cs) ds l a = by_case a.1.2
  where
    by_case : AreDigits r (c ∷ e ∷ cs) a.1.0 ⊎ ((c ≡ 95) × AreDigits r (e ∷ cs) a.1.0) → IsDigit r c ⊎ ((c ≡ 95) × ((f : ℕ) × ((gs : List ℕ) × (e ∷ cs ≡ f ∷ gs) × IsDigit r f)))
    by_case (inl b) = inl (digits_first r c (e ∷ cs) a.1.0 b)
    by_case (inr b) = inr (b.0, (e, (cs, refl, digits_first r e cs a.1.0 b.1)))
part_behind r (t ∷ u ∷ []) c more ds l a = by_case a.1.2 (part_behind r (u ∷ []) c more a.1.0 (omega arith))
  where
    by_case : AreDigits r (u ∷ c ∷ more) a.1.0 ⊎ ((u ≡ 95) × AreDigits r (c ∷ more) a.1.0) → (AreDigits r (u ∷ c ∷ more) a.1.0 → PartHere r c more) → PartHere r c more
    by_case (inl b) f = f b
    by_case (inr b) f = inl (digits_first r c more a.1.0 b.1)
part_behind r (t ∷ u ∷ v ∷ text) c more ds l a = by_case a.1.2 (part_behind r (u ∷ v ∷ text) c more a.1.0 (omega arith)) (part_behind r (v ∷ text) c more a.1.0 (omega arith))
  where
    by_case : AreDigits r (u ∷ v ∷ (text ++ c ∷ more)) a.1.0 ⊎ ((u ≡ 95) × AreDigits r (v ∷ (text ++ c ∷ more)) a.1.0) → (AreDigits r (u ∷ v ∷ (text ++ c ∷ more)) a.1.0 → PartHere r c more)
        → (AreDigits r (v ∷ (text ++ c ∷ more)) a.1.0 → PartHere r c more) → PartHere r c more
    by_case (inl b) f g = f b
    by_case (inr b) f g = g b.1

not_none : (r c : ℕ) (more : List ℕ) (rest : List Glyph) → PartHere r c more → part_at r (Char c ∷ (map Char more ++ rest)) ≡ None → ⊥
unfolding PartHere
not_none r c more rest (inl h) e = let known = digit_known r c h in let P : Option ℕ → Type 0 = λ o. part_by o (sees 95 (Char c ∷ (map Char more ++ rest)) 0 && is_there (digit_at r (slice_get (Char c ∷ (map Char more ++ rest)) 1))) ≡ None in let f = subst P known e in cc
not_none r c more rest (inr h) e =
    let known = digit_known r h.1.0 h.1.1.2 in
    let second : slice_get (map Char more ++ rest) 0 ≡ Some (Char h.1.0) = ap (λ t. slice_get (map Char t ++ rest) 0) h.1.1.1 in
    let there : is_there (digit_at r (slice_get (Char c ∷ (map Char more ++ rest)) 1)) ≡ true = ap (λ o. is_there (digit_at r o)) second ∙ ap (λ o. is_there o) known in
    let bar : sees 95 (Char c ∷ (map Char more ++ rest)) 0 ≡ true = eq-eqb c 95 h.0 in
    denied (digit_at r (Some (Char c))) (sees 95 (Char c ∷ (map Char more ++ rest)) 0) (is_there (digit_at r (slice_get (Char c ∷ (map Char more ++ rest)) 1))) bar there e
  where
    denied : (o : Option ℕ) (a b : Bool) → a ≡ true → b ≡ true → part_by o (a && b) ≡ None → ⊥
    denied (Some x) a b p q f = cc
    denied None true true p q f = cc
    denied None true false p q f = cc
    denied None false b p q f = cc

-- the digits that were read are the longest
digits_longest : (r : ℕ) (gs : List Glyph) (longer ds : List ℕ) (rest : List Glyph) → 1 ≤ length (digit_text r gs) → gs ≡ map Char longer ++ rest → length (digit_text r gs) < length longer → AreDigits r longer ds → ⊥
digits_longest r gs longer ds rest l e more a =
    let found = beyond (digit_text r gs) longer rest (after_digits r gs) (sym e ∙ text_split r gs) more in
    let P : List ℕ → Type 0 = λ t. AreDigits r t ds in
    let Q : List Glyph → Type 0 = λ t. part_at r t ≡ None in
    not_none r found.0 found.1.0 rest (part_behind r (digit_text r gs) found.0 found.1.0 ds l (subst P found.1.1 a)) (subst Q found.1.2 (digits_end r gs))

-- ---- the value

limited : ℕ → Option ℕ
limited v = cond (nat_lt v (2 ^ 63)) (Some v) None

grows : (r n : ℕ) (ds : List ℕ) → 1 ≤ r → n ≤ fold (λ m d. m * r + d) n ds
grows r n [] h = omega arith
grows r n (d ∷ ds) h = let more = grows r (n * r + d) ds h in let least : n * 1 ≤ n * r = mul-le-mul_left n h in omega arith

value_none : (r : ℕ) (gs : List Glyph) → value_behind None r gs ≡ None
unfolding value_behind
value_none r [] = refl
value_none r (g ∷ gs) = by_part (part_at r (g ∷ gs)) (value_none r gs)
  where
    by_part : (o : Option Part) → value_behind None r gs ≡ None → (elim o as (λ _. Option ℕ) [ None ↦ None | Some p ↦ value_behind (extended None r p) r gs ]) ≡ None
    by_part None f = refl
    by_part (Some (Digit d)) f = f
    by_part (Some Bar) f = f

value_read : (r n : ℕ) (gs : List Glyph) → 1 ≤ r → n < 2 ^ 63 → value_behind (Some n) r gs ≡ limited (fold (λ m d. m * r + d) n (digit_list r gs))
unfolding value_behind digit_list limited
value_read r n [] h small = sym (rw (lt-ltb n (2 ^ 63) small) refl)
value_read r n (g ∷ gs) h small = by_part (part_at r (g ∷ gs)) (λ d t. value_read r (n * r + d) gs h t) (value_read r n gs h small)
  where
    by_size : (d : ℕ) (b : Bool) → nat_lt (n * r + d) (2 ^ 63) ≡ b → (n * r + d < 2 ^ 63 → value_behind (Some (n * r + d)) r gs ≡ cond (nat_lt (fold (λ m e. m * r + e) (n * r + d) (digit_list r gs)) (2 ^ 63)) (Some (fold (λ m e. m * r + e) (n * r + d) (digit_list r gs))) None)
        → value_behind (cond b (Some (n * r + d)) None) r gs ≡ cond (nat_lt (fold (λ m e. m * r + e) (n * r + d) (digit_list r gs)) (2 ^ 63)) (Some (fold (λ m e. m * r + e) (n * r + d) (digit_list r gs))) None
    by_size d true e f = f (ltb-true (n * r + d) (2 ^ 63) e)
    by_size d false e f =
        let large = ltb-false (n * r + d) (2 ^ 63) e in
        let more = grows r (n * r + d) (digit_list r gs) h in
        let over : 2 ^ 63 ≤ fold (λ m e. m * r + e) (n * r + d) (digit_list r gs) = omega arith in
        value_none r gs ∙ sym (rw (le-ltb (fold (λ m e. m * r + e) (n * r + d) (digit_list r gs)) (2 ^ 63) over) refl)

    by_part : (o : Option Part) → ((d : ℕ) → n * r + d < 2 ^ 63 → value_behind (Some (n * r + d)) r gs ≡ limited (fold (λ m e. m * r + e) (n * r + d) (digit_list r gs)))
        → value_behind (Some n) r gs ≡ limited (fold (λ m e. m * r + e) n (digit_list r gs))
        → (elim o as (λ _. Option ℕ) [ None ↦ Some n | Some p ↦ value_behind (extended (Some n) r p) r gs ]) ≡ limited (fold (λ m e. m * r + e) n (elim o as (λ _. List ℕ) [ None ↦ [] | Some p ↦ value_of p (digit_list r gs) ]))
    by_part None f k = sym (rw (lt-ltb n (2 ^ 63) small) refl)
    by_part (Some (Digit d)) f k = by_size d (nat_lt (n * r + d) (2 ^ 63)) refl (f d)
    by_part (Some Bar) f k = k

-- ---- the base

abbrev prefix_of : Base → List ℕ
prefix_of Decimal = []
prefix_of Hexadecimal = codes "0x"
prefix_of Binary = codes "0b"

-- the prefix stands here, and a digit behind it
record Prefixed (x r : ℕ) (gs : List Glyph) : Type 0 where
  whole : gs ≡ Char 48 ∷ Char x ∷ drop 2 gs
  digit : is_there (digit_at r (slice_get (drop 2 gs) 0)) ≡ true

two_seen : (x : ℕ) (gs : List Glyph) → sees 48 gs 0 ≡ true → sees x gs 1 ≡ true → gs ≡ Char 48 ∷ Char x ∷ drop 2 gs
two_seen x [] e f = cc
two_seen x (g ∷ []) e f = cc
two_seen x (g ∷ h ∷ gs) e f =
    let p = char_is (Some g) 48 e in let q = char_is (Some h) x f in
    let first : g ≡ Char 48 = cc in let second : h ≡ Char x = cc in rw (first, second) refl

third_at : (gs : List Glyph) → slice_get gs 2 ≡ slice_get (drop 2 gs) 0
third_at [] = refl
third_at (g ∷ []) = refl
third_at (g ∷ h ∷ []) = refl
third_at (g ∷ h ∷ i ∷ gs) = refl

prefixed : (x r : ℕ) (gs : List Glyph) → (sees 48 gs 0 && sees x gs 1 && is_there (digit_at r (slice_get gs 2))) ≡ true → Prefixed x r gs
prefixed x r gs e =
    let p = and_parts (sees 48 gs 0 && sees x gs 1) (is_there (digit_at r (slice_get gs 2))) e in
    let q = and_parts (sees 48 gs 0) (sees x gs 1) p.0 in
    record { whole = two_seen x gs q.0 q.1; digit = ap (λ o. is_there (digit_at r o)) (sym (third_at gs)) ∙ p.1 }

abbrev BaseHere : Base → List Glyph → Type 0
BaseHere Decimal gs = base_at gs ≡ Decimal
BaseHere Hexadecimal gs = Prefixed 120 16 gs
BaseHere Binary gs = Prefixed 98 2 gs

base_here : (gs : List Glyph) → BaseHere (base_at gs) gs
base_here gs = by_tests (sees 48 gs 0 && sees 120 gs 1 && is_there (digit_at 16 (slice_get gs 2))) (sees 48 gs 0 && sees 98 gs 1 && is_there (digit_at 2 (slice_get gs 2))) refl refl
  where
    by_tests : (a b : Bool) → (sees 48 gs 0 && sees 120 gs 1 && is_there (digit_at 16 (slice_get gs 2))) ≡ a → (sees 48 gs 0 && sees 98 gs 1 && is_there (digit_at 2 (slice_get gs 2))) ≡ b
        → BaseHere (cond a Hexadecimal (cond b Binary Decimal)) gs
    by_tests true b e f = prefixed 120 16 gs e
    by_tests false true e f = prefixed 98 2 gs f
    by_tests false false e f = rw (e, f) refl

hex_base : (gs ks : List Glyph) (c : ℕ) → gs ≡ Char 48 ∷ Char 120 ∷ Char c ∷ ks → IsDigit 16 c → base_at gs ≡ Hexadecimal
hex_base gs ks c e h = rw (e, lt-ltb (digit_value c) 16 h) refl

binary_base : (gs ks : List Glyph) (c : ℕ) → gs ≡ Char 48 ∷ Char 98 ∷ Char c ∷ ks → IsDigit 2 c → base_at gs ≡ Binary
binary_base gs ks c e h = rw (e, lt-ltb (digit_value c) 2 h) refl

-- ---- the whole number

abbrev number_text : Base → List Glyph → List ℕ
number_text b gs = prefix_of b ++ digit_text (radix b) (after_prefix b gs)

abbrev number_value : Base → List Glyph → ℕ
number_value b gs = number_of (radix b) (digit_list (radix b) (after_prefix b gs))

abbrev number_rest : Base → List Glyph → List Glyph
number_rest b gs = after_digits (radix b) (after_prefix b gs)

number_split : (b : Base) (gs : List Glyph) → BaseHere b gs → gs ≡ map Char (number_text b gs) ++ number_rest b gs
number_split Decimal gs h = text_split 10 gs
number_split Hexadecimal gs h = h.whole ∙ ap (λ t. Char 48 ∷ Char 120 ∷ t) (text_split 16 (drop 2 gs))
number_split Binary gs h = h.whole ∙ ap (λ t. Char 48 ∷ Char 98 ∷ t) (text_split 2 (drop 2 gs))

are_digits : (r : ℕ) (gs : List Glyph) → is_there (digit_at r (slice_get gs 0)) ≡ true → AreDigits r (digit_text r gs) (digit_list r gs)
are_digits r gs e = let P : Option Part → Type 0 = λ o. Reads r (digit_text r gs) (digit_list r gs) o in subst P (digit_first r gs e).1 (digits_read r gs)

number_writes : (b : Base) (gs : List Glyph) → is_there (digit_at 10 (slice_get gs 0)) ≡ true → BaseHere b gs → WritesIn (radix b) (prefix_of b) (number_text b gs) (number_value b gs)
number_writes Decimal gs e h = (digit_text 10 gs, digit_list 10 gs, refl, are_digits 10 gs e, refl)
number_writes Hexadecimal gs e h = (digit_text 16 (drop 2 gs), digit_list 16 (drop 2 gs), refl, are_digits 16 (drop 2 gs) h.digit, refl)
number_writes Binary gs e h = (digit_text 2 (drop 2 gs), digit_list 2 (drop 2 gs), refl, are_digits 2 (drop 2 gs) h.digit, refl)

writes_in : (b : Base) (text : List ℕ) (v : ℕ) → WritesIn (radix b) (prefix_of b) text v → WritesNumber text v
writes_in Decimal text v h = inl h
writes_in Hexadecimal text v h = inr (inl h)
writes_in Binary text v h = inr (inr h)

not_empty : (r : ℕ) (text ds : List ℕ) → AreDigits r text ds → 1 ≤ length text
not_empty r [] ds a = absurd a
not_empty r (c ∷ cs) ds a = omega arith

-- the second of several digits
second_digit : (r a b : ℕ) (cs ds : List ℕ) → AreDigits r (a ∷ b ∷ cs) ds → IsDigit r b ⊎ (b ≡ 95)
second_digit r a b [] ds h = inl h.1
second_digit r a b (c ∷ cs) ds h = by_case h.1.2
  where
    by_case : AreDigits r (b ∷ c ∷ cs) h.1.0 ⊎ ((b ≡ 95) × AreDigits r (c ∷ cs) h.1.0) → IsDigit r b ⊎ (b ≡ 95)
    by_case (inl k) = inl (digits_first r b (c ∷ cs) h.1.0 k)
    by_case (inr k) = inr k.0

no_letter : (r x a b : ℕ) (cs ds : List ℕ) → AreDigits r (a ∷ b ∷ cs) ds → b ≡ x → r ≤ digit_value x → 96 ≤ x → ⊥
no_letter r x a b cs ds h e high letter = by_case (second_digit r a b cs ds h)
  where
    by_case : IsDigit r b ⊎ (b ≡ 95) → ⊥
    by_case (inl k) = let same : digit_value b ≡ digit_value x = ap digit_value e in omega arith
    by_case (inr k) = omega arith

-- a decimal number has no prefix
no_prefix : (x : ℕ) (longer ds : List ℕ) (gs rest : List Glyph) → 10 ≤ digit_value x → 96 ≤ x → 2 ≤ length longer → AreDigits 10 longer ds → map Char longer ++ rest ≡ Char 48 ∷ Char x ∷ gs → ⊥
no_prefix x [] ds gs rest high letter l a e = absurd (omega arith)
no_prefix x (c ∷ []) ds gs rest high letter l a e = absurd (omega arith)
no_prefix x (c ∷ d ∷ cs) ds gs rest high letter l a e = let second : d ≡ x = cc in no_letter 10 x c d cs ds a second high letter

shown_first : (r x : ℕ) (cs ds longer : List ℕ) (gs rest : List Glyph) → gs ≡ map Char longer ++ rest → longer ≡ 48 ∷ x ∷ cs → AreDigits r cs ds
    → (c : ℕ) × ((ks : List Glyph) × (gs ≡ Char 48 ∷ Char x ∷ Char c ∷ ks) × IsDigit r c)
shown_first r x [] ds longer gs rest e f a = absurd a
shown_first r x (c ∷ cs) ds longer gs rest e f a = (c, (map Char cs ++ rest, e ∙ ap (λ t. map Char t ++ rest) f, digits_first r c cs ds a))

tail_two : (x : ℕ) (cs longer : List ℕ) (gs rest : List Glyph) → gs ≡ map Char longer ++ rest → longer ≡ 48 ∷ x ∷ cs → drop 2 gs ≡ map Char cs ++ rest
tail_two x cs longer gs rest e f = ap (λ t. drop 2 t) (e ∙ ap (λ t. map Char t ++ rest) f)

same_second : (x y : ℕ) (hs : List Glyph) (cs longer : List ℕ) (gs rest : List Glyph) → gs ≡ map Char longer ++ rest → longer ≡ 48 ∷ x ∷ cs → gs ≡ Char 48 ∷ Char y ∷ hs → x ≡ y
same_second x y hs cs longer gs rest e f g =
    let shown : Char 48 ∷ Char x ∷ (map Char cs ++ rest) ≡ Char 48 ∷ Char y ∷ hs = sym (e ∙ ap (λ t. map Char t ++ rest) f) ∙ g in cc

-- no longer number
longest_in : (b : Base) (gs : List Glyph) (longer : List ℕ) (v : ℕ) (rest : List Glyph) → is_there (digit_at 10 (slice_get gs 0)) ≡ true → BaseHere b gs → gs ≡ map Char longer ++ rest
    → length (number_text b gs) < length longer → WritesNumber longer v → ⊥
longest_in Decimal gs longer v rest t h e l (inl w) =
    digits_longest 10 gs w.0 w.1 rest (not_empty 10 _ _ (are_digits 10 gs t)) (e ∙ ap (λ s. map Char s ++ rest) w.2) (omega (arith, ap length w.2)) w.3
longest_in Decimal gs longer v rest t h e l (inr (inl w)) = let s = shown_first 16 120 w.0 w.1 longer gs rest e w.2 w.3 in let k = hex_base gs s.1.0 s.0 s.1.1 s.1.2 in cc
longest_in Decimal gs longer v rest t h e l (inr (inr w)) = let s = shown_first 2 98 w.0 w.1 longer gs rest e w.2 w.3 in let k = binary_base gs s.1.0 s.0 s.1.1 s.1.2 in cc
longest_in Hexadecimal gs longer v rest t h e l (inl w) =
    no_prefix 120 longer w.1 (drop 2 gs) rest (omega arith) (omega arith) (omega arith) (subst (λ s. AreDigits 10 s w.1) (sym w.2) w.3) (sym e ∙ h.whole)
longest_in Hexadecimal gs longer v rest t h e l (inr (inl w)) =
    digits_longest 16 (drop 2 gs) w.0 w.1 rest (not_empty 16 _ _ (are_digits 16 (drop 2 gs) h.digit)) (tail_two 120 w.0 longer gs rest e w.2) (omega (arith, ap length w.2)) w.3
longest_in Hexadecimal gs longer v rest t h e l (inr (inr w)) = let s = same_second 98 120 (drop 2 gs) w.0 longer gs rest e w.2 h.whole in omega arith
longest_in Binary gs longer v rest t h e l (inl w) =
    no_prefix 98 longer w.1 (drop 2 gs) rest (omega arith) (omega arith) (omega arith) (subst (λ s. AreDigits 10 s w.1) (sym w.2) w.3) (sym e ∙ h.whole)
longest_in Binary gs longer v rest t h e l (inr (inl w)) = let s = same_second 120 98 (drop 2 gs) w.0 longer gs rest e w.2 h.whole in omega arith
longest_in Binary gs longer v rest t h e l (inr (inr w)) =
    digits_longest 2 (drop 2 gs) w.0 w.1 rest (not_empty 2 _ _ (are_digits 2 (drop 2 gs) h.digit)) (tail_two 98 w.0 longer gs rest e w.2) (omega (arith, ap length w.2)) w.3

number_IsLongest : (b : Base) (c : ℕ) (hs : List Glyph) → is_ascii_digit c ≡ true → is_there (digit_at 10 (slice_get (Char c ∷ hs) 0)) ≡ true → BaseHere b (Char c ∷ hs)
    → IsLongest (number_text b (Char c ∷ hs)) (Char c ∷ hs)
number_IsLongest b c hs digit t h longer kind more w writes = by_kind kind writes (head_is kind longer c hs w writes)
  where
    by_kind : (k : TokenKind) → Writes k longer → HeadIs k c (Char c ∷ hs) → ⊥
    by_kind (kinds.Word n) s head = not_digit c head digit
    by_kind (kinds.Keyword k) s head = not_digit c head digit
    by_kind (kinds.Number n) s head = longest_in b (Char c ∷ hs) longer s.0 w.0 t h w.1 more s.1
    by_kind (kinds.Quoted u) s head = grind (arith, nat_tests)
    by_kind (kinds.Mark m) s head = grind (arith, nat_tests)
    by_kind kinds.Newline s head = head
    by_kind kinds.Indent s head = head
    by_kind kinds.Dedent s head = head
    by_kind kinds.End s head = head

-- ---- a text writes one number

one_list : (r : ℕ) (text ds es : List ℕ) → r ≤ 36 → AreDigits r text ds → AreDigits r text es → ds ≡ es
one_list r [] ds es k a b = absurd a
one_list r (c ∷ []) ds es k a b = a.1 ∙ sym b.1
one_list r (c ∷ d ∷ []) ds es k a b = a.2 ∙ sym b.2
one_list r (c ∷ d ∷ e ∷ cs) ds es k a b = a.1.1 ∙ ap (λ t. digit_value c ∷ t) (by_case a.1.2 b.1.2 (one_list r (d ∷ e ∷ cs) a.1.0 b.1.0 k) (one_list r (e ∷ cs) a.1.0 b.1.0 k)) ∙ sym b.1.1
  where
    by_case : AreDigits r (d ∷ e ∷ cs) a.1.0 ⊎ ((d ≡ 95) × AreDigits r (e ∷ cs) a.1.0) → AreDigits r (d ∷ e ∷ cs) b.1.0 ⊎ ((d ≡ 95) × AreDigits r (e ∷ cs) b.1.0)
        → (AreDigits r (d ∷ e ∷ cs) a.1.0 → AreDigits r (d ∷ e ∷ cs) b.1.0 → a.1.0 ≡ b.1.0) → (AreDigits r (e ∷ cs) a.1.0 → AreDigits r (e ∷ cs) b.1.0 → a.1.0 ≡ b.1.0) → a.1.0 ≡ b.1.0
    by_case (inl x) (inl y) f g = f x y
    by_case (inl x) (inr y) f g = absurd (no_bar (digits_first r d (e ∷ cs) a.1.0 x) y.0)
      where
        no_bar : IsDigit r d → d ≡ 95 → ⊥
        no_bar h s = let v : digit_value d ≡ 36 = ap digit_value s in omega arith
    by_case (inr x) (inl y) f g = absurd (no_bar (digits_first r d (e ∷ cs) b.1.0 y) x.0)
      where
        no_bar : IsDigit r d → d ≡ 95 → ⊥
        no_bar h s = let v : digit_value d ≡ 36 = ap digit_value s in omega arith
    by_case (inr x) (inr y) f g = g x.1 y.1

one_text : (r v w : ℕ) (prefix : List ℕ) (text : List ℕ) → r ≤ 36 → WritesIn r prefix text v → WritesIn r prefix text w → v ≡ w
one_text r v w prefix text k a b =
    let same : a.0 ≡ b.0 = append_cancel_left prefix a.0 b.0 (sym a.2 ∙ b.2) in
    let P : List ℕ → Type 0 = λ t. AreDigits r t b.1 in
    let lists : a.1 ≡ b.1 = one_list r a.0 a.1 b.1 k a.3 (subst P (sym same) b.3) in
    a.4 ∙ ap (number_of r) lists ∙ sym b.4

no_both : (r x : ℕ) (text : List ℕ) (v w : ℕ) → 10 ≤ digit_value x → 96 ≤ x → WritesDecimal text v → WritesIn r (48 ∷ x ∷ []) text w → ⊥
no_both r x text v w high letter a b =
    let P : List ℕ → Type 0 = λ t. AreDigits 10 t a.1 in
    no_letter 10 x 48 x b.0 a.1 (subst P (sym a.2 ∙ b.2) a.3) refl high letter

distinct : (x y : ℕ) → x ≡ y → x ≡ 120 → y ≡ 98 → ⊥
distinct x y e f g = omega arith

no_two : (text : List ℕ) (v w : ℕ) → WritesIn 16 (codes "0x") text v → WritesIn 2 (codes "0b") text w → ⊥
no_two text v w a b = let shown : 48 ∷ 120 ∷ a.0 ≡ 48 ∷ 98 ∷ b.0 = sym a.2 ∙ b.2 in let same : 120 ≡ 98 = cc in distinct 120 98 same refl refl

one_number : (b : Base) (text : List ℕ) (v w : ℕ) → WritesIn (radix b) (prefix_of b) text v → WritesNumber text w → w ≡ v
one_number Decimal text v w a (inl h) = one_text 10 w v [] text (omega arith) h a
one_number Decimal text v w a (inr (inl h)) = absurd (no_both 16 120 text v w (omega arith) (omega arith) a h)
one_number Decimal text v w a (inr (inr h)) = absurd (no_both 2 98 text v w (omega arith) (omega arith) a h)
one_number Hexadecimal text v w a (inl h) = absurd (no_both 16 120 text w v (omega arith) (omega arith) h a)
one_number Hexadecimal text v w a (inr (inl h)) = one_text 16 w v (codes "0x") text (omega arith) h a
one_number Hexadecimal text v w a (inr (inr h)) = absurd (no_two text v w a h)
one_number Binary text v w a (inl h) = absurd (no_both 2 98 text w v (omega arith) (omega arith) h a)
one_number Binary text v w a (inr (inl h)) = absurd (no_two text w v h a)
one_number Binary text v w a (inr (inr h)) = one_text 2 w v (codes "0b") text (omega arith) h a

-- ---- the token or the fault that the number is

abbrev pub MeetsNumber : Result ℤ Rule → List Glyph → List Glyph → Type 0
MeetsNumber (Ok n) gs rest = IsToken (kinds.Number n) gs rest
MeetsNumber (Err rule) gs rest = IsBrokenAt rule gs × IsLeastAt rule gs

stops_here : (rest : List Glyph) → is_there (next_in_name (slice_get rest 0)) ≡ false → BeginsBy GoesOn rest → ⊥
stops_here [] e k = let f = k.2.1 in cc
stops_here (Bad b ∷ rest) e k = let f = k.2.1 in cc
stops_here (Char c ∷ rest) e k = by_test (is_xid_continue c) refl e
  where
    shown : c ≡ k.0
    shown = let f = k.2.1 in cc

    by_test : (b : Bool) → is_xid_continue c ≡ b → is_there (cond b (Some c) None) ≡ false → ⊥
    by_test true t f = cc
    by_test false t f = let goes : is_xid_continue c ≡ true = rw shown k.1 in cc

goes_here : (rest : List Glyph) → is_there (next_in_name (slice_get rest 0)) ≡ true → BeginsBy GoesOn rest
goes_here [] e = cc
goes_here (Bad b ∷ rest) e = cc
goes_here (Char c ∷ rest) e = by_test (is_xid_continue c) refl e
  where
    by_test : (b : Bool) → is_xid_continue c ≡ b → is_there (cond b (Some c) None) ≡ true → BeginsBy GoesOn (Char c ∷ rest)
    by_test true t f = (c, t, (rest, refl))
    by_test false t f = cc

-- what goes on a decimal number as a float
abbrev FloatBehind : List Glyph → Type 0
FloatBehind rest = BeginsWith (46 ∷ []) rest ⊎ ((e : ℕ) × (sign : List ℕ) × (d : ℕ) × ((e ≡ 101) ⊎ (e ≡ 69)) × ((sign ≡ []) ⊎ ((sign ≡ 43 ∷ []) ⊎ (sign ≡ 45 ∷ []))) × IsDigit 10 d × BeginsWith (e ∷ sign ++ d ∷ []) rest)

front_seen : (gs : List Glyph) (c : ℕ) → sees c gs 0 ≡ true → gs ≡ Char c ∷ drop 1 gs
front_seen gs c e = head_seen gs (Char c) (char_is (slice_get gs 0) c e)

pub digit_here : (o : Option Glyph) → is_there (digit_at 10 o) ≡ true → (d : ℕ) × ((o ≡ Some (Char d)) × IsDigit 10 d)
digit_here o e = let found = is_there_some (digit_at 10 o) e in let d = digit_of 10 o found.0 found.1 in (d.0, (d.1.0, d.1.1))

signed : (e s : ℕ) (hs : List Glyph) → ((e ≡ 101) ⊎ (e ≡ 69)) → ((s ≡ 43) ⊎ (s ≡ 45)) → hs ≡ Char s ∷ drop 1 hs → is_there (digit_at 10 (slice_get hs 1)) ≡ true → FloatBehind (Char e ∷ hs)
signed e s hs mark sign seen digit =
    let d = digit_here (slice_get hs 1) digit in
    let Q : List Glyph → Type 0 = λ t. slice_get t 1 ≡ Some (Char d.0) in
    let next : slice_get (drop 1 hs) 0 ≡ Some (Char d.0) = subst Q seen d.1.0 in
    let tail = head_seen (drop 1 hs) (Char d.0) next in
    inr (e, s ∷ [], d.0, mark, inr (by_sign sign), d.1.1, (drop 1 (drop 1 hs), ap (λ t. Char e ∷ t) (seen ∙ ap (λ t. Char s ∷ t) tail)))
  where
    by_sign : ((s ≡ 43) ⊎ (s ≡ 45)) → (s ∷ [] ≡ 43 ∷ []) ⊎ (s ∷ [] ≡ 45 ∷ [])
    by_sign (inl f) = inl (ap (λ n. n ∷ []) f)
    by_sign (inr f) = inr (ap (λ n. n ∷ []) f)

unsigned : (e : ℕ) (hs : List Glyph) → ((e ≡ 101) ⊎ (e ≡ 69)) → is_there (digit_at 10 (slice_get hs 0)) ≡ true → FloatBehind (Char e ∷ hs)
unsigned e hs mark digit =
    let d = digit_here (slice_get hs 0) digit in
    let tail = head_seen hs (Char d.0) d.1.0 in
    inr (e, [], d.0, mark, inl refl, d.1.1, (drop 1 hs, ap (λ t. Char e ∷ t) tail))

exponent : (e : ℕ) (hs : List Glyph) → ((e ≡ 101) ⊎ (e ≡ 69)) → has_exponent (Char e ∷ hs) ≡ true → FloatBehind (Char e ∷ hs)
exponent e hs mark h = by_sign (sees 43 (Char e ∷ hs) 1) (sees 45 (Char e ∷ hs) 1) refl refl h
  where
    by_sign : (a b : Bool) → sees 43 (Char e ∷ hs) 1 ≡ a → sees 45 (Char e ∷ hs) 1 ≡ b → cond (a || b) (is_there (digit_at 10 (slice_get hs 1))) (is_there (digit_at 10 (slice_get hs 0))) ≡ true → FloatBehind (Char e ∷ hs)
    by_sign true b p q f = signed e 43 hs mark (inl refl) (front_seen hs 43 p) f
    by_sign false true p q f = signed e 45 hs mark (inr refl) (front_seen hs 45 q) f
    by_sign false false p q f = unsigned e hs mark f

float_behind : (rest : List Glyph) → goes_on_as_float rest ≡ true → FloatBehind rest
float_behind rest e = by_tests (sees 46 rest 0) (sees 101 rest 0) (sees 69 rest 0) (has_exponent rest) refl refl refl refl e
  where
    at : (c : ℕ) → ((c ≡ 101) ⊎ (c ≡ 69)) → sees c rest 0 ≡ true → has_exponent rest ≡ true → FloatBehind rest
    at c mark seen h =
        let shown = front_seen rest c seen in
        let P : List Glyph → Type 0 = λ t. has_exponent t ≡ true in
        subst FloatBehind (sym shown) (exponent c (drop 1 rest) mark (subst P shown h))

    by_tests : (a b c d : Bool) → sees 46 rest 0 ≡ a → sees 101 rest 0 ≡ b → sees 69 rest 0 ≡ c → has_exponent rest ≡ d → (a || ((b || c) && d)) ≡ true → FloatBehind rest
    by_tests true b c d p q r s f = inl (drop 1 rest, front_seen rest 46 p)
    by_tests false true c true p q r s f = at 101 (inl refl) q s
    by_tests false true c false p q r s f = cc
    by_tests false false true true p q r s f = at 69 (inr refl) r s
    by_tests false false true false p q r s f = cc
    by_tests false false false d p q r s f = cc

no_dot : (b : Base) (text : List ℕ) (rest : List Glyph) (v : ℕ) → WritesIn (radix b) (prefix_of b) text v → (is_decimal b && goes_on_as_float rest) ≡ false → (w : ℕ) → WritesDecimal text w → BeginsWith (46 ∷ []) rest → ⊥
no_dot Decimal text rest v a e w h k = let P : List Glyph → Type 0 = λ t. goes_on_as_float t ≡ false in let f = subst P k.1 e in cc
no_dot Hexadecimal text rest v a e w h k = no_both 16 120 text w v (omega arith) (omega arith) h a
no_dot Binary text rest v a e w h k = no_both 2 98 text w v (omega arith) (omega arith) h a

decimal_only : (b : Base) (text : List ℕ) (v : ℕ) → is_decimal b ≡ true → WritesIn (radix b) (prefix_of b) text v → WritesDecimal text v
decimal_only Decimal text v e h = h
decimal_only Hexadecimal text v e h = cc
decimal_only Binary text v e h = cc

-- what is known of a number that was read
record IsReadNumber (b : Base) (text : List ℕ) (v : ℕ) (gs rest : List Glyph) : Type 0 where
  whole : gs ≡ map Char text ++ rest
  writes : WritesIn (radix b) (prefix_of b) text v
  longest : IsLongest text gs

is_number : (b : Base) (text : List ℕ) (v : ℕ) (gs rest : List Glyph) → IsReadNumber b text v gs rest → IsNumber text v gs
is_number b text v gs rest r = ((rest, r.whole), writes_in b text v r.writes, r.longest)

when_float : (b : Base) (text : List ℕ) (v : ℕ) (gs rest : List Glyph) → IsReadNumber b text v gs rest → (is_decimal b && goes_on_as_float rest) ≡ true → IsBrokenAt broken.Float gs
when_float b text v gs rest r e =
    let p = and_parts (is_decimal b) (goes_on_as_float rest) e in
    λ before. (refl, inl (text, v, rest, is_number b text v gs rest r, decimal_only b text v p.0 r.writes, r.whole, float_behind rest p.1))

-- the number that is read is the only one that is the longest
same_number : (b : Base) (text : List ℕ) (v : ℕ) (gs rest : List Glyph) (other : List ℕ) (w : ℕ) (more : List Glyph) → IsReadNumber b text v gs rest → IsNumber other w gs → gs ≡ map Char other ++ more
    → (text ≡ other) × (rest ≡ more)
same_number b text v gs rest other w more r n e = by_order (cases_order (length text) (length other))
  where
    by_order : (length text ≡ length other) ⊎ ((length text < length other) ⊎ (length other < length text)) → (text ≡ other) × (rest ≡ more)
    by_order (inl same) = same_chars text other rest more same (sym r.whole ∙ e)
    by_order (inr (inl less)) = absurd (r.longest other (kinds.Number (pos w)) less n.0 (w, n.1, refl))
    by_order (inr (inr less)) = absurd (n.2 text (kinds.Number (pos v)) less (rest, r.whole) (v, writes_in b text v r.writes, refl))

-- a float goes on so, and is seen
digit_there_at : (d : ℕ) → IsDigit 10 d → is_there (digit_at 10 (Some (Char d))) ≡ true
digit_there_at d h = ap is_there (digit_known 10 d h)

no_sign : (d s : ℕ) → IsDigit 10 d → 10 ≤ digit_value s → (d == s) ≡ false
no_sign d s h high = ne_eqb d s (λ e. let same : digit_value d ≡ digit_value s = ap digit_value e in omega arith)

has_digit : (x d : ℕ) (more : List Glyph) → IsDigit 10 d → has_exponent (Char x ∷ Char d ∷ more) ≡ true
has_digit x d more h =
    ap (λ t. cond (t || (d == 45)) (is_there (digit_at 10 (slice_get more 0))) (is_there (digit_at 10 (Some (Char d))))) (no_sign d 43 h (omega arith))
    ∙ ap (λ t. cond t (is_there (digit_at 10 (slice_get more 0))) (is_there (digit_at 10 (Some (Char d))))) (no_sign d 45 h (omega arith))
    ∙ digit_there_at d h

exponent_seen : (e : ℕ) (tail : List Glyph) → ((e ≡ 101) ⊎ (e ≡ 69)) → has_exponent (Char e ∷ tail) ≡ true → goes_on_as_float (Char e ∷ tail) ≡ true
exponent_seen e tail (inl m) h =
    let P : ℕ → Type 0 = λ x. has_exponent (Char x ∷ tail) ≡ true → goes_on_as_float (Char x ∷ tail) ≡ true in
    subst P (sym m) (λ k. k) h
exponent_seen e tail (inr m) h =
    let P : ℕ → Type 0 = λ x. has_exponent (Char x ∷ tail) ≡ true → goes_on_as_float (Char x ∷ tail) ≡ true in
    subst P (sym m) (λ k. k) h

signed_seen : (e d : ℕ) (sign : List ℕ) (more : List Glyph) → IsDigit 10 d → ((sign ≡ []) ⊎ ((sign ≡ 43 ∷ []) ⊎ (sign ≡ 45 ∷ []))) → has_exponent (map Char (e ∷ sign ++ d ∷ []) ++ more) ≡ true
signed_seen e d sign more h (inl k) = let P : List ℕ → Type 0 = λ t. has_exponent (map Char (e ∷ t ++ d ∷ []) ++ more) ≡ true in subst P (sym k) (has_digit e d more h)
signed_seen e d sign more h (inr (inl k)) = let P : List ℕ → Type 0 = λ t. has_exponent (map Char (e ∷ t ++ d ∷ []) ++ more) ≡ true in subst P (sym k) (digit_there_at d h)
signed_seen e d sign more h (inr (inr k)) = let P : List ℕ → Type 0 = λ t. has_exponent (map Char (e ∷ t ++ d ∷ []) ++ more) ≡ true in subst P (sym k) (digit_there_at d h)

float_seen : (rest : List Glyph) → FloatBehind rest → goes_on_as_float rest ≡ true
float_seen rest (inl k) = ap goes_on_as_float k.1
float_seen rest (inr k) =
    let tail : List Glyph = map Char (k.1 ++ k.2 ∷ []) ++ k.6.0 in
    ap goes_on_as_float k.6.1 ∙ exponent_seen k.0 tail k.3 (signed_seen k.0 k.2 k.1 k.6.0 k.5 k.4)

no_behind : (b : Base) (text : List ℕ) (v w : ℕ) (rest : List Glyph) → WritesIn (radix b) (prefix_of b) text v → (is_decimal b && goes_on_as_float rest) ≡ false → WritesDecimal text w → FloatBehind rest → ⊥
no_behind Decimal text v w rest a e h k = let f = float_seen rest k in cc
no_behind Hexadecimal text v w rest a e h k = no_both 16 120 text w v (omega arith) (omega arith) h a
no_behind Binary text v w rest a e h k = no_both 2 98 text w v (omega arith) (omega arith) h a

no_float : (b : Base) (text : List ℕ) (v : ℕ) (gs rest : List Glyph) → IsReadNumber b text v gs rest → (is_decimal b && goes_on_as_float rest) ≡ false → IsUnbrokenAt broken.Float gs
no_float b text v gs rest r e before (none, inl k) =
    let same = same_number b text v gs rest k.0 k.1 k.2 r k.3 k.5 in
    let P : List ℕ → Type 0 = λ t. WritesDecimal t k.1 in
    no_behind b text v k.1 rest r.writes e (subst P (sym same.0) k.4) (subst FloatBehind (sym same.1) k.6)
no_float b text v gs rest r e before (none, inr k) =
    let digit = number_code text v gs (is_number b text v gs rest r) in
    let other = name_or_dot before gs k in
    let same = same_code digit.0 other.0 gs digit.1 other.1 in
    let range : ((48 ≤ digit.0) × (digit.0 ≤ 57)) = digit.2 in
    omega (arith, other.2)
  where
    name_or_dot : (before : List Piece) (gs : List Glyph) → ((d : ℕ) × IsDigit 10 d × BeginsWith (46 ∷ d ∷ []) gs) ⊎ ((name : List ℕ) × IsFloatName name × BeginsWith name gs × IsLongest name gs)
        → (c : ℕ) × Next c gs × ((c ≡ 46) ⊎ ((65 ≤ c) × (c ≤ 90)))
    name_or_dot before gs (inl k) = (46, (Char k.0 ∷ k.2.0, k.2.1), inl refl)
    name_or_dot before gs (inr k) = let n = float_begins k.0 k.1 in (n.0, (map Char n.1 ++ k.2.0, k.2.1 ∙ ap (λ t. map Char t ++ k.2.0) n.2), inr n.3)

no_large : (b : Base) (text : List ℕ) (v : ℕ) (gs rest : List Glyph) → IsReadNumber b text v gs rest → v < 2 ^ 63 → IsUnbrokenAt broken.IntegerTooLarge gs
no_large b text v gs rest r small before (none, k) =
    let same = same_number b text v gs rest k.0 k.1 k.2.0.0 r k.2 k.2.0.1 in
    let P : List ℕ → Type 0 = λ t. WritesNumber t k.1 in
    let value : k.1 ≡ v = one_number b text v k.1 r.writes (subst P (sym same.0) k.2.1) in
    omega (arith, k.3)

by_value : (b : Base) (text : List ℕ) (v : ℕ) (gs rest : List Glyph) (float : Bool) (o : Option ℕ) → IsReadNumber b text v gs rest → (is_decimal b && goes_on_as_float rest) ≡ float → o ≡ limited v
    → MeetsNumber (checked float o rest) gs rest
unfolding limited
by_value b text v gs rest true o r e f = (when_float b text v gs rest r e, tt)
by_value b text v gs rest false None r e f = by_size (nat_lt v (2 ^ 63)) refl f
  where
    by_size : (t : Bool) → nat_lt v (2 ^ 63) ≡ t → None ≡ cond t (Some v) None → MeetsNumber (Err broken.IntegerTooLarge) gs rest
    by_size true t f = cc
    by_size false t f = (λ before. (refl, (text, v, is_number b text v gs rest r, ltb-false v (2 ^ 63) t)), no_float b text v gs rest r e)
by_value b text v gs rest false (Some n) r e f = by_size (nat_lt v (2 ^ 63)) refl f
  where
    by_end : (g : Bool) → v < 2 ^ 63 → n ≡ v → is_there (next_in_name (slice_get rest 0)) ≡ g → MeetsNumber (cond g (Err broken.BadNumber) (Ok (pos n))) gs rest
    by_end true small same t = (
      (λ before. (refl, (text, v, rest, is_number b text v gs rest r, r.whole, goes_here rest t))),
      (no_float b text v gs rest r e, no_large b text v gs rest r small),
    )
    by_end false small same t =
        let P : List Glyph → Type 0 = λ t. IsLongest text t in (
          text,
          r.whole,
          (
            (v, writes_in b text v r.writes, ap pos same),
            subst P r.whole r.longest,
            ((λ w h. let same : w ≡ v = one_number b text v w r.writes h in omega arith), stops_here rest t, no_dot b text rest v r.writes e),
          ),
        )

    by_size : (t : Bool) → nat_lt v (2 ^ 63) ≡ t → Some n ≡ cond t (Some v) None → MeetsNumber (checked false (Some n) rest) gs rest
    by_size true t f = by_end (is_there (next_in_name (slice_get rest 0))) (ltb-true v (2 ^ 63) t) (cc) refl
    by_size false t f = cc

radix_positive : (b : Base) → 1 ≤ radix b
radix_positive Decimal = omega arith
radix_positive Hexadecimal = omega arith
radix_positive Binary = omega arith

number_meets : (c : ℕ) (hs : List Glyph) → is_ascii_digit c ≡ true → is_there (digit_at 10 (slice_get (Char c ∷ hs) 0)) ≡ true → MeetsNumber (number_at (Char c ∷ hs)) (Char c ∷ hs) (after_number (Char c ∷ hs))
unfolding number_at after_number
number_meets c hs digit there =
    let gs = Char c ∷ hs in
    let b = base_at gs in
    let here = base_here gs in
    by_value b (number_text b gs) (number_value b gs) gs (number_rest b gs) (is_decimal b && goes_on_as_float (number_rest b gs)) (value_behind (Some 0) (radix b) (after_prefix b gs))
    (record { whole = number_split b gs here; writes = number_writes b gs there here; longest = number_IsLongest b c hs digit there here }) refl
    (value_read (radix b) 0 (after_prefix b gs) (radix_positive b) (omega arith))

-- the same, as the code shows it
pub number_read : (gs : List Glyph) → Some starts.Number ≡ start_at gs → MeetsNumber (number_at gs) gs (after_number gs)
unfolding start_at
number_read [] e = cc
number_read (Bad b ∷ gs) e = cc
number_read (Char c ∷ gs) e = let digit = when_number c (Char c ∷ gs) (sym e) in number_meets c gs digit (digit_there c digit)
