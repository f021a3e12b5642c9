-- What a beginning says of the glyphs.
use Rattle.std.proofs.Common.{◌≡◌, ℕ, ◌<◌, Bool, true, false, cond, List, [], ◌∷◌, slice_get, drop, refl, ap, sym, ◌∙◌, arith, subst, inl, inr}
use Rattle.std.proofs.lemmas.Bool.Decides.{nat_tests}
use Rattle.std.proofs.lemmas.Bool.{lt-ltb, eqb-true, and_parts}
use Rattle.gd_rules.specs.declared.rule.Rule.TheVariants.{Float}
use Rattle.gd_lexer.specs.Token.{IsBrokenAt}
use Rattle.std.specs.Prelude.{nat_lt, Option, Some, None, ◌||◌, ◌&&◌, ◌==◌}
use Rattle.std.specs.Char.{is_ascii_digit, digit_value}
use Rattle.unicode_ident.specs.Ident.{is_xid_start}
use Rattle.gd_syntax.specs.declared.token.Mark.{Mark}
use Rattle.gd_lexis.specs.declared.glyph.Glyph.{Glyph}
use Rattle.gd_lexis.specs.declared.glyph.Glyph.TheVariants.{Char, Bad}
use Rattle.gd_lexer.specs.declared.lexer.Start.{Start}
use Rattle.gd_lexer.specs.declared.lexer.Start.TheVariants as starts
use Rattle.gd_lexer.specs.Mark.{mark_at}
use Rattle.gd_lexer.specs.Number.{digit_at, is_there}
use Rattle.gd_lexer.specs.Start.{start_at, start_by, opens_string, is_digit, marked}
use Rattle.gd_lexer.proofs.DecodeLemmas.{pick}

pub digit_there : (c : ℕ) → is_ascii_digit c ≡ true → is_there (digit_at 10 (Some (Char c))) ≡ true
digit_there c e = let small : digit_value c < 10 = grind (arith, nat_tests) in there (nat_lt (digit_value c) 10) (lt-ltb (digit_value c) 10 small)
  where
    there : (b : Bool) → b ≡ true → is_there (cond b (Some (digit_value c)) None) ≡ true
    there true f = refl
    there false f = cc

pub not_marked : (o : Option (Mark × ℕ)) (s : Start) → marked o ≡ Some s → (m : Mark × ℕ) × (s ≡ starts.Mark m.0 m.1)
not_marked None s e = cc
not_marked (Some m) s e = (m, cc)

-- the beginning says which test held
pub when_number : (c : ℕ) (gs : List Glyph) → start_by c gs ≡ Some starts.Number → is_ascii_digit c ≡ true
when_number c gs e =
    pick _ (is_ascii_digit c) _ _ _ (λ h _. h)
    (λ _. pick _ (opens_string c gs) _ _ _ (λ _ f. cc)
    (λ _. pick _ (is_xid_start c || c == 95) _ _ _ (λ _ f. cc)
    (λ _. pick _ (c == 46 && is_digit (slice_get gs 1)) _ _ _ (λ _ f. cc) (λ _ f. let m = not_marked (mark_at c gs) starts.Number f in cc)))) e

pub number_here : (gs : List Glyph) → Some starts.Number ≡ start_at gs → is_there (digit_at 10 (slice_get gs 0)) ≡ true
unfolding start_at
number_here [] e = cc
number_here (Bad b ∷ gs) e = cc
number_here (Char c ∷ gs) e = digit_there c (when_number c (Char c ∷ gs) (sym e))

-- where a name begins
pub record NameHere (c : ℕ) (gs : List Glyph) : Type 0 where
  pub head : gs ≡ Char c ∷ drop 1 gs
  pub name : (is_xid_start c || c == 95) ≡ true
  pub plain : opens_string c gs ≡ false

name_by : (d c : ℕ) (gs : List Glyph) → start_by d (Char d ∷ gs) ≡ Some (starts.Name c) → NameHere c (Char d ∷ gs)
name_by d c gs e =
    pick _ (is_ascii_digit d) _ _ _ (λ _ f. cc)
    (λ _. pick _ (opens_string d (Char d ∷ gs)) _ _ _ (λ _ f. cc)
    (λ plain. pick _ (is_xid_start d || d == 95) _ _ _
    (λ name f.
    let same : d ≡ c = cc in
    let P : ℕ → Type 0 = λ t. (is_xid_start t || t == 95) ≡ true in
    let Q : ℕ → Type 0 = λ t. opens_string t (Char d ∷ gs) ≡ false in
    record { head = rw same refl; name = subst P same name; plain = subst Q same plain })
    (λ _. pick _ (d == 46 && is_digit (slice_get (Char d ∷ gs) 1)) _ _ _ (λ _ f. cc) (λ _ f. let m = not_marked (mark_at d (Char d ∷ gs)) (starts.Name c) f in cc)))) e

pub name_here : (gs : List Glyph) (c : ℕ) → Some (starts.Name c) ≡ start_at gs → NameHere c gs
unfolding start_at
name_here [] c e = cc
name_here (Bad b ∷ gs) c e = cc
name_here (Char d ∷ gs) c e = name_by d c gs (sym e)

-- where a mark begins
pub record MarkHere (m : Mark) (n : ℕ) (gs : List Glyph) : Type 0 where
  pub c : ℕ
  pub head : gs ≡ Char c ∷ drop 1 gs
  pub digits : is_ascii_digit c ≡ false
  pub opens : opens_string c gs ≡ false
  pub names : (is_xid_start c || c == 95) ≡ false
  pub dot : (c == 46 && is_digit (slice_get gs 1)) ≡ false
  pub mark : mark_at c gs ≡ Some (m, n)

was_marked : (o : Option (Mark × ℕ)) (m : Mark) (n : ℕ) → marked o ≡ Some (starts.Mark m n) → o ≡ Some (m, n)
was_marked None m n e = cc
was_marked (Some p) m n e = let first : p.0 ≡ m = cc in let second : p.1 ≡ n = cc in ap (λ (r : Mark × ℕ). Some r) (pair p.0 m p.1 n first second)
  where
    pair : (a b : Mark) (i j : ℕ) → a ≡ b → i ≡ j → ◌≡◌ {A = Mark × ℕ} (a, i) (b, j)
    pair a b i j e f = rw (e, f) refl

mark_by : (d : ℕ) (m : Mark) (n : ℕ) (gs : List Glyph) → start_by d (Char d ∷ gs) ≡ Some (starts.Mark m n) → MarkHere m n (Char d ∷ gs)
mark_by d m n gs e =
    pick _ (is_ascii_digit d) _ _ _ (λ _ f. cc)
    (λ digits. pick _ (opens_string d (Char d ∷ gs)) _ _ _ (λ _ f. cc)
    (λ opens. pick _ (is_xid_start d || d == 95) _ _ _ (λ _ f. cc)
    (λ names. pick _ (d == 46 && is_digit (slice_get (Char d ∷ gs) 1)) _ _ _ (λ _ f. cc)
    (λ dot f. record { c = d; head = refl; digits = digits; opens = opens; names = names; dot = dot; mark = was_marked (mark_at d (Char d ∷ gs)) m n f })))) e

pub mark_here : (gs : List Glyph) (m : Mark) (n : ℕ) → Some (starts.Mark m n) ≡ start_at gs → MarkHere m n gs
unfolding start_at
mark_here [] m n e = cc
mark_here (Bad b ∷ gs) m n e = cc
mark_here (Char d ∷ gs) m n e = mark_by d m n gs (sym e)

-- where a dot stands before a digit
pub record FloatHere (gs : List Glyph) : Type 0 where
  pub d : ℕ
  pub whole : gs ≡ Char 46 ∷ Char d ∷ drop 2 gs
  pub digit : is_ascii_digit d ≡ true

digit_next : (gs : List Glyph) → is_digit (slice_get gs 0) ≡ true → (d : ℕ) × ((gs ≡ Char d ∷ drop 1 gs) × (is_ascii_digit d ≡ true))
digit_next [] e = cc
digit_next (Bad b ∷ gs) e = cc
digit_next (Char d ∷ gs) e = (d, (refl, e))

float_by : (c : ℕ) (gs : List Glyph) → start_by c (Char c ∷ gs) ≡ Some starts.Float → FloatHere (Char c ∷ gs)
float_by c gs e =
    pick _ (is_ascii_digit c) _ _ _ (λ _ f. cc)
    (λ _. pick _ (opens_string c (Char c ∷ gs)) _ _ _ (λ _ f. cc)
    (λ _. pick _ (is_xid_start c || c == 95) _ _ _ (λ _ f. cc)
    (λ _. pick _ (c == 46 && is_digit (slice_get (Char c ∷ gs) 1)) _ _ _
    (λ both _.
    let p = and_parts (c == 46) (is_digit (slice_get gs 0)) both in
    let d = digit_next gs p.1 in
    let first : c ≡ 46 = eqb-true c 46 p.0 in
    record { d = d.0; whole = ap (λ n. Char n ∷ gs) first ∙ ap (λ t. Char 46 ∷ t) d.1.0; digit = d.1.1 })
    (λ _ f. let m = not_marked (mark_at c (Char c ∷ gs)) starts.Float f in cc)))) e

pub float_here : (gs : List Glyph) → Some starts.Float ≡ start_at gs → FloatHere gs
unfolding start_at
float_here [] e = cc
float_here (Bad b ∷ gs) e = cc
float_here (Char c ∷ gs) e = float_by c gs (sym e)

small_digit : (d : ℕ) → is_ascii_digit d ≡ true → digit_value d < 10
small_digit d e = grind (arith, nat_tests)

pub float_read : (gs : List Glyph) → Some starts.Float ≡ start_at gs → IsBrokenAt Float gs
float_read gs e = let here = float_here gs e in λ before. (refl, inr (inl (here.d, small_digit here.d here.digit, (drop 2 gs, here.whole))))
