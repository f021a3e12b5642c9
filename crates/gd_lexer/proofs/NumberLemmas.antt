-- Steps over the digits of a number.
use Rattle.std.proofs.Common.{◌≡◌, ℕ, Bool, true, List, [], ◌∷◌, drop, slice_get, refl}
use Rattle.std.proofs.Common.{arith, ◌≤◌, ◌-◌, length}
use Rattle.std.specs.Prelude.{Option, Some, None}
use Rattle.gd_lexis.specs.declared.glyph.Glyph.{Glyph}
use Rattle.gd_lexer.specs.declared.number.Part.{Part}
use Rattle.gd_lexer.specs.declared.number.Base.{Base}
use Rattle.gd_lexer.specs.declared.number.Base.TheVariants.{Binary, Decimal, Hexadecimal}
use Rattle.gd_lexer.specs.Number.{radix, digit_at, is_there, part_at, part_by, extended, value_behind, after_digits, base_at, after_prefix, after_number}

pub value_more : (gs : List Glyph) (v : Option ℕ) (r : ℕ) (p : Part) → Some p ≡ part_at r gs → value_behind v r gs ≡ value_behind (extended v r p) r (drop 1 gs)
unfolding value_behind
value_more [] v r p e = cc
value_more (g ∷ gs) v r p e = rw (← e) refl

pub value_end : (gs : List Glyph) (v : Option ℕ) (r : ℕ) → None ≡ part_at r gs → value_behind v r gs ≡ v
unfolding value_behind
value_end [] v r e = refl
value_end (g ∷ gs) v r e = rw (← e) refl

pub after_digits_more : (gs : List Glyph) (r : ℕ) (p : Part) → Some p ≡ part_at r gs → after_digits r gs ≡ after_digits r (drop 1 gs)
unfolding after_digits
after_digits_more [] r p e = cc
after_digits_more (g ∷ gs) r p e = rw (← e) refl

pub after_digits_end : (gs : List Glyph) (r : ℕ) → None ≡ part_at r gs → after_digits r gs ≡ gs
unfolding after_digits
after_digits_end [] r e = refl
after_digits_end (g ∷ gs) r e = rw (← e) refl

part_there : (o : Option ℕ) (bar : Bool) → is_there o ≡ true → is_there (part_by o bar) ≡ true
part_there None bar e = cc
part_there (Some d) bar e = refl

by_part : (o : Option Part) (n : ℕ) (x : List Glyph) (y : List Glyph) → length x ≤ n → length y ≤ n → length (elim o as (λ _. List Glyph) [ None ↦ x | Some p ↦ y ]) ≤ n
by_part None n x y h k = h
by_part (Some p) n x y h k = k

after_digits_within : (r : ℕ) (gs : List Glyph) → length (after_digits r gs) ≤ length gs
unfolding after_digits
after_digits_within r [] = omega arith
after_digits_within r (g ∷ gs) = let rest = after_digits_within r gs in by_part (part_at r (g ∷ gs)) (length (g ∷ gs)) (g ∷ gs) (after_digits r gs) (omega arith) (omega arith)

by_some_part : (o : Option Part) (n : ℕ) (x : List Glyph) (y : List Glyph) → is_there o ≡ true → length y ≤ n → length (elim o as (λ _. List Glyph) [ None ↦ x | Some p ↦ y ]) ≤ n
by_some_part None n x y h k = cc
by_some_part (Some p) n x y h k = k

-- a number has at least a digit
after_digits_fewer : (r : ℕ) (gs : List Glyph) → is_there (digit_at r (slice_get gs 0)) ≡ true → length (after_digits r gs) ≤ length gs - 1
unfolding after_digits
after_digits_fewer r [] e = omega arith
after_digits_fewer r (g ∷ gs) e =
    let rest = after_digits_within r gs in
    by_some_part (part_at r (g ∷ gs)) (length (g ∷ gs) - 1) (g ∷ gs) (after_digits r gs) (part_there (digit_at r (Some g)) _ e) (omega arith)

two_fewer : (hs : List Glyph) → length (drop 2 hs) ≤ length hs - 1
two_fewer [] = omega arith
two_fewer (h ∷ []) = omega arith
two_fewer (h ∷ i ∷ hs) = omega arith

fewer_in : (b : Base) (gs : List Glyph) → is_there (digit_at 10 (slice_get gs 0)) ≡ true → length (after_digits (radix b) (after_prefix b gs)) ≤ length gs - 1
fewer_in Decimal gs e = after_digits_fewer 10 gs e
fewer_in Hexadecimal gs e = let rest = after_digits_within 16 (drop 2 gs) in omega (arith, two_fewer gs)
fewer_in Binary gs e = let rest = after_digits_within 2 (drop 2 gs) in omega (arith, two_fewer gs)

pub number_fewer : (gs : List Glyph) → is_there (digit_at 10 (slice_get gs 0)) ≡ true → length (after_number gs) ≤ length gs - 1
unfolding after_number
number_fewer gs e = fewer_in (base_at gs) gs e
