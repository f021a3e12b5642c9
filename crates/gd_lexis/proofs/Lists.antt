-- Where two joined lists are one, and their fronts are of one length, so are their parts.
use Rattle.std.proofs.Common.{◌≡◌, ℕ, List, [], ◌∷◌, ◌++◌, length, map, refl, arith}
use Rattle.gd_lexis.specs.declared.glyph.Glyph.{Glyph}
use Rattle.gd_lexis.specs.declared.glyph.Glyph.TheVariants.{Char}

pub same_parts : {A : Type 0} (xs ys us vs : List A) → length xs ≡ length ys → xs ++ us ≡ ys ++ vs → (xs ≡ ys) × (us ≡ vs)
same_parts [] [] us vs l e = (refl, e)
same_parts [] (y ∷ ys) us vs l e = absurd (omega arith)
same_parts (x ∷ xs) [] us vs l e = absurd (omega arith)
same_parts (x ∷ xs) (y ∷ ys) us vs l e =
    let head : x ≡ y = cc in
    let tail : xs ++ us ≡ ys ++ vs = cc in
    let parts = same_parts xs ys us vs (omega arith) tail in
    let fronts : xs ≡ ys = parts.0 in
    (cc, parts.1)

pub same_chars : (cs ds : List ℕ) (us vs : List Glyph) → length cs ≡ length ds → map Char cs ++ us ≡ map Char ds ++ vs → (cs ≡ ds) × (us ≡ vs)
same_chars [] [] us vs l e = (refl, e)
same_chars [] (d ∷ ds) us vs l e = absurd (omega arith)
same_chars (c ∷ cs) [] us vs l e = absurd (omega arith)
same_chars (c ∷ cs) (d ∷ ds) us vs l e =
    let head : c ≡ d = cc in
    let tail : map Char cs ++ us ≡ map Char ds ++ vs = cc in
    let parts = same_chars cs ds us vs (omega arith) tail in
    let fronts : cs ≡ ds = parts.0 in
    (cc, parts.1)

pub cons_parts : {A : Type 0} (x y : A) (xs ys : List A) → x ∷ xs ≡ y ∷ ys → (x ≡ y) × (xs ≡ ys)
cons_parts x y xs ys e = (cc, cc)

pub not_empty : {A : Type 0} (x : A) (xs : List A) → x ∷ xs ≡ [] → ⊥
not_empty x xs e = cc
