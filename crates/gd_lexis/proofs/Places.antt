-- Places of one file come in the order of what stands before them.
use Rattle.std.proofs.Common.{◌≡◌, ℕ, ◌+◌, ◌<◌, Bool, true, false, not, cond, List, [], ◌∷◌, ◌++◌, length, reverse, refl, ap, sym, ◌∙◌, subst, inl, inr, arith, count_by, append_assoc}
use Rattle.std.specs.List.{prefix_len}
use Rattle.std.proofs.lemmas.List.{reverse-append}
use Rattle.std.proofs.lemmas.List.Sums.{fold-append}
use Rattle.gd_syntax.specs.declared.pos.Pos.{Pos}
use Rattle.gd_lexis.specs.declared.glyph.Glyph.{Glyph}
use Rattle.gd_lexis.specs.Chars.{is_line_feed, place_behind}
use Rattle.gd_lexis.specs.Faults.{IsBefore}

later_still : (a b c : Pos) → IsBefore a b → IsBefore b c → IsBefore a c
later_still a b c (inl h) (inl k) = inl (omega arith)
later_still a b c (inl h) (inr k) = inl (omega arith)
later_still a b c (inr h) (inl k) = inl (omega arith)
later_still a b c (inr h) (inr k) = inr (omega arith, omega arith)

abbrev stays : Glyph → Bool
stays g = not (is_line_feed g)

-- a glyph more is a line more, or a column more in the same line
one_later : (file : ℕ) (xs : List Glyph) (g : Glyph) (t : Bool) → is_line_feed g ≡ t → IsBefore (place_behind file xs) (place_behind file (xs ++ g ∷ []))
one_later file xs g true h =
    let more : count_by is_line_feed (xs ++ g ∷ []) ≡ count_by is_line_feed xs + cond (is_line_feed g) 1 0 = fold-append (λ n g. n + cond (is_line_feed g) 1 0) 0 xs (g ∷ []) in
    let one_more : count_by is_line_feed (xs ++ g ∷ []) ≡ count_by is_line_feed xs + 1 = more ∙ ap (λ b. count_by is_line_feed xs + cond b 1 0) h in
    inl (omega arith)
one_later file xs g false h =
    let more : count_by is_line_feed (xs ++ g ∷ []) ≡ count_by is_line_feed xs + cond (is_line_feed g) 1 0 = fold-append (λ n g. n + cond (is_line_feed g) 1 0) 0 xs (g ∷ []) in
    let same : count_by is_line_feed (xs ++ g ∷ []) ≡ count_by is_line_feed xs + 0 = more ∙ ap (λ b. count_by is_line_feed xs + cond b 1 0) h in
    let turned : reverse (xs ++ g ∷ []) ≡ g ∷ reverse xs = reverse-append xs (g ∷ []) in
    let columns : prefix_len stays (reverse (xs ++ g ∷ [])) ≡ 1 + prefix_len stays (reverse xs) = ap (prefix_len stays) turned ∙ ap (λ b. cond (not b) (1 + prefix_len stays (reverse xs)) 0) h in
    inr (omega arith, omega arith)

-- behind more glyphs the place is a later one
pub later : (file : ℕ) (xs : List Glyph) (g : Glyph) (ys : List Glyph) → IsBefore (place_behind file xs) (place_behind file (xs ++ g ∷ ys))
later file xs g [] = one_later file xs g (is_line_feed g) refl
later file xs g (y ∷ ys) =
    let P : List Glyph → Type 0 = λ t. IsBefore (place_behind file xs) (place_behind file t) in
    subst P (append_assoc xs (g ∷ []) (y ∷ ys))
    (later_still (place_behind file xs) (place_behind file (xs ++ g ∷ [])) (place_behind file ((xs ++ g ∷ []) ++ y ∷ ys)) (one_later file xs g (is_line_feed g) refl) (later file (xs ++ g ∷ []) y ys))

-- of two fronts of one list the longer goes on with the shorter
front_of : (ls ms us vs : List Glyph) → ls ++ us ≡ ms ++ vs → length ls < length ms → (g : Glyph) × (ys : List Glyph) × (ms ≡ ls ++ g ∷ ys)
front_of [] [] us vs e less = absurd (omega arith)
front_of [] (b ∷ ms) us vs e less = (b, ms, refl)
front_of (a ∷ ls) [] us vs e less = absurd (omega arith)
front_of (a ∷ ls) (b ∷ ms) us vs e less =
    let tails : ls ++ us ≡ ms ++ vs = cc in
    let heads : a ≡ b = cc in
    let more = front_of ls ms us vs tails (omega arith) in
    (more.0, more.1, ap (λ t. b ∷ t) more.2 ∙ ap (λ x. x ∷ ls ++ more.0 ∷ more.1) (sym heads))

-- behind the longer of two fronts of what is left the place is a later one
pub fronts_order : (file : ℕ) (xs ls ms us vs : List Glyph) → ls ++ us ≡ ms ++ vs → length ls < length ms → IsBefore (place_behind file (xs ++ ls)) (place_behind file (xs ++ ms))
fronts_order file xs ls ms us vs e less =
    let more = front_of ls ms us vs e less in
    let P : List Glyph → Type 0 = λ t. IsBefore (place_behind file (xs ++ ls)) (place_behind file t) in
    subst P (append_assoc xs ls (more.0 ∷ more.1) ∙ ap (λ t. xs ++ t) (sym more.2)) (later file (xs ++ ls) more.0 more.1)
