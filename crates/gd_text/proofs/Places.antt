-- Where a text stands in another, and the parts between.
use Rattle.std.proofs.Common.{◌≡◌, ℕ, zero, suc, ◌+◌, ◌-◌, ◌<◌, Bool, true, false, cond, nat_eq, List, [], ◌∷◌, ◌++◌, length, take, drop, filter, flat_map, Option, None, Some, option_map, slice_range, refl, sym, ap, ◌∙◌, append_assoc, append-nil, arith}
use Rattle.std.specs.List.{starts_with}
use Rattle.std.proofs.lemmas.List.{drop-drop, take_rest}
use Rattle.gd_text.specs.Search.{first_at, before_parts, parts_after, parts, joined, is_kept}

-- what a place that was counted from `start` says
record Counted (o : Option ℕ) (start at : ℕ) : Type 0 where
  k : ℕ
  found : o ≡ Some k
  is : at ≡ start + k

counted : (o : Option ℕ) (start at : ℕ) → option_map (λ i. start + i) o ≡ Some at → Counted o start at
counted None start at e = cc
counted (Some k) start at e = record { k = k; found = refl; is = cc }

uncounted : (o : Option ℕ) (start : ℕ) → option_map (λ i. start + i) o ≡ None → o ≡ None
uncounted None start e = refl
uncounted (Some k) start e = cc

skipped : (by : List ℕ) (j : ℕ) (xs : List ℕ) → parts_after by j xs ≡ parts_after by 0 (drop j xs)
skipped by zero xs = refl
skipped by (suc j) [] = refl
skipped by (suc j) (c ∷ cs) = skipped by j cs

-- the text stands at the front, or further on
found_here : (b : Bool) (by : List ℕ) (c : ℕ) (cs : List ℕ) (o : Option ℕ) (rest : List (List ℕ)) (k : ℕ) → 0 < length by → cond b (Some 0) (option_map suc o) ≡ Some k → ((j : ℕ) → o ≡ Some j → rest ≡ take j cs ∷ parts_after by 0 (drop (j + length by) cs)) → cond b ([] ∷ parts_after by (length by - 1) cs) (before_parts c rest) ≡ take k (c ∷ cs) ∷ parts_after by 0 (drop (k + length by) (c ∷ cs))
found_here true by c cs o rest k some e ih =
    let none : 0 ≡ k = cc in
    let long : suc (length by - 1) ≡ k + length by = omega arith in
    ap (λ ps. [] ∷ ps) (skipped by (length by - 1) cs) ∙ ap (λ n. [] ∷ parts_after by 0 (drop n (c ∷ cs))) long ∙ ap (λ n. take n (c ∷ cs) ∷ parts_after by 0 (drop (k + length by) (c ∷ cs))) none
found_here false by c cs None rest k some e ih = cc
found_here false by c cs (Some j) rest k some e ih =
    let next : suc j ≡ k = cc in
    let long : suc (j + length by) ≡ k + length by = omega arith in
    ap (before_parts c) (ih j refl) ∙ ap (λ n. (c ∷ take j cs) ∷ parts_after by 0 (drop n (c ∷ cs))) long ∙ ap (λ n. take n (c ∷ cs) ∷ parts_after by 0 (drop (k + length by) (c ∷ cs))) next

found_parts : (by xs : List ℕ) (k : ℕ) → 0 < length by → first_at by xs ≡ Some k → parts_after by 0 xs ≡ take k xs ∷ parts_after by 0 (drop (k + length by) xs)
found_parts by [] k some e = cc
found_parts by (c ∷ cs) k some e =
    found_here (starts_with nat_eq (c ∷ cs) by) by c cs (first_at by cs) (parts_after by 0 cs) k some e (λ j f. found_parts by cs j some f)

found_nowhere : (b : Bool) (by : List ℕ) (c : ℕ) (cs : List ℕ) (o : Option ℕ) (rest : List (List ℕ)) → cond b (Some 0) (option_map suc o) ≡ None → (o ≡ None → rest ≡ cs ∷ []) → cond b ([] ∷ parts_after by (length by - 1) cs) (before_parts c rest) ≡ (c ∷ cs) ∷ []
found_nowhere true by c cs o rest e ih = cc
found_nowhere false by c cs None rest e ih = ap (before_parts c) (ih refl)
found_nowhere false by c cs (Some j) rest e ih = cc

one_part : (by xs : List ℕ) → first_at by xs ≡ None → parts_after by 0 xs ≡ xs ∷ []
one_part by [] e = refl
one_part by (c ∷ cs) e = found_nowhere (starts_with nat_eq (c ∷ cs) by) by c cs (first_at by cs) (parts_after by 0 cs) e (λ f. one_part by cs f)

some_before : (c : ℕ) (ps : List (List ℕ)) → 0 < length (before_parts c ps)
some_before c [] = omega arith
some_before c (p ∷ ps) = omega arith

some_here : (b : Bool) (c : ℕ) (ps qs : List (List ℕ)) → 0 < length (cond b ([] ∷ ps) (before_parts c qs))
some_here true c ps qs = omega arith
some_here false c ps qs = some_before c qs

some_parts : (by : List ℕ) (j : ℕ) (xs : List ℕ) → 0 < length (parts_after by j xs)
some_parts by j [] = omega arith
some_parts by zero (c ∷ cs) = some_here (starts_with nat_eq (c ∷ cs) by) c _ _
some_parts by (suc j) (c ∷ cs) = some_parts by j cs

joined_more : (with p : List ℕ) (ps : List (List ℕ)) → 0 < length ps → joined with (p ∷ ps) ≡ p ++ (with ++ joined with ps)
joined_more with p [] some = absurd (omega arith)
joined_more with p (q ∷ qs) some = ap (λ xs. p ++ xs) (append_assoc with q (flat_map (λ y. with ++ y) qs))

-- the parts from `start` on, where the text stands at `at` next
parts_step : (by xs : List ℕ) (start at : ℕ) → 0 < length by → option_map (λ i. start + i) (first_at by (drop start xs)) ≡ Some at → parts by (drop start xs) ≡ slice_range xs start at ∷ parts by (drop (at + length by) xs)
parts_step by xs start at some e =
    let c = counted (first_at by (drop start xs)) start at e in
    let front : c.k ≡ at - start = let h : at ≡ start + c.k = c.is in omega arith in
    let back : start + (c.k + length by) ≡ at + length by = let h : at ≡ start + c.k = c.is in omega arith in
    found_parts by (drop start xs) c.k some c.found ∙ ap (λ n. take n (drop start xs) ∷ parts by (drop (c.k + length by) (drop start xs))) front
    ∙ ap (λ ys. slice_range xs start at ∷ parts by ys) (drop-drop (c.k + length by) start xs ∙ ap (λ n. drop n xs) back)

parts_end : (by xs : List ℕ) (start : ℕ) → option_map (λ i. start + i) (first_at by (drop start xs)) ≡ None → parts by (drop start xs) ≡ drop start xs ∷ []
parts_end by xs start e = one_part by (drop start xs) (uncounted _ start e)

-- a turn of `replace`: what was to come is the part before the place, `with`, and what comes after
pub replaced_step : (what with xs out whole : List ℕ) (start at : ℕ) → 0 < length what → option_map (λ i. start + i) (first_at what (drop start xs)) ≡ Some at → whole ≡ out ++ joined with (parts what (drop start xs)) → whole ≡ out ++ (slice_range xs start at ++ (with ++ joined with (parts what (drop (at + length what) xs))))
replaced_step what with xs out whole start at some e w =
    w ∙ ap (λ ps. out ++ joined with ps) (parts_step what xs start at some e) ∙ ap (λ ys. out ++ ys) (joined_more with (slice_range xs start at) _ (some_parts what 0 (drop (at + length what) xs)))

pub replaced_end : (what with xs out whole : List ℕ) (start : ℕ) → option_map (λ i. start + i) (first_at what (drop start xs)) ≡ None → whole ≡ out ++ joined with (parts what (drop start xs)) → whole ≡ out ++ slice_range xs start (length xs)
replaced_end what with xs out whole start e w =
    w ∙ ap (λ ps. out ++ joined with ps) (parts_end what xs start e) ∙ ap (λ ys. out ++ ys) (append-nil (drop start xs) ∙ sym (take_rest xs start))

kept_more : (b : Bool) (p : List ℕ) (ps : List (List ℕ)) → cond b (p ∷ ps) ps ≡ cond b (p ∷ []) [] ++ ps
kept_more true p ps = refl
kept_more false p ps = refl

-- a turn of `split`
pub split_step : (by xs : List ℕ) (empty : Bool) (done whole : List (List ℕ)) (start at : ℕ) → 0 < length by → option_map (λ i. start + i) (first_at by (drop start xs)) ≡ Some at → whole ≡ done ++ filter (is_kept empty) (parts by (drop start xs)) → whole ≡ (done ++ filter (is_kept empty) (slice_range xs start at ∷ [])) ++ filter (is_kept empty) (parts by (drop (at + length by) xs))
split_step by xs empty done whole start at some e w =
    w ∙ ap (λ ps. done ++ filter (is_kept empty) ps) (parts_step by xs start at some e) ∙ ap (λ ys. done ++ ys) (kept_more (is_kept empty (slice_range xs start at)) (slice_range xs start at) _)
    ∙ sym (append_assoc done (filter (is_kept empty) (slice_range xs start at ∷ [])) _)

pub split_end : (by xs : List ℕ) (empty : Bool) (done whole : List (List ℕ)) (start : ℕ) → option_map (λ i. start + i) (first_at by (drop start xs)) ≡ None → whole ≡ done ++ filter (is_kept empty) (parts by (drop start xs)) → whole ≡ done ++ filter (is_kept empty) (slice_range xs start (length xs) ∷ [])
split_end by xs empty done whole start e w =
    w ∙ ap (λ ps. done ++ filter (is_kept empty) ps) (parts_end by xs start e) ∙ ap (λ ys. done ++ filter (is_kept empty) (ys ∷ [])) (sym (take_rest xs start))
