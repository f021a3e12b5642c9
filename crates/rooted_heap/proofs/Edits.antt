-- What the edits of the values are, step by step.
use Rattle.std.proofs.Common.{◌≡◌, ℕ, ◌+◌, ◌-◌, ◌<◌, ◌≤◌, List, [], ◌∷◌, ◌++◌, length, take, drop, replicate, get_or, refl, sym, ap, ◌∙◌, arith, append_assoc, length-append}
use Rattle.std.proofs.Math.ListN.{set}
use Rattle.std.proofs.lemmas.List.{length-take-le, take-take, take_more, take_all, take_more_set, drop_more, set_at, replicate_more, length-replicate, length-set, take-append-drop}

module _ {X : Type 0} where
  append_nothing : (xs : List X) → xs ++ [] ≡ xs
  append_nothing [] = refl
  append_nothing (x ∷ xs) = ap (λ l. x ∷ l) (append_nothing xs)

  -- one more copy at the end
  pub replicate_pushed : (xs : List X) (n : ℕ) (y : X) → (xs ++ replicate n y) ++ y ∷ [] ≡ xs ++ replicate (n + 1) y
  replicate_pushed xs n y = append_assoc xs (replicate n y) (y ∷ []) ∙ ap (λ l. xs ++ l) (replicate_more n y)

  pub length_replicated : (xs : List X) (n : ℕ) (y : X) → length (xs ++ replicate n y) ≡ length xs + n
  length_replicated xs n y = length-append xs (replicate n y) ∙ ap (λ m. length xs + m) (length-replicate n y)

  pub nothing_pushed : (xs : List X) (y : X) → xs ≡ xs ++ replicate 0 y
  nothing_pushed xs y = sym (append_nothing xs)

  -- one more off the end
  pub popped_more : (xs : List X) (n : ℕ) → n < length xs → take (length (take (length xs - n) xs) - 1) (take (length xs - n) xs) ≡ take (length xs - (n + 1)) xs
  popped_more xs n lt =
      let m = length xs - n in
      let next : m - 1 ≡ length xs - (n + 1) = omega arith in
      ap (λ k. take (k - 1) (take m xs)) (length-take-le m xs (omega arith))
      ∙ take-take (m - 1) m xs (omega arith)
      ∙ ap (λ k. take k xs) next

  pub some_left : (xs : List X) (n : ℕ) → n < length xs → 0 < length (take (length xs - n) xs)
  some_left xs n lt = omega (arith, length-take-le (length xs - n) xs (omega arith))

  pub none_popped : (xs : List X) (n : ℕ) → n ≡ 0 → xs ≡ take (length xs - n) xs
  none_popped xs n none = sym (take_all (length xs - n) xs (omega arith))

  -- the last one goes to a place, and the others from there on go
  pub left_values : (xs : List X) (base : ℕ) (last : X) → base + 1 < length xs → take (length (set (take (length xs - 1) xs) base last) - (length xs - base - 2)) (set (take (length xs - 1) xs) base last) ≡ take base xs ++ last ∷ []
  left_values xs base last lt =
      let front = take (length xs - 1) xs in
      let long : length front ≡ length xs - 1 = length-take-le (length xs - 1) xs (omega arith) in
      let kept : length (set front base last) - (length xs - base - 2) ≡ base + 1 = omega (arith, length-set front base last, long) in
      ap (λ k. take k (set front base last)) kept
      ∙ take_more_set front base last (omega (arith, long))
      ∙ ap (λ l. l ++ last ∷ []) (take-take base (length xs - 1) xs (omega arith))

  pub last_stays : (xs : List X) (base : ℕ) (d : X) → base + 1 ≡ length xs → xs ≡ take base xs ++ get_or xs (length xs - 1) d ∷ []
  last_stays xs base d is =
      let at : base ≡ length xs - 1 = omega (arith, is) in
      sym (take_all (base + 1) xs (omega (arith, is)))
      ∙ take_more xs base d (omega (arith, is))
      ∙ ap (λ k. take base xs ++ get_or xs k d ∷ []) at

  -- a stretch of places
  pub cleared_length : (xs : List X) (from i : ℕ) (y : X) → from ≤ i → i ≤ length xs → length (take from xs ++ replicate (i - from) y) ≡ i
  cleared_length xs from i y le lt = omega (arith, length_replicated (take from xs) (i - from) y, length-take-le from xs (omega arith))

  pub cleared_more : (xs : List X) (from i : ℕ) (y : X) → from ≤ i → i < length xs → set (take from xs ++ replicate (i - from) y ++ drop i xs) i y ≡ take from xs ++ replicate (i + 1 - from) y ++ drop (i + 1) xs
  cleared_more xs from i y le lt =
      let front = take from xs ++ replicate (i - from) y in
      let next : i - from + 1 ≡ i + 1 - from = omega arith in
      let d = get_or xs i y in
      ap (λ l. set (front ++ l) i y) (drop_more xs i y lt)
      ∙ set_at front d (drop (i + 1) xs) y i (cleared_length xs from i y le (omega arith))
      ∙ sym (append_assoc front (y ∷ []) (drop (i + 1) xs))
      ∙ ap (λ l. l ++ drop (i + 1) xs) (replicate_pushed (take from xs) (i - from) y ∙ ap (λ k. take from xs ++ replicate k y) next)

  pub none_cleared : (xs : List X) (from i : ℕ) (y : X) → i ≡ from → xs ≡ take from xs ++ replicate (i - from) y ++ drop i xs
  none_cleared xs from i y is =
      let none : i - from ≡ 0 = omega (arith, is) in
      sym (ap (λ k. take from xs ++ replicate k y ++ drop i xs) none
      ∙ ap (λ l. l ++ drop i xs) (append_nothing (take from xs))
      ∙ ap (λ k. take from xs ++ drop k xs) is
      ∙ take-append-drop from xs)
