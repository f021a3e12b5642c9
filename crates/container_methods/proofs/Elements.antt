-- What a change does to the elements, as the language means them.
use Rattle.std.proofs.Common.{◌≡◌, ℕ, suc, List, [], ◌∷◌, ◌++◌, length, map, take, drop, reverse, replicate, insert, remove, refl, ap, sym, ◌∙◌}
use mathlib.Core.List.{reverse-cons}
use Rattle.std.proofs.lemmas.List.{map-append, take-map, drop-map}

module _ {X Y : Type 0} (f : X → Y) where
  pub map-push : (xs : List X) (x : X) → map f (xs ++ x ∷ []) ≡ map f xs ++ f x ∷ []
  map-push xs x = map-append f xs (x ∷ [])

  pub insert-map : (xs : List X) (i : ℕ) (x : X) → insert (map f xs) i (f x) ≡ map f (insert xs i x)
  insert-map xs i x = (λ j. take-map f i xs j ++ f x ∷ drop-map f i xs j) ∙ sym (map-append f (take i xs) (x ∷ drop i xs))

  pub remove-map : (xs : List X) (i : ℕ) → remove (map f xs) i ≡ map f (remove xs i)
  remove-map xs i = (λ j. take-map f i xs j ++ drop-map f (suc i) xs j) ∙ sym (map-append f (take i xs) (drop (suc i) xs))

  pub reverse-map : (xs : List X) → reverse (map f xs) ≡ map f (reverse xs)
  reverse-map [] = refl
  reverse-map (x ∷ xs) = reverse-cons (f x) (map f xs) ∙ (λ j. reverse-map xs j ++ f x ∷ []) ∙ sym (map-append f (reverse xs) (x ∷ [])) ∙ ap (map f) (sym (reverse-cons x xs))

  pub fill-map : (xs : List X) (x : X) → map (λ y. f x) (map f xs) ≡ map f (replicate (length xs) x)
  fill-map [] x = refl
  fill-map (y ∷ ys) x = ap (λ zs. f x ∷ zs) (fill-map ys x)
