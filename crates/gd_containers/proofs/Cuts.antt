-- What is read in a list and cut out of it, each element in another form.
use Rattle.std.proofs.Common.{◌≡◌, ℕ, ◌-◌, List, length, map, take, drop, Option, None, Some, option_map, option_and_then, slice_get, ℤ, refl, ap, ◌∙◌}
use Rattle.std.specs.List.{slice_range}
use Rattle.std.proofs.lemmas.List.{length-map, take-map, drop-map}
use Rattle.std.proofs.lemmas.Option.{slice_get-map}
use Rattle.gd_model.specs.Place.{place, element_at}

module _ {X Y : Type 0} (f : X → Y) (xs : List X) where
  pub slice_range-map : (a b : ℕ) → slice_range (map f xs) a b ≡ map f (slice_range xs a b)
  slice_range-map a b = ap (take (b - a)) (drop-map f a xs) ∙ take-map f (b - a) (drop a xs)

  read-map : (at : Option ℕ) → option_and_then (λ i. slice_get (map f xs) i) at ≡ option_map f (option_and_then (λ i. slice_get xs i) at)
  read-map None = refl
  read-map (Some i) = slice_get-map f xs i

  pub element_at-map : (at : ℤ) → element_at (map f xs) at ≡ option_map f (element_at xs at)
  element_at-map at = ap (λ n. option_and_then (λ i. slice_get (map f xs) i) (place at n)) (length-map xs f) ∙ read-map (place at (length xs))
