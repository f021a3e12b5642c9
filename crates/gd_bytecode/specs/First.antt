-- The first of several faults.
use Rattle.std.specs.Prelude.{ℕ, suc, Bool, nat_lt, List, [], ◌∷◌, Option, None, Some, if◌then◌else◌}
use Rattle.std.specs.Option.{option_or}

-- the first entry with a fault, entries being numbered from a number on
abbrev pub first_in : {A F : Type 0} → (ℕ → A → Option F) → ℕ → List A → Option F
first_in fault i [] = None
first_in fault i (x ∷ xs) = option_or (fault i x) (first_in fault (suc i) xs)

-- what has to hold of a field
abbrev pub unless : {F : Type 0} → Bool → F → Option F
unless holds field = if holds then None else Some field

-- a number names one of so many entries
abbrev pub within : {F : Type 0} → ℕ → ℕ → F → Option F
within n size field = unless (nat_lt n size) field
