-- How values change their places.
use Rattle.std.specs.Prelude.{ℕ, ◌-◌, List, ◌∷◌, ◌++◌, length, take, drop, slice_index_or}
use Rattle.gd_model.specs.declared.value.Value.{Value}
use Rattle.gd_model.specs.declared.value.Value.TheVariants as v

-- the last value stands below so many before it
abbrev pub sunk : List Value → ℕ → List Value
sunk values count =
    take (length values - 1 - count) values ++ slice_index_or values (length values - 1) v.Nil ∷ drop (length values - 1 - count) (take (length values - 1) values)
