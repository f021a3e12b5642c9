-- What leaves dictionaries.
use Rattle.std.specs.Prelude.{◌≡◌, ◌≤◌, List, [], ◌∷◌, Option, None, Some}
use Rattle.gd_model.specs.declared.key.Key.{Key}
use Rattle.gd_model.specs.declared.value.Value.{Value}
use Rattle.gd_model.specs.View.{pair_at, without_key}
use Rattle.gd_model.specs.Whole.{key_value}
use Rattle.counted_heap.specs.declared.thing.Thing.{Thing}
use Rattle.counted_heap.specs.declared.thing.Thing.TheVariants.{Object, Array, Dict}
use Rattle.rooted_heap.specs.Rooted.{RootedView}

-- a dictionary without the pair of a key
abbrev pub without_entry : Key → Thing → Thing
without_entry key (Object class values) = Object class values
without_entry key (Array a) = Array a
without_entry key (Dict d) = Dict (record d { pairs = without_key d.pairs key })

-- the pair of a key
abbrev pub pair_in : Key → Thing → Option (Key × Value)
pair_in key (Object class values) = None
pair_in key (Array a) = None
pair_in key (Dict d) = pair_at d.pairs key

-- a dictionary without pairs
abbrev pub emptied : Thing → Thing
emptied (Object class values) = Object class values
emptied (Array a) = Array a
emptied (Dict d) = Dict (record d { pairs = [] })

-- the key and the value of a pair
abbrev pub lying : Option (Key × Value) → List Value
lying None = []
lying (Some p) = key_value p.0 ∷ p.1 ∷ []

-- names stay, and there may be more room
pub record Grows (old new : RootedView) : Type 0 where
  pub names : new.names ≡ old.names
  pub slots : old.slots ≤ new.slots
