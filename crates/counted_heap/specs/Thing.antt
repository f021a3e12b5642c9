-- What the places of a thing hold.
use Rattle.std.specs.Prelude.{ℕ, List, [], ◌++◌, Option, Some, None, map}
use Rattle.slot_arena.specs.declared.handle.Handle.{Handle}
use Rattle.gd_model.specs.declared.key.Key.{Key}
use Rattle.gd_model.specs.declared.value.Value.{Value}
use Rattle.gd_holding.specs.Handles.{value_handle, pair_places}
use Rattle.counted_heap.specs.declared.thing.Thing as thing
use Rattle.counted_heap.specs.declared.thing.Thing.TheVariants.{Object, Array, Dict}

-- an object's variables, or an array's elements
abbrev pub thing_values : thing.Thing → List Value
thing_values (Object class values) = values
thing_values (Array array) = array.items
thing_values (Dict dict) = []

-- a dictionary's pairs
abbrev pub thing_pairs : thing.Thing → List (Key × Value)
thing_pairs (Object class values) = []
thing_pairs (Array array) = []
thing_pairs (Dict dict) = dict.pairs

-- the places of either
abbrev pub thing_places : thing.Thing → List (Option Handle)
thing_places thing = map value_handle (thing_values thing) ++ pair_places (thing_pairs thing)

abbrev pub thing_class : thing.Thing → Option ℕ
thing_class (Object class values) = Some class
thing_class (Array array) = None
thing_class (Dict dict) = None
