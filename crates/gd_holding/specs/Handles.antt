-- The handles in values and keys.
use Rattle.std.specs.Prelude.{List, [], ◌∷◌, Option, Some, None}
use Rattle.slot_arena.specs.declared.handle.Handle.{Handle}
use Rattle.gd_model.specs.declared.value.Value as value
use Rattle.gd_model.specs.declared.key.Key as key
use Rattle.gd_model.specs.declared.value.Value.TheVariants as v
use Rattle.gd_model.specs.declared.key.Key.TheVariants as k

-- the handle that a value holds: callables and signals hold nothing
abbrev pub value_handle : value.Value → Option Handle
value_handle v.Nil = None
value_handle (v.Bool _) = None
value_handle (v.Int _) = None
value_handle (v.Str _) = None
value_handle (v.Object h) = Some h
value_handle (v.Array h) = Some h
value_handle (v.Dict h) = Some h
value_handle (v.Callable _) = None
value_handle (v.Signal _) = None

-- the handle that a key holds
abbrev pub key_handle : key.Key → Option Handle
key_handle k.Nil = None
key_handle (k.Bool _) = None
key_handle (k.Int _) = None
key_handle (k.Str _) = None
key_handle (k.Object h) = Some h

-- the places of pairs: for each its key and then its value
abbrev pub pair_places : List (key.Key × value.Value) → List (Option Handle)
pair_places [] = []
pair_places (pair ∷ pairs) = key_handle pair.0 ∷ (value_handle pair.1 ∷ pair_places pairs)
