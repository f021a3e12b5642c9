-- What is read from things.
use Rattle.std.specs.Prelude.{ℕ, nat_eq, if◌then◌else◌, List, [], ◌∷◌, ◌++◌, map, slice_get, Option, None, Some, option_and_then, option_map, unwrap_or, filter_map}
use Rattle.slot_arena.specs.declared.handle.Handle.{Handle}
use Rattle.gd_model.specs.declared.key.Key.{Key}
use Rattle.gd_model.specs.declared.value.Value.{Value}
use Rattle.gd_model.specs.declared.value.Value.TheVariants as v
use Rattle.gd_model.specs.View.{value_at, class_in}
use Rattle.gd_model.specs.Whole.{key_value}
use Rattle.counted_heap.specs.declared.thing.Thing.{Thing}
use Rattle.counted_heap.specs.declared.thing.Thing.TheVariants.{Object, Array, Dict}
use Rattle.counted_heap.specs.Thing.{thing_class}
use Rattle.rooted_heap.specs.Rooted.{RootedView, thing_at, seen}

-- the handle of an object, of an array and of a dictionary
abbrev pub object_handle : Value → Option Handle
object_handle (v.Object h) = Some h
object_handle _ = None

abbrev pub array_handle : Value → Option Handle
array_handle (v.Array h) = Some h
array_handle _ = None

abbrev pub dict_handle : Value → Option Handle
dict_handle (v.Dict h) = Some h
dict_handle _ = None

-- variable k of an object of a class
abbrev pub variable_in : ℕ → ℕ → Thing → Option Value
variable_in class k (Object c values) = if nat_eq c class then slice_get values k else None
variable_in class k (Array a) = None
variable_in class k (Dict d) = None

-- element k of an array
abbrev pub element_in : ℕ → Thing → Option Value
element_in k (Object c values) = None
element_in k (Array a) = slice_get a.items k
element_in k (Dict d) = None

-- the value at a key of a dictionary
abbrev pub entry_in : Key → Thing → Option Value
entry_in key (Object c values) = None
entry_in key (Array a) = None
entry_in key (Dict d) = value_at d.pairs key

-- key number j of a dictionary, as a value
abbrev pub key_in : ℕ → Thing → Option Value
key_in j (Object c values) = None
key_in j (Array a) = None
key_in j (Dict d) = option_map (λ p. key_value p.0) (slice_get d.pairs j)

-- the keys of a dictionary in order, as values
abbrev pub keys_in : Thing → List Value
keys_in (Object c values) = []
keys_in (Array a) = []
keys_in (Dict d) = map (λ p. key_value p.0) d.pairs

-- what is read from the thing that a handle names
abbrev pub read_at : {X : Type 0} → (Thing → Option X) → List (Handle × Thing) → Option Handle → Option X
read_at read things h = option_and_then (λ h. option_and_then read (thing_at things h)) h

-- the keys of the dictionary that a handle names; none where it names none
abbrev pub keys_at : List (Handle × Thing) → Option Handle → List Value
keys_at things h = unwrap_or (read_at (λ t. Some (keys_in t)) things h) []

-- with a value more at the end, where there is one
abbrev pub with_found : RootedView → Option Value → RootedView
with_found heap None = heap
with_found heap (Some x) = record heap { values = heap.values ++ x ∷ [] }

-- the serial number and the class of each object
abbrev pub objects_in : List (Handle × Thing) → List (ℕ × ℕ)
objects_in things = filter_map (λ t. option_map (λ class. (t.0.serial, class)) (thing_class t.1)) things

-- the serial number and the class of the object that a handle names
abbrev pub object_at : List (Handle × Thing) → Handle → Option (ℕ × ℕ)
object_at things h = option_map (λ class. (h.serial, class)) (class_in (seen things h))
