-- What contracts see of an array, a dictionary and a thing in its slot, with the handles of the code.
use Rattle.std.specs.Prelude.{ℕ, Bool, List, Option, None, Some}
use Rattle.std.specs.Map.{lookup, lookup_entry, remove_entry}
use Rattle.indexmap.specs.IndexMap.{insert_entry}
use Rattle.gd_model.specs.declared.ty.Ty.{Ty}
use Rattle.gd_model.specs.declared.key.Key.{Key}
use Rattle.gd_model.specs.declared.value.Value.{Value}
use Rattle.gd_model.specs.Key.{one_key}

-- an array: its elements, the type that each of them fits, and whether it is read-only
pub record ArrayView : Type 0 where
  pub element : Ty
  pub fixed : Bool
  pub items : List Value

-- a dictionary: its pairs in the order in which their keys came, the types of keys and values, and whether it is read-only
pub record DictView : Type 0 where
  pub key_type : Ty
  pub value_type : Ty
  pub fixed : Bool
  pub pairs : List (Key × Value)

-- an object with its class and the values of its variables, an array, or a dictionary
pub data ThingView : Type 0 where
  object : ℕ → List Value → ThingView
  array : ArrayView → ThingView
  dict : DictView → ThingView

-- the array, the dictionary and the object's class that a look-up gave
abbrev pub array_in : Option ThingView → Option ArrayView
array_in (Some (array a)) = Some a
array_in _ = None

abbrev pub dict_in : Option ThingView → Option DictView
dict_in (Some (dict d)) = Some d
dict_in _ = None

abbrev pub class_in : Option ThingView → Option ℕ
class_in (Some (object class values)) = Some class
class_in _ = None

-- the value at a key
abbrev pub value_at : List (Key × Value) → Key → Option Value
value_at pairs k = lookup (one_key k) pairs

-- the pair at a key
abbrev pub pair_at : List (Key × Value) → Key → Option (Key × Value)
pair_at pairs k = lookup_entry (one_key k) pairs

-- the pairs once k has the value v: a key that is there keeps its place, and a new one comes last
abbrev pub with_pair : List (Key × Value) → Key → Value → List (Key × Value)
with_pair = insert_entry one_key

-- the pairs without that of k, the others in their order
abbrev pub without_key : List (Key × Value) → Key → List (Key × Value)
without_key pairs k = remove_entry (one_key k) pairs
