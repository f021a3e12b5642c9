-- The things of a run, by their serial numbers.
use Rattle.std.specs.Prelude.{ℕ, Bool, false, List, [], Option, None, Some, unwrap_or, option_and_then}
use Rattle.std.specs.Map.{lookup, lookup_entry, remove_entry}
use Rattle.indexmap.specs.IndexMap.{insert_entry}
use Rattle.gd_model.specs.declared.ty.Ty.{Ty}
use Rattle.gd_model.specs.declared.ty.Ty.TheVariants.{Variant}
use Rattle.gd_model.specs.Datum.{Datum}
use Rattle.gd_model.specs.Same.{same_key}

-- an array: its elements, the type that each of them fits, and whether it is read-only
pub record ArrayThing : Type 0 where
  pub element : Ty
  pub fixed : Bool
  pub items : List Datum

-- a dictionary: its pairs in the order in which their keys came, the types of keys and values, and whether it is read-only
pub record DictThing : Type 0 where
  pub key_type : Ty
  pub value_type : Ty
  pub fixed : Bool
  pub pairs : List (Datum × Datum)

-- an object with its class and the values of its variables, an array, or a dictionary
pub data Thing : Type 0 where
  object : ℕ → List Datum → Thing
  array : ArrayThing → Thing
  dict : DictThing → Thing

-- the thing with each serial number, where one is there
abbrev pub Store : Type 0
Store = ℕ → Option Thing

-- the name of each class, by its number
abbrev pub Names : Type 0
Names = ℕ → Option (List ℕ)

-- the array, the dictionary and the object's class that a look-up gave
abbrev pub array_behind : Option Thing → Option ArrayThing
array_behind (Some (array a)) = Some a
array_behind _ = None

abbrev pub dict_behind : Option Thing → Option DictThing
dict_behind (Some (dict d)) = Some d
dict_behind _ = None

abbrev pub class_behind : Option Thing → Option ℕ
class_behind (Some (object class values)) = Some class
class_behind _ = None

-- the array, the dictionary and the name of the class of the object with a serial number. Where there is none an empty one
-- stands, so that what is said over them is a function; no run reads it
abbrev pub array_at : Store → ℕ → ArrayThing
array_at store s = unwrap_or (array_behind (store s)) (record { element = Variant; fixed = false; items = [] })

abbrev pub dict_at : Store → ℕ → DictThing
dict_at store s = unwrap_or (dict_behind (store s)) (record { key_type = Variant; value_type = Variant; fixed = false; pairs = [] })

abbrev pub class_name_at : Store → Names → ℕ → List ℕ
class_name_at store names s = unwrap_or (option_and_then names (class_behind (store s))) []

-- the value at a key
abbrev pub value_at : List (Datum × Datum) → Datum → Option Datum
value_at pairs k = lookup (same_key k) pairs

-- the pair at a key
abbrev pub pair_at : List (Datum × Datum) → Datum → Option (Datum × Datum)
pair_at pairs k = lookup_entry (same_key k) pairs

-- the pairs once k has the value v: a key that is there keeps its place, and a new one comes last
abbrev pub with_pair : List (Datum × Datum) → Datum → Datum → List (Datum × Datum)
with_pair = insert_entry same_key

-- the pairs without that of k, the others in their order
abbrev pub without_key : List (Datum × Datum) → Datum → List (Datum × Datum)
without_key pairs k = remove_entry (same_key k) pairs
