-- What a type says of values. One without element types says it here, at once; one with them is opened, as in what
-- these stand for (`start`, `fits`).
use Rattle.std.specs.Prelude.{◌≡◌, ℕ, Bool, true, false, is_some, List, [], Option, Result, pos}
use Rattle.gd_model.specs.declared.fault.RunFault.{RunFault}
use Rattle.gd_model.specs.declared.ty.Ty.{Ty, out-Ty}
use Rattle.gd_model.specs.declared.ty.Ty.TheOpen.{Ty-F}
use Rattle.gd_model.specs.declared.ty.Ty.TheVariants as ty
use Rattle.gd_model.specs.Datum.{Datum, null, bool, int, text, array, dictionary}
use Rattle.gd_model.specs.Store.{ArrayThing, DictThing, Store, array_behind, dict_behind}
use Rattle.assignability.specs.Fits.{array_fits, dict_fits, fits}
use Rattle.store_semantics.specs.Starts.{empty_array, empty_dict, start, start_of}
use Rattle.store_semantics.specs.World.{World, put}
use Rattle.value_semantics.specs.Made.{Made, value}

-- ---- start values

abbrev pub start_made : Ty → Made
start_made ty.Int = value (int (pos 0))
start_made ty.Bool = value (bool false)
start_made ty.Str = value (text [])
start_made ty.Array = empty_array ty.Variant
start_made ty.Dict = empty_dict ty.Variant ty.Variant
start_made ty.Variant = value null
start_made ty.Nil = value null
start_made ty.Callable = value null
start_made ty.Signal = value null
start_made (ty.Class c) = value null
start_made ty.Void = value null
start_made (ty.Meta c) = value null
start_made ty.Bad = value null
start_made t = start_of t

-- the value with which a place of a type begins; an empty array or dictionary is a new thing
abbrev pub start_value : World → Ty → Result (Datum × World) RunFault
start_value w t = put w (start_made t)

-- ---- which values fit

abbrev pub fits_array : Ty → Option ArrayThing → Bool
fits_array ty.Variant a = true
fits_array ty.Array a = is_some a
fits_array ty.Int a = false
fits_array ty.Bool a = false
fits_array ty.Str a = false
fits_array ty.Dict a = false
fits_array ty.Nil a = false
fits_array ty.Callable a = false
fits_array ty.Signal a = false
fits_array (ty.Class c) a = false
fits_array ty.Void a = false
fits_array (ty.Meta c) a = false
fits_array ty.Bad a = false
fits_array t a = array_fits t a

abbrev pub fits_dict : Ty → Option DictThing → Bool
fits_dict ty.Variant d = true
fits_dict ty.Dict d = is_some d
fits_dict ty.Int d = false
fits_dict ty.Bool d = false
fits_dict ty.Str d = false
fits_dict ty.Array d = false
fits_dict ty.Nil d = false
fits_dict ty.Callable d = false
fits_dict ty.Signal d = false
fits_dict (ty.Class c) d = false
fits_dict ty.Void d = false
fits_dict (ty.Meta c) d = false
fits_dict ty.Bad d = false
fits_dict t d = dict_fits t d

-- whether a value fits a type: `bases` are the bases of each class
abbrev pub fits_type : (ℕ → List ℕ) → Store → Ty → Datum → Bool
fits_type bases store t (array s) = fits_array t (array_behind (store s))
fits_type bases store t (dictionary s) = fits_dict t (dict_behind (store s))
fits_type bases store t v = fits bases store t v

-- ---- the types of what is in a container

abbrev pub element_shape : Ty-F Ty → Ty
element_shape (Ty-F.ArrayOf e) = e
element_shape _ = ty.Variant

-- the element type with which an array literal is made
abbrev pub element_type : Ty → Ty
element_type ty.Variant = ty.Variant
element_type ty.Array = ty.Variant
element_type t = element_shape (out-Ty t)

abbrev pub pair_shape : Ty-F Ty → Ty × Ty
pair_shape (Ty-F.DictOf k v) = (k, v)
pair_shape _ = (ty.Variant, ty.Variant)

-- the types of keys and values with which a dictionary literal is made
abbrev pub key_and_value : Ty → Ty × Ty
key_and_value ty.Variant = (ty.Variant, ty.Variant)
key_and_value ty.Dict = (ty.Variant, ty.Variant)
key_and_value t = pair_shape (out-Ty t)

-- ---- what it says is what these say

abbrev pub StartsAgree : Type 0
StartsAgree = (w : World) (t : Ty) → start_value w t ≡ start w t

abbrev pub FitsAgree : Type 0
FitsAgree = (bases : ℕ → List ℕ) (store : Store) (t : Ty) (v : Datum) → fits_type bases store t v ≡ fits bases store t v

abbrev pub ElementsAgree : Type 0
ElementsAgree = (t : Ty) → (element_type t ≡ element_shape (out-Ty t)) × (key_and_value t ≡ pair_shape (out-Ty t))
