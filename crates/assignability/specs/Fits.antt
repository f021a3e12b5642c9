-- Which values fit a type.
use Rattle.std.specs.Prelude.{ℕ, Bool, true, false, ◌&&◌, List, Option, None, Some, is_some}
use Rattle.gd_model.specs.declared.ty.Ty.{Ty, out-Ty}
use Rattle.gd_model.specs.declared.ty.Ty.TheOpen as open_ty
use Rattle.gd_model.specs.declared.ty.Ty.TheOpen.{Ty-F}
use Rattle.gd_model.specs.declared.ty.Ty.TheVariants as ty
use Rattle.gd_model.specs.Datum.{Datum, null, bool, int, text, object, array, dictionary, callable, signal}
use Rattle.gd_model.specs.SameType.{same_type}
use Rattle.gd_model.specs.Store.{Store, ArrayThing, DictThing, array_behind, dict_behind, class_behind}
use Rattle.assignability.specs.Assign.{is_among}

-- null fits its own type, void, each class, Callable and Signal
abbrev pub null_fits : Ty → Bool
null_fits ty.Variant = true
null_fits ty.Nil = true
null_fits ty.Void = true
null_fits (ty.Class c) = true
null_fits ty.Callable = true
null_fits ty.Signal = true
null_fits t = false

-- an object of this class fits each class among its bases
abbrev pub class_fits : (ℕ → List ℕ) → Ty → Option ℕ → Bool
class_fits bases ty.Variant d = true
class_fits bases (ty.Class c) (Some d) = is_among (bases d) c
class_fits bases t d = false

-- an array fits Array, and the typed array of its own element type; by the shape of the type
abbrev pub array_fits_shape : Ty-F Ty → Option ArrayThing → Bool
array_fits_shape open_ty.Variant a = true
array_fits_shape open_ty.Array (Some a) = true
array_fits_shape (open_ty.ArrayOf e) (Some a) = same_type a.element e
array_fits_shape t a = false

abbrev pub array_fits : Ty → Option ArrayThing → Bool
array_fits t a = array_fits_shape (out-Ty t) a

-- a dictionary fits Dictionary, and the typed dictionary of its own types
abbrev pub dict_fits_shape : Ty-F Ty → Option DictThing → Bool
dict_fits_shape open_ty.Variant d = true
dict_fits_shape open_ty.Dict (Some d) = true
dict_fits_shape (open_ty.DictOf k v) (Some d) = same_type d.key_type k && same_type d.value_type v
dict_fits_shape t d = false

abbrev pub dict_fits : Ty → Option DictThing → Bool
dict_fits t d = dict_fits_shape (out-Ty t) d

-- a value that is no thing fits the type of its kind
abbrev pub bool_fits : Ty → Bool
bool_fits ty.Variant = true
bool_fits ty.Bool = true
bool_fits t = false

abbrev pub int_fits : Ty → Bool
int_fits ty.Variant = true
int_fits ty.Int = true
int_fits t = false

abbrev pub text_fits : Ty → Bool
text_fits ty.Variant = true
text_fits ty.Str = true
text_fits t = false

abbrev pub callable_fits : Ty → Bool
callable_fits ty.Variant = true
callable_fits ty.Callable = true
callable_fits t = false

abbrev pub signal_fits : Ty → Bool
signal_fits ty.Variant = true
signal_fits ty.Signal = true
signal_fits t = false

-- the value fits the type: `bases` are the bases of each class
abbrev pub fits : (ℕ → List ℕ) → Store → Ty → Datum → Bool
fits bases store t null = null_fits t
fits bases store t (bool b) = bool_fits t
fits bases store t (int n) = int_fits t
fits bases store t (text s) = text_fits t
fits bases store t (object s) = class_fits bases t (class_behind (store s))
fits bases store t (array s) = array_fits t (array_behind (store s))
fits bases store t (dictionary s) = dict_fits t (dict_behind (store s))
fits bases store t (callable c) = callable_fits t
fits bases store t (signal s n) = signal_fits t
