-- The value with which a place of a type begins.
use Rattle.std.specs.Prelude.{false, [], Result, pos}
use Rattle.gd_model.specs.declared.fault.RunFault.{RunFault}
use Rattle.gd_model.specs.declared.ty.Ty.{Ty, out-Ty}
use Rattle.gd_model.specs.declared.ty.Ty.TheOpen as open_ty
use Rattle.gd_model.specs.declared.ty.Ty.TheOpen.{Ty-F}
use Rattle.gd_model.specs.declared.ty.Ty.TheVariants.{Variant}
use Rattle.gd_model.specs.Datum.{Datum, null, bool, int, text}
use Rattle.value_semantics.specs.Made.{Made, value, array, dict}
use Rattle.store_semantics.specs.World.{World, put}

abbrev pub empty_array : Ty → Made
empty_array e = array (record { element = e; fixed = false; items = [] })

abbrev pub empty_dict : Ty → Ty → Made
empty_dict k v = dict (record { key_type = k; value_type = v; fixed = false; pairs = [] })

-- by the shape of the type
abbrev pub start_shape : Ty-F Ty → Made
start_shape open_ty.Int = value (int (pos 0))
start_shape open_ty.Bool = value (bool false)
start_shape open_ty.Str = value (text [])
start_shape open_ty.Array = empty_array Variant
start_shape (open_ty.ArrayOf e) = empty_array e
start_shape open_ty.Dict = empty_dict Variant Variant
start_shape (open_ty.DictOf k v) = empty_dict k v
start_shape t = value null

abbrev pub start_of : Ty → Made
start_of t = start_shape (out-Ty t)

-- an empty array or dictionary is a new thing
abbrev pub start : World → Ty → Result (Datum × World) RunFault
start w t = put w (start_of t)
