-- Literals of arrays and dictionaries, by the type of the place that they are the value of, if it has a known one.
use Rattle.std.specs.Prelude.{Bool, true, false, Option, None, Some, option_and_then, unwrap_or, if◌then◌else◌}
use Rattle.gd_model.specs.declared.ty.Ty.{Ty, out-Ty}
use Rattle.gd_model.specs.declared.ty.Ty.TheOpen as open_ty
use Rattle.gd_model.specs.declared.ty.Ty.TheOpen.{Ty-F}
use Rattle.gd_model.specs.declared.ty.Ty.TheVariants as ty
use Rattle.gd_typing.specs.declared.verdict.Verdict.{Verdict}
use Rattle.gd_typing.specs.Verdicts.{bad, fine}

-- the parts of a typed array and of a typed dictionary
abbrev pub element_in : Ty-F Ty → Option Ty
element_in (open_ty.ArrayOf e) = Some e
element_in t = None

abbrev pub key_in : Ty-F Ty → Option Ty
key_in (open_ty.DictOf k v) = Some k
key_in t = None

abbrev pub value_in : Ty-F Ty → Option Ty
value_in (open_ty.DictOf k v) = Some v
value_in t = None

-- where the elements, keys and values of a literal go that stands for such a place
abbrev pub element_place : Option Ty → Option Ty
element_place (Some t) = element_in (out-Ty t)
element_place None = None

abbrev pub key_place : Option Ty → Option Ty
key_place (Some t) = key_in (out-Ty t)
key_place None = None

abbrev pub value_place : Option Ty → Option Ty
value_place (Some t) = value_in (out-Ty t)
value_place None = None

-- a literal has the type of its place where that is a typed one of its kind
abbrev pub array_type_by : Ty → Ty-F Ty → Ty
array_type_by t (open_ty.ArrayOf e) = t
array_type_by t shape = ty.Array

abbrev pub array_type : Option Ty → Ty
array_type (Some t) = array_type_by t (out-Ty t)
array_type None = ty.Array

abbrev pub dictionary_type_by : Ty → Ty-F Ty → Ty
dictionary_type_by t (open_ty.DictOf k v) = t
dictionary_type_by t shape = ty.Dict

abbrev pub dictionary_type : Option Ty → Ty
dictionary_type (Some t) = dictionary_type_by t (out-Ty t)
dictionary_type None = ty.Dict

-- where a part is Bad, the literal is
abbrev pub array_literal : Option Ty → Bool → Verdict
array_literal place has_bad_part = if has_bad_part then bad else fine (array_type place)

abbrev pub dictionary_literal : Option Ty → Bool → Verdict
dictionary_literal place has_bad_part = if has_bad_part then bad else fine (dictionary_type place)
