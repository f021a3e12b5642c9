-- Which constants a program may have.
use Rattle.std.specs.Prelude.{ℕ, suc, ◌%◌, Bool, true, false, not, ◌&&◌, ◌==◌, nat_lt, nat_le, List, [], ◌∷◌, ◌++◌, length, slice_get, pos, Option, None, Some, if◌then◌else◌, unwrap_or}
use Rattle.std.specs.List.{list_any}
use Rattle.std.specs.Option.{option_or, option_map_or}
use Rattle.std.specs.Ordering.{int_eq}
use Rattle.gd_model.specs.declared.ty.Ty.{Ty, out-Ty}
use Rattle.gd_model.specs.declared.ty.Ty.TheOpen as open_ty
use Rattle.gd_model.specs.declared.ty.Ty.TheOpen.{Ty-F}
use Rattle.gd_model.specs.declared.ty.Ty.TheVariants as ty
use Rattle.gd_model.specs.Datum.{Datum, null, bool, int, text}
use Rattle.assignability.specs.Fits as fitting
use Rattle.gd_bytecode.specs.declared.field.Field.{Field}
use Rattle.gd_bytecode.specs.declared.field.Field.TheVariants.{InConstant}
use Rattle.gd_bytecode.specs.declared.field.ConstField.TheVariants as field
use Rattle.gd_bytecode.specs.declared.program.ConstKind.{ConstKind}
use Rattle.gd_bytecode.specs.declared.program.ConstKind.TheVariants as kind
use Rattle.gd_bytecode.specs.declared.program.ConstThing.{ConstThing}
use Rattle.gd_bytecode.specs.declared.program.Operand.{Operand}
use Rattle.gd_bytecode.specs.declared.program.Program.{Program}
use Rattle.gd_bytecode.specs.declared.program.Tag.{Tag}
use Rattle.gd_bytecode.specs.declared.program.Tag.TheVariants as tag
use Rattle.gd_bytecode.specs.First.{unless, first_in}
use Rattle.gd_bytecode.specs.Tables.{both, is_one_text, text_at}

-- an array has any element type but void and a typed array, a dictionary Variant, and a typed dictionary its own type
abbrev pub is_type_of_shape : ConstKind → Ty-F Ty → Bool
is_type_of_shape kind.Array open_ty.Void = false
is_type_of_shape kind.Array (open_ty.ArrayOf e) = false
is_type_of_shape kind.Array t = true
is_type_of_shape kind.Dict open_ty.Variant = true
is_type_of_shape kind.Dict t = false
is_type_of_shape kind.DictOf (open_ty.DictOf k v) = true
is_type_of_shape kind.DictOf t = false

abbrev pub is_type_of : ConstKind → Ty → Bool
is_type_of k t = is_type_of_shape k (out-Ty t)

-- whether null, an array of these elements and a dictionary of these keys and values fit a type
abbrev pub null_fits : Ty → Bool
null_fits t = fitting.null_fits t

abbrev pub array_fits : Ty → Ty → Bool
array_fits t element = fitting.array_fits t (Some (record { element = element; fixed = true; items = [] }))

abbrev pub dict_fits : Ty → Ty → Ty → Bool
dict_fits t k v = fitting.dict_fits t (Some (record { key_type = k; value_type = v; fixed = true; pairs = [] }))

abbrev pub typed_dict_fits_shape : Ty → Ty-F Ty → Bool
typed_dict_fits_shape t (open_ty.DictOf k v) = dict_fits t k v
typed_dict_fits_shape t own = false

abbrev pub typed_dict_fits : Ty → Ty → Bool
typed_dict_fits t own = typed_dict_fits_shape t (out-Ty own)

abbrev pub thing_fits : Ty → ConstKind → Ty → Bool
thing_fits t kind.Array own = array_fits t own
thing_fits t kind.Dict own = dict_fits t ty.Variant ty.Variant
thing_fits t kind.DictOf own = typed_dict_fits t own

abbrev pub constant_fits : Program → Ty → ℕ → Bool
constant_fits p t n = option_map_or (λ (c : ConstThing). option_map_or (thing_fits t c.kind) (slice_get p.types c.typed) false) (slice_get p.constants n) false

-- whether an operand's value fits a type: by its tag, and for a constant by what the constant is
abbrev pub tag_fits : Program → Ty → ℕ → Tag → Bool
tag_fits p t n tag.Null = null_fits t
tag_fits p t n tag.False = fitting.bool_fits t
tag_fits p t n tag.True = fitting.bool_fits t
tag_fits p t n tag.Int = fitting.int_fits t
tag_fits p t n tag.Text = fitting.text_fits t
tag_fits p t n tag.Constant = constant_fits p t n

abbrev pub operand_fits : Program → Ty → Operand → Bool
operand_fits p t o = tag_fits p t o.number o.tag

-- whether an operand of constant i names something, a constant being an earlier one
abbrev pub tag_is_there : Program → ℕ → ℕ → Tag → Bool
tag_is_there p i n tag.Int = nat_lt n (length p.ints)
tag_is_there p i n tag.Text = nat_lt n (length p.texts)
tag_is_there p i n tag.Constant = nat_lt n i
tag_is_there p i n t = true

abbrev pub is_there : Program → ℕ → Operand → Bool
is_there p i o = tag_is_there p i o.number o.tag

abbrev pub is_constant : Tag → Bool
is_constant tag.Constant = true
is_constant t = false

-- operand j of constant i as an element or a value: a constant that is not there is wrong by its number, a value that does
-- not fit by its tag, and another that is not there by its number
abbrev pub value_fault : Program → ℕ → ℕ → Ty → Operand → Option Field
value_fault p i j t o =
    if is_constant o.tag && nat_le i o.number then Some (InConstant i (field.Number j))
    else option_or (unless (operand_fits p t o) (InConstant i (field.Tag j))) (unless (is_there p i o) (InConstant i (field.Number j)))

-- the first that is wrong among the elements of an array
abbrev pub elements_fault : Program → ℕ → Ty → List Operand → Option Field
elements_fault p i t os = first_in (λ j o. value_fault p i j t o) 0 os

-- the value of a tag that names no constant
abbrev pub tag_datum : Program → ℕ → Tag → Datum
tag_datum p n tag.Null = null
tag_datum p n tag.False = bool false
tag_datum p n tag.True = bool true
tag_datum p n tag.Int = int (unwrap_or (slice_get p.ints n) (pos 0))
tag_datum p n tag.Text = text (text_at p n)
tag_datum p n tag.Constant = null

-- two keys that are there are one
abbrev pub is_one_tag : Program → ℕ → ℕ → Tag → Tag → Bool
is_one_tag p m n tag.Null tag.Null = true
is_one_tag p m n tag.False tag.False = true
is_one_tag p m n tag.True tag.True = true
is_one_tag p m n tag.Int tag.Int = both int_eq (slice_get p.ints m) (slice_get p.ints n)
is_one_tag p m n tag.Text tag.Text = is_one_text p m n
is_one_tag p m n s t = false

abbrev pub is_one_key : Program → Operand → Operand → Bool
is_one_key p k l = is_one_tag p k.number l.number k.tag l.tag

-- operand j of constant i as a key: it is no constant, fits, is there, and is none of the keys before it
abbrev pub key_fault : Program → ℕ → ℕ → Ty → List Operand → Operand → Option Field
key_fault p i j t earlier o =
    option_or (unless (not (is_constant o.tag) && operand_fits p t o) (InConstant i (field.Tag j)))
    (option_or (unless (is_there p i o) (InConstant i (field.Number j)))
    (unless (not (list_any (λ k. is_one_key p k o) earlier)) (InConstant i (field.Tag j))))

-- operand j among keys and values in turn, of which these are the keys before it, and the keys then
abbrev pub pair_fault : Program → ℕ → Ty → Ty → List Operand → ℕ → Operand → Option Field
pair_fault p i k v earlier j o = if j % 2 == 0 then key_fault p i j k earlier o else value_fault p i j v o

abbrev pub keys_with : List Operand → ℕ → Operand → List Operand
keys_with earlier j o = if j % 2 == 0 then earlier ++ o ∷ [] else earlier

-- the first that is wrong among them
abbrev pub pairs_fault : Program → ℕ → Ty → Ty → List Operand → ℕ → List Operand → Option Field
pairs_fault p i k v earlier j [] = None
pairs_fault p i k v earlier j (o ∷ os) = option_or (pair_fault p i k v earlier j o) (pairs_fault p i k v (keys_with earlier j o) (suc j) os)

abbrev pub dict_fault : Program → ℕ → Ty → Ty → List Operand → Option Field
dict_fault p i k v os = if length os % 2 == 0 then pairs_fault p i k v [] 0 os else Some (InConstant i field.Count)

-- a typed dictionary has the keys and values of its type
abbrev pub typed_dict_fault_shape : Program → ℕ → Ty-F Ty → List Operand → Option Field
typed_dict_fault_shape p i (open_ty.DictOf k v) os = dict_fault p i k v os
typed_dict_fault_shape p i t os = Some (InConstant i field.Typed)

abbrev pub typed_dict_fault : Program → ℕ → Ty → List Operand → Option Field
typed_dict_fault p i t os = typed_dict_fault_shape p i (out-Ty t) os

-- a constant whose type is right: an array by its elements, and a dictionary by its pairs
abbrev pub operands_fault : Program → ℕ → ConstKind → Ty → List Operand → Option Field
operands_fault p i kind.Array t os = elements_fault p i t os
operands_fault p i kind.Dict t os = dict_fault p i ty.Variant ty.Variant os
operands_fault p i kind.DictOf t os = typed_dict_fault p i t os

abbrev pub fault_at : Program → ℕ → ConstThing → Ty → Option Field
fault_at p i c t = if is_type_of c.kind t then operands_fault p i c.kind t c.operands else Some (InConstant i field.Typed)

abbrev pub typed_fault : Program → ℕ → ConstThing → Option Ty → Option Field
typed_fault p i c None = Some (InConstant i field.Typed)
typed_fault p i c (Some t) = fault_at p i c t

abbrev pub entry_fault : Program → ℕ → ConstThing → Option Field
entry_fault p i c = typed_fault p i c (slice_get p.types c.typed)

abbrev pub constant_fault : Program → Option Field
constant_fault p = first_in (λ i c. entry_fault p i c) 0 p.constants
