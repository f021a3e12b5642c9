-- The ends of array and dictionary literals, whose parts stand on the stack, and the values with which places begin.
use Rattle.std.specs.Prelude.{ℕ, pos, false, [], ◌++◌, if◌then◌else◌}
use Rattle.gd_bytecode.specs.declared.opcode.Opcode.TheVariants as op
use Rattle.gd_model.specs.Datum as v
use Rattle.gd_model.specs.declared.ty.Ty.{Ty, out-Ty}
use Rattle.gd_model.specs.declared.ty.Ty.TheOpen as open_ty
use Rattle.gd_model.specs.declared.ty.Ty.TheOpen.{Ty-F}
use Rattle.gd_model.specs.declared.ty.Ty.TheVariants as ty
use Rattle.gd_syntax.specs.declared.pos.Pos.{Pos}
use Rattle.source_semantics.specs.Types.{element_type}
use Rattle.emitted_code.specs.Steps.{Code, Does, made, plain, push, step}

-- so many elements become an array of the literal's element type
abbrev pub end_array : Pos → ℕ → Ty → Code
end_array at n t = step at (made op.Array n (element_type t))

-- so many pairs become a dictionary, by the shape of the literal's type
abbrev pub dict_shape : ℕ → Ty → Ty-F Ty → Does
dict_shape n t (open_ty.DictOf k x) = made op.DictOf n t
dict_shape n t shape = plain op.Dict n 0

-- one without types of its own is known at once
abbrev pub dict_made : ℕ → Ty → Does
dict_made n ty.Variant = plain op.Dict n 0
dict_made n ty.Dict = plain op.Dict n 0
dict_made n t = dict_shape n t (out-Ty t)

abbrev pub end_dict : Pos → ℕ → Ty → Code
end_dict at n t = step at (dict_made n t)

-- the value with which a place of a type begins is put on the stack
abbrev pub start_shape : Pos → Ty → Ty-F Ty → Code
start_shape at t (open_ty.ArrayOf e) = end_array at 0 t
start_shape at t (open_ty.DictOf k x) = end_dict at 0 t
start_shape at t shape = step at (push v.null)

abbrev pub start_value : Pos → Ty → Code
start_value at ty.Int = step at (push (v.int (pos 0)))
start_value at ty.Bool = step at (push (v.bool false))
start_value at ty.Str = step at (push (v.text []))
start_value at ty.Array = end_array at 0 ty.Array
start_value at ty.Dict = end_dict at 0 ty.Dict
start_value at ty.Variant = step at (push v.null)
start_value at ty.Nil = step at (push v.null)
start_value at ty.Callable = step at (push v.null)
start_value at ty.Signal = step at (push v.null)
start_value at (ty.Class c) = step at (push v.null)
start_value at ty.Void = step at (push v.null)
start_value at (ty.Meta c) = step at (push v.null)
start_value at ty.Bad = step at (push v.null)
start_value at t = start_shape at t (out-Ty t)
