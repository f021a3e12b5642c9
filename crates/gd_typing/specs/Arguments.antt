-- What parameters take, and the arguments that go to them.
use Rattle.std.specs.Prelude.{ℕ, ◌-◌, Bool, true, false, List, length, Option, None, Some, slice_get, if◌then◌else◌}
use Rattle.gd_model.specs.declared.ty.Ty.{Ty, ArrayOf', DictOf'}
use Rattle.gd_model.specs.declared.ty.Ty.TheVariants as ty
use Rattle.gd_rules.specs.declared.rule.Rule.TheVariants as rule
use Rattle.value_semantics.specs.declared.builtin.Builtin.{Builtin}
use Rattle.value_semantics.specs.declared.builtin.Builtin.TheVariants as b
use Rattle.value_semantics.specs.declared.builtin_rows.Param.{Param}
use Rattle.value_semantics.specs.declared.builtin_rows.Param.TheVariants as p
use Rattle.value_semantics.specs.BuiltinRows.{Row}
use Rattle.assignability.specs.declared.assignment.Assignment.{Assignment}
use Rattle.assignability.specs.declared.assignment.Assignment.TheVariants.{Sure, Checked, Never}
use Rattle.assignability.specs.Assign.{assign}
use Rattle.gd_typing.specs.declared.arguments.Parameter.{Parameter}
use Rattle.gd_typing.specs.declared.arguments.Parameter.TheVariants as parameter
use Rattle.gd_typing.specs.declared.verdict.Finding.{Finding}
use Rattle.gd_typing.specs.Literals.{element_place, key_place, value_place}
use Rattle.gd_typing.specs.Verdicts.{breach, nothing, unsafe}

-- what a parameter takes: any value, one that goes to a type, or what a builtin takes
pub data Taken : Type 0 where
  any : Taken
  of : Ty → Taken
  kinds : Param → Taken

abbrev pub taken : Parameter → Taken
taken parameter.Any = any
taken (parameter.Of t) = of t.now
taken (parameter.Kinds takes) = kinds takes

-- the type of the place that an argument is the value of
abbrev pub place_of : Taken → Option Ty
place_of (of t) = Some t
place_of takes = None

-- ---- the parameters of builtins

abbrev pub first_of : Option Param → Option Param → Option Param
first_of (Some x) other = Some x
first_of None other = other

-- the parameter with this index: the required ones, those that may be left out, and any further ones
abbrev pub row_parameter : Row → ℕ → Option Param
row_parameter w index = first_of (slice_get w.required index) (first_of (slice_get w.optional (index - length w.required)) w.rest)

abbrev pub at_place : Option Ty → Taken
at_place (Some t) = of t
at_place None = any

abbrev pub is_get_or_add : Builtin → Bool
is_get_or_add b.DictionaryGetOrAdd = true
is_get_or_add self = false

-- an element goes to the element type of the receiver; of the methods with a key `get_or_add` alone may write it, and its
-- value
abbrev pub by_receiver : Builtin → Param → Option Ty → Taken
by_receiver self p.Any receiver = any
by_receiver self p.Element receiver = at_place (element_place receiver)
by_receiver self p.Key receiver = if is_get_or_add self then at_place (key_place receiver) else any
by_receiver self p.Value receiver = at_place (value_place receiver)
by_receiver self takes receiver = kinds takes

abbrev pub by_row : Builtin → Option Param → Option Ty → Taken
by_row self (Some takes) receiver = by_receiver self takes receiver
by_row self None receiver = any

-- ---- arguments

-- a parameter that takes several kinds takes no other type, and tests a Variant
abbrev pub among : Ty → Bool → Option Assignment
among ty.Bad fits = Some Sure
among ty.Void fits = None
among (ty.Meta c) fits = None
among ty.Variant fits = Some Checked
among t fits = if fits then Some Sure else Some Never

abbrev pub is_callable : Ty → Bool
is_callable ty.Callable = true
is_callable ty.Nil = true
is_callable t = false

abbrev pub is_to_int : Ty → Bool
is_to_int ty.Bool = true
is_to_int ty.Int = true
is_to_int ty.Str = true
is_to_int t = false

abbrev pub is_to_bool : Ty → Bool
is_to_bool ty.Bool = true
is_to_bool ty.Int = true
is_to_bool t = false

abbrev pub is_sized : Ty → Bool
is_sized ty.Str = true
is_sized ty.Array = true
is_sized (ArrayOf' p e) = true
is_sized ty.Dict = true
is_sized (DictOf' p k q v) = true
is_sized t = false

abbrev pub to_kinds : (ℕ → List ℕ) → Ty → Param → Option Assignment
to_kinds bases t p.Any = Some Sure
to_kinds bases t p.Element = Some Sure
to_kinds bases t p.Key = Some Sure
to_kinds bases t p.Value = Some Sure
to_kinds bases t p.Bool = assign bases t ty.Bool
to_kinds bases t p.Int = assign bases t ty.Int
to_kinds bases t p.Str = assign bases t ty.Str
to_kinds bases t p.Array = assign bases t ty.Array
to_kinds bases t p.Dict = assign bases t ty.Dict
to_kinds bases t p.Callable = among t (is_callable t)
to_kinds bases t p.Sized = among t (is_sized t)
to_kinds bases t p.ToInt = among t (is_to_int t)
to_kinds bases t p.ToBool = among t (is_to_bool t)

-- what never fits is A14, and what is tested W4
abbrev pub by_assignment : Option Assignment → Finding
by_assignment (Some Never) = breach rule.BadArgument
by_assignment (Some Checked) = unsafe rule.UnsafeCallArgument
by_assignment answer = nothing

abbrev pub argument : (ℕ → List ℕ) → Taken → Ty → Finding
argument bases any t = nothing
argument bases (of wanted) t = by_assignment (assign bases t wanted)
argument bases (kinds takes) t = by_assignment (to_kinds bases t takes)
