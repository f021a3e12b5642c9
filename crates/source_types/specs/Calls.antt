-- What calls call, and their types.
use Rattle.std.specs.Prelude.{ℕ, ◌+◌, Bool, ◌&&◌, Option, None, Some, bytes_eq, codes, option_and_then, slice_get, if◌then◌else◌}
use Rattle.std.specs.List.{position_or_len}
use Rattle.gd_members.specs.declared.Found.{Found}
use Rattle.gd_members.specs.declared.Found.TheVariants as found
use Rattle.gd_members.specs.declared.MemberId.{MemberId}
use Rattle.gd_model.specs.declared.ty.Ty.{Ty}
use Rattle.gd_model.specs.declared.ty.Ty.TheVariants as ty
use Rattle.gd_typing.specs.Arguments.{by_row, place_of, row_parameter}
use Rattle.gd_typing.specs.Calls.{method_named, returned_type}
use Rattle.syntax_trees.specs.Declarations.{Function}
use Rattle.syntax_trees.specs.Expressions.{Text}
use Rattle.syntax_trees.specs.Statements.{Variable}
use Rattle.value_semantics.specs.BuiltinRows.{Row, row_of}
use Rattle.value_semantics.specs.BuiltinRows as rows
use Rattle.value_semantics.specs.declared.builtin.Builtin.{Builtin}
use Rattle.value_semantics.specs.declared.kind.Kind.{Kind}
use Rattle.value_semantics.specs.declared.kind.Kind.TheVariants as k
use Rattle.source_types.specs.Names.{Receiver, is_new, on_class, on_enum, on_me, on_object, on_value}
use Rattle.source_types.specs.Projects.{Project, found_function, function_at, needs_instance}
use Rattle.source_types.specs.Scopes.{Scope, Seen}
use Rattle.source_types.specs.Written.{written_if}

-- what is called: a function; the constructor of a class, with its nearest `_init` if there is one; a builtin; and what is
-- known only when the call runs, or may not be called
pub data Callee : Type 0 where
  function : MemberId → Callee
  constructor : ℕ → Option MemberId → Callee
  builtin : Builtin → Callee
  not_known : Callee

-- a call before its arguments are looked at: what it calls, its type, what its name was found to be
pub record Call : Type 0 where
  pub callee : Callee
  pub typed : Ty
  pub found : Option Found

-- what may not be called
abbrev pub refused : Option Found → Call
refused x = record { callee = not_known; typed = ty.Bad; found = x }

-- what is known only when the call runs (W2)
abbrev pub dynamic : Call
dynamic = record { callee = not_known; typed = ty.Variant; found = None }

-- ---- functions of classes

-- a function without a written result gives Variant
abbrev pub result_of : Option Ty → Ty
result_of (Some t) = t
result_of None = ty.Variant

abbrev pub function_or : Project → Call → Option (MemberId × Function) → Call
function_or p otherwise None = otherwise
function_or p otherwise (Some f) = record {
  callee = function f.0;
  typed = result_of (written_if p f.0.class f.1.result);
  found = Some (found.Member f.0);
}

-- a call of what was found, if it is a function
abbrev pub call_found : Project → Call → Option Found → Call
call_found p otherwise x = function_or p otherwise (found_function p x)

-- the nearest member `_init`, where it is a function
abbrev pub init_of : Project → ℕ → Option MemberId
init_of p number = id_of (found_function p (p.member number (codes "_init")))
  where
    id_of : Option (MemberId × Function) → Option MemberId
    id_of None = None
    id_of (Some f) = Some f.0

abbrev pub construction : Project → ℕ → Call
construction p number = record { callee = constructor number (init_of p number); typed = ty.Class number; found = None }

-- ---- builtins

-- the number of the first builtin with this receiver
abbrev pub first_number : Option Kind → ℕ
first_number (Some k.Str) = 22
first_number (Some k.Array) = 39
first_number (Some k.Dict) = 63
first_number (Some k.Callable) = 76
first_number (Some k.Signal) = 78
first_number _ = 0

abbrev pub number_of : Row → ℕ
number_of w = first_number w.receiver
    + position_or_len (λ other. bytes_eq (row_of other).name w.name) (rows.builtins_of w.receiver)

abbrev pub builtin_call : Builtin → Ty → Call
builtin_call self t = record { callee = builtin self; typed = returned_type (row_of self).result t; found = Some (found.Builtin (number_of (row_of self))) }

-- null, bool, int and the like have no methods (A20)
abbrev pub method_or_none : Ty → Option Builtin → Call
method_or_none t (Some self) = builtin_call self t
method_or_none t None = refused None

abbrev pub call_method : Ty → Text → Call
call_method t name = method_or_none t (method_named t name)

-- ---- by a bare name

abbrev pub function_numbered : ℕ → Option Builtin
function_numbered number = slice_get (rows.builtins_of None) number

abbrev pub builtin_or_none : Option Found → Option Builtin → Call
builtin_or_none x (Some self) = builtin_call self ty.Nil
builtin_or_none x None = refused x

abbrev pub call_global : Scope → Found → Call
call_global c (found.Builtin number) = builtin_or_none (Some (found.Builtin number)) (function_numbered number)
call_global c x =
    if c.is_static && needs_instance c.project x then refused (Some x) else call_found c.project (refused (Some x)) (Some x)

-- ---- by a name behind a dot, and by `super`

abbrev pub class_call : Project → Option Found → Call
class_call p None = refused None
class_call p (Some x) = if needs_instance p x then refused (Some x) else call_found p (refused None) (Some x)

abbrev pub value_call : Ty → Text → Call
value_call ty.Variant name = dynamic
value_call ty.Bad name = refused None
value_call t name = call_method t name

abbrev pub call_attribute : Project → Receiver → Text → Call
call_attribute p (on_me number) name = call_found p (refused None) (p.member number name)
call_attribute p (on_enum id) name = call_method ty.Dict name
call_attribute p (on_object number) name = call_found p dynamic (p.member number name)
call_attribute p (on_class number) name = if is_new name then construction p number else class_call p (p.member number name)
call_attribute p (on_value t) name = value_call t name

-- what the bases of a class have by a name, itself aside
abbrev pub in_bases : Project → ℕ → Text → Option Found
in_bases p number name = option_and_then (λ base. p.member base name) (p.base number)

abbrev pub or_own : Option Text → Option Text → Option Text
or_own (Some name) own = Some name
or_own None own = own

-- `super.NAME(..)`, or `super(..)` in a function: there is none in static code (A24, A38)
abbrev pub call_super : Scope → Option Text → Call
call_super c name =
    if c.is_static then refused None
    else call_found c.project (refused None) (option_and_then (in_bases c.project c.class) (or_own name c.function))

-- ---- parameters

-- the type of a parameter, where it is known: the written one, or by `:=` that of its default value
abbrev pub parameter_type : Scope → MemberId → ℕ → Bool → Option Ty → Option Ty
parameter_type c id index inferred (Some t) = Some t
parameter_type c id index inferred None = if inferred then c.parameters id index else None

abbrev pub of_parameter : Scope → MemberId → ℕ → Option Variable → Option Ty
of_parameter c id index None = None
of_parameter c id index (Some v) = parameter_type c id index v.inferred (written_if c.project id.class v.typed)

abbrev pub of_function : Scope → MemberId → ℕ → Option Function → Option Ty
of_function c id index None = None
of_function c id index (Some f) = of_parameter c id index (slice_get f.params index)

-- the type of the place that an argument is the value of, by its index; `t` is the type of the receiver
abbrev pub argument_place : Scope → Callee → Option Ty → ℕ → Option Ty
argument_place c (function id) t index = of_function c id index (function_at c.project id)
argument_place c (constructor number (Some id)) t index = of_function c id index (function_at c.project id)
argument_place c (constructor number None) t index = None
argument_place c (builtin self) t index = place_of (by_row self (row_parameter (row_of self) index) t)
argument_place c not_known t index = None

-- ---- a call with its arguments

-- it is Bad where an argument is
abbrev pub finished : Call → Bool → Seen
finished call has_bad = record { typed = if has_bad then ty.Bad else call.typed; found = call.found; local = None }
