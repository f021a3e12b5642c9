-- The kinds of operands, and for which kinds there is which operator.
use Rattle.std.specs.Prelude.{Bool, true, false, not, ◌&&◌, ◌||◌, Option, None, Some, if◌then◌else◌}
use Rattle.gd_syntax.specs.declared.operator.Operator.{Operator}
use Rattle.gd_syntax.specs.declared.operator.Operator.TheVariants.{Power, Multiply, Divide, Remainder, Add, Subtract, ShiftLeft, ShiftRight, BitAnd, BitXor, BitOr, Equal, NotEqual, Less, LessEqual, Greater, GreaterEqual, In, NotIn, Negate, Plus, Complement, Not}
use Rattle.gd_model.specs.declared.ty.Ty.{Ty, ArrayOf', DictOf'}
use Rattle.gd_model.specs.declared.ty.Ty.TheVariants as ty
use Rattle.gd_model.specs.Datum as d
use Rattle.gd_model.specs.Datum.{Datum}
use Rattle.value_semantics.specs.declared.kind.Kind.{Kind}
use Rattle.value_semantics.specs.declared.kind.Kind.TheVariants as k
use Rattle.value_semantics.specs.declared.rows.Given.{Given}
use Rattle.value_semantics.specs.declared.rows.Given.TheVariants as g

abbrev pub kind_of : Datum → Kind
kind_of d.null = k.Nil
kind_of (d.bool b) = k.Bool
kind_of (d.int n) = k.Int
kind_of (d.text t) = k.Str
kind_of (d.object s) = k.Object
kind_of (d.array s) = k.Array
kind_of (d.dictionary s) = k.Dict
kind_of (d.callable c) = k.Callable
kind_of (d.signal s n) = k.Signal

-- the kind of the values of a type, null aside
abbrev pub kind_of_type : Ty → Option Kind
kind_of_type ty.Nil = Some k.Nil
kind_of_type ty.Bool = Some k.Bool
kind_of_type ty.Int = Some k.Int
kind_of_type ty.Str = Some k.Str
kind_of_type (ty.Class c) = Some k.Object
kind_of_type ty.Array = Some k.Array
kind_of_type (ArrayOf' p t) = Some k.Array
kind_of_type ty.Dict = Some k.Dict
kind_of_type (DictOf' p t q u) = Some k.Dict
kind_of_type ty.Callable = Some k.Callable
kind_of_type ty.Signal = Some k.Signal
kind_of_type ty.Variant = None
kind_of_type ty.Void = None
kind_of_type (ty.Meta c) = None
kind_of_type ty.Bad = None

-- null and any other, or one kind
abbrev pub alike : Kind → Kind → Bool
alike k.Nil b = true
alike a k.Nil = true
alike k.Bool k.Bool = true
alike k.Int k.Int = true
alike k.Str k.Str = true
alike k.Object k.Object = true
alike k.Array k.Array = true
alike k.Dict k.Dict = true
alike k.Callable k.Callable = true
alike k.Signal k.Signal = true
alike a b = false

-- values of these kinds are keys
abbrev pub is_key : Kind → Bool
is_key k.Nil = true
is_key k.Bool = true
is_key k.Int = true
is_key k.Str = true
is_key k.Object = true
is_key a = false

abbrev pub ints : Kind → Kind → Bool
ints k.Int k.Int = true
ints a b = false

abbrev pub texts : Kind → Kind → Bool
texts k.Str k.Str = true
texts a b = false

abbrev pub arrays : Kind → Kind → Bool
arrays k.Array k.Array = true
arrays a b = false

-- a String to be formatted with any value
abbrev pub pattern : Kind → Bool
pattern k.Str = true
pattern a = false

-- any value in an Array, a key in a Dictionary
abbrev pub inside : Kind → Kind → Bool
inside a k.Array = true
inside a k.Dict = is_key a
inside a b = false

abbrev pub one_int : Kind → Bool
one_int k.Int = true
one_int a = false

-- whether there is the operator for operands of these kinds; one that stands before its operand has no right one
abbrev pub takes : Operator → Kind → Kind → Bool
takes Power a b = ints a b
takes Multiply a b = ints a b
takes Divide a b = ints a b
takes Remainder a b = ints a b || pattern a
takes Add a b = ints a b || texts a b || arrays a b
takes Subtract a b = ints a b
takes ShiftLeft a b = ints a b
takes ShiftRight a b = ints a b
takes BitAnd a b = ints a b
takes BitXor a b = ints a b
takes BitOr a b = ints a b
takes Equal a b = alike a b
takes NotEqual a b = alike a b
takes Less a b = ints a b || texts a b
takes LessEqual a b = ints a b || texts a b
takes Greater a b = ints a b || texts a b
takes GreaterEqual a b = ints a b || texts a b
takes In a b = texts a b || inside a b
takes NotIn a b = texts a b || inside a b
takes Negate a b = one_int a
takes Plus a b = one_int a
takes Complement a b = one_int a
takes Not a b = true

abbrev pub is_unary : Operator → Bool
is_unary Negate = true
is_unary Plus = true
is_unary Complement = true
is_unary Not = true
is_unary op = false

-- the operators that ask whether one value is in another
abbrev pub is_membership : Operator → Bool
is_membership In = true
is_membership NotIn = true
is_membership op = false

-- the operators that give a bool
abbrev pub is_test : Operator → Bool
is_test Equal = true
is_test NotEqual = true
is_test Less = true
is_test LessEqual = true
is_test Greater = true
is_test GreaterEqual = true
is_test In = true
is_test NotIn = true
is_test Not = true
is_test op = false

abbrev pub is_no_value : Ty → Bool
is_no_value ty.Void = true
is_no_value (ty.Meta c) = true
is_no_value ty.Bad = true
is_no_value t = false

-- the type that an operator other than a test gives with a left operand of this kind; `same` says whether the types of
-- both operands are one
abbrev pub type_by_left : Kind → Bool → Given
type_by_left k.Str same = g.Str
type_by_left k.Array same = if same then g.Left else g.Array
type_by_left a same = g.Int

-- the type that the operator gives; none where there is no such operator, and where an operand is Variant what it may give
abbrev pub by_kinds : Operator → Option Kind → Option Kind → Bool → Option Given
by_kinds op (Some a) (Some b) same = if takes op a b then Some (if is_test op then g.Bool else type_by_left a same) else None
by_kinds op a b same = Some (if is_test op then g.Bool else g.Variant)

-- the kind of the right operand, null standing there for one that takes one operand
abbrev pub right_kind : Operator → Ty → Option Kind
right_kind op b = if is_unary op then Some k.Nil else kind_of_type b

abbrev pub result_type : Operator → Ty → Ty → Bool → Option Given
result_type op a b same =
    if is_no_value a || (not (is_unary op) && is_no_value b) then None
    else by_kinds op (kind_of_type a) (right_kind op b) same

-- the values of a type of this kind are of that kind: of the same one, or null besides objects, Callables and Signals
abbrev pub fits_kind : Kind → Kind → Bool
fits_kind k.Object k.Nil = true
fits_kind k.Callable k.Nil = true
fits_kind k.Signal k.Nil = true
fits_kind k.Nil k.Nil = true
fits_kind k.Bool k.Bool = true
fits_kind k.Int k.Int = true
fits_kind k.Str k.Str = true
fits_kind k.Object k.Object = true
fits_kind k.Array k.Array = true
fits_kind k.Dict k.Dict = true
fits_kind k.Callable k.Callable = true
fits_kind k.Signal k.Signal = true
fits_kind a b = false
