-- What the operators give on values. `store` has the things, and `names` the names of the classes.
use Rattle.std.specs.Prelude.{ℕ, ◌+◌, Bool, true, false, not, ◌==◌, List, [], ◌∷◌, ◌++◌, length, is_some, Option, None, Some, Result, Ok, Err, if◌then◌else◌, pos}
use Rattle.std.specs.Ordering.{int_eq}
use Rattle.gd_syntax.specs.declared.operator.Operator.{Operator}
use Rattle.gd_syntax.specs.declared.operator.Operator.TheVariants.{Add, Remainder, Equal, NotEqual, In, NotIn, Negate, Plus, Complement, Not}
use Rattle.gd_model.specs.declared.fault.RunFault.{RunFault}
use Rattle.gd_model.specs.declared.fault.RunFault.TheVariants.{BadOperands, BadKey}
use Rattle.gd_model.specs.declared.ty.Ty.{Ty}
use Rattle.gd_model.specs.declared.ty.Ty.TheVariants.{Variant}
use Rattle.gd_model.specs.Datum.{Datum, null, bool, int, text, object, array, dictionary, callable, signal}
use Rattle.gd_model.specs.Same.{is_key}
use Rattle.gd_model.specs.Store.{Store, Names, ArrayThing, DictThing, array_at, dict_at, value_at}
use Rattle.gd_model.specs.SameType.{same_type}
use Rattle.value_semantics.specs.Answer.{and_then, in_form}
use Rattle.value_semantics.specs.Equality.{same}
use Rattle.value_semantics.specs.Formatting.{arguments, format_gives}
use Rattle.value_semantics.specs.Ints.{ints_give, int_gives}
use Rattle.value_semantics.specs.Kinds.{kind_of, alike}
use Rattle.value_semantics.specs.Made.{Made, value, bool_made, array_made}
use Rattle.value_semantics.specs.Texts.{texts_give}

-- whether a value counts as true
abbrev pub truth : Store → Datum → Bool
truth store null = false
truth store (bool b) = b
truth store (int n) = not (int_eq n (pos 0))
truth store (text t) = not (length t == 0)
truth store (object s) = true
truth store (array s) = not (length (array_at store s).items == 0)
truth store (dictionary s) = not (length (dict_at store s).pairs == 0)
truth store (callable c) = true
truth store (signal s n) = true

-- whether two values are equal; of different kinds only null is compared
abbrev pub equal : Store → Datum → Datum → Result Bool RunFault
equal store a b = if alike (kind_of a) (kind_of b) then same store a b else Err BadOperands

-- the first place of an element for which the test says yes, the first element being at `place`
abbrev pub first_place : (Datum → Result Bool RunFault) → ℕ → List Datum → Result (Option ℕ) RunFault
first_place test place [] = Ok None
first_place test place (x ∷ xs) = and_then (test x) (λ yes. if yes then Ok (Some place) else first_place test (place + 1) xs)

-- whether an element of the array equals v, the element being the left one of the two
abbrev pub is_element : Store → Datum → ArrayThing → Result Bool RunFault
is_element store v a = in_form is_some (first_place (λ x. same store x v) 0 a.items)

-- whether a dictionary has the key; what is no key is refused
abbrev pub has_key : Datum → DictThing → Result Bool RunFault
has_key k d = if is_key k then Ok (is_some (value_at d.pairs k)) else Err BadKey

abbrev pub is_inside : Store → Datum → Datum → Result Bool RunFault
is_inside store v (array s) = is_element store v (array_at store s)
is_inside store v (dictionary s) = has_key v (dict_at store s)
is_inside store v other = Err BadOperands

-- an operator before one operand
abbrev pub one_int : Operator → Datum → Result Made RunFault
one_int op (int x) = in_form value (int_gives op x)
one_int op a = Err BadOperands

-- the tests, and the operators before one operand
abbrev pub tests_give : Store → Operator → Datum → Datum → Result Made RunFault
tests_give store Equal a b = in_form bool_made (equal store a b)
tests_give store NotEqual a b = in_form (λ yes. bool_made (not yes)) (equal store a b)
tests_give store Not a b = Ok (bool_made (not (truth store a)))
tests_give store In a b = in_form bool_made (is_inside store a b)
tests_give store NotIn a b = in_form (λ yes. bool_made (not yes)) (is_inside store a b)
tests_give store Negate a b = one_int Negate a
tests_give store Plus a b = one_int Plus a
tests_give store Complement a b = one_int Complement a
tests_give store op a b = Err BadOperands

-- the element type of two arrays that are joined: theirs where they have one, else Variant
abbrev pub joined_type : Ty → Ty → Ty
joined_type t u = if same_type t u then t else Variant

-- a new array of the elements of the one and then of the other
abbrev pub joined : ArrayThing → ArrayThing → ArrayThing
joined x y = record { element = joined_type x.element y.element; fixed = false; items = x.items ++ y.items }

abbrev pub sum_gives : Store → Datum → Datum → Result Made RunFault
sum_gives store (array s) (array t) = array_made (joined (array_at store s) (array_at store t))
sum_gives store a b = Err BadOperands

-- `%` of a String and any value
abbrev pub rest_gives : Store → Names → Datum → Datum → Result Made RunFault
rest_gives store names (text pattern) b = format_gives pattern (arguments store names b)
rest_gives store names a b = Err BadOperands

-- an operator on values that are neither two ints nor two Strings
abbrev pub others_give : Store → Names → Operator → Datum → Datum → Result Made RunFault
others_give store names Add a b = sum_gives store a b
others_give store names Remainder a b = rest_gives store names a b
others_give store names op a b = tests_give store op a b

-- what an operator gives on two values; the right one counts for nothing where it takes one operand
abbrev pub applied : Store → Names → Operator → Datum → Datum → Result Made RunFault
applied store names op (int x) (int y) = in_form value (ints_give op x y)
applied store names op (text x) (text y) = texts_give op x y
applied store names op a b = others_give store names op a b
