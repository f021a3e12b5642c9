-- What the functions give on their arguments. Another number of arguments is refused first, and then values of other kinds.
use Rattle.std.specs.Prelude.{unsigned_abs, Bool, not, ◌&&◌, ◌||◌, List, [], ◌∷◌, length, Result, Ok, Err, ℤ, pos, int_lt, int_rem, if◌then◌else◌}
use Rattle.std.specs.Ordering.{int_eq}
use Rattle.std.specs.Int.{w64, cast_signed, int_min, int_max, int_signum, int_wrapping_add}
use Rattle.gd_model.specs.declared.fault.RunFault.{RunFault}
use Rattle.gd_model.specs.declared.fault.RunFault.TheVariants.{ZeroDivisorOrStep, NoSuchMethod, WrongNumberOfArguments, ValueOfAnotherType}
use Rattle.gd_model.specs.Datum as d
use Rattle.gd_model.specs.Datum.{Datum}
use Rattle.gd_model.specs.Same.{is_same}
use Rattle.gd_model.specs.Store.{Store, array_at, dict_at}
use Rattle.gd_text.specs.Number.{to_int}
use Rattle.value_semantics.specs.declared.builtin.Builtin.{Builtin}
use Rattle.value_semantics.specs.declared.builtin.Builtin.TheVariants as b
use Rattle.value_semantics.specs.Answer.{and_then, in_form}
use Rattle.value_semantics.specs.Made.{Made, int_made, bool_made}

-- so many arguments, which are ints
abbrev pub one_int : List Datum → Result ℤ RunFault
one_int (d.int n ∷ []) = Ok n
one_int (a ∷ []) = Err ValueOfAnotherType
one_int args = Err WrongNumberOfArguments

abbrev pub two_ints : List Datum → Result (ℤ × ℤ) RunFault
two_ints (d.int x ∷ d.int y ∷ []) = Ok (x, y)
two_ints (a ∷ c ∷ []) = Err ValueOfAnotherType
two_ints args = Err WrongNumberOfArguments

abbrev pub three_ints : List Datum → Result (ℤ × ℤ × ℤ) RunFault
three_ints (d.int x ∷ d.int y ∷ d.int z ∷ []) = Ok (x, y, z)
three_ints (a ∷ c ∷ e ∷ []) = Err ValueOfAnotherType
three_ints args = Err WrongNumberOfArguments

-- the int that `pick` takes of this one and all arguments, which are ints
abbrev pub picked : (ℤ → ℤ → ℤ) → ℤ → List Datum → Result ℤ RunFault
picked pick n [] = Ok n
picked pick n (d.int m ∷ args) = picked pick (pick n m) args
picked pick n (a ∷ args) = Err ValueOfAnotherType

abbrev pub picked_from : (ℤ → ℤ → ℤ) → Datum → List Datum → Result ℤ RunFault
picked_from pick (d.int n) args = picked pick n args
picked_from pick a args = Err ValueOfAnotherType

-- the same of two or more ints
abbrev pub many_picked : (ℤ → ℤ → ℤ) → List Datum → Result ℤ RunFault
many_picked pick [] = Err WrongNumberOfArguments
many_picked pick (a ∷ []) = Err WrongNumberOfArguments
many_picked pick (a ∷ args) = picked_from pick a args

-- low where n is below it, else high where n is above it, else n
abbrev pub clamped : ℤ × ℤ × ℤ → ℤ
clamped p = if int_lt p.0 p.1 then p.1 else (if int_lt p.2 p.0 then p.2 else p.0)

-- the rest of the division, moved by the divisor where it has the other sign
abbrev pub posmod : ℤ → ℤ → Result ℤ RunFault
posmod x y =
    if int_eq y (pos 0) then Err ZeroDivisorOrStep
    else (let rest = int_rem x y in
    if (int_lt rest (pos 0) && int_lt (pos 0) y) || (int_lt (pos 0) rest && int_lt y (pos 0)) then Ok (int_wrapping_add w64 rest y) else Ok rest)

-- the functions of one int and of two
abbrev pub of_int : Builtin → ℤ → ℤ
of_int b.Abs n = cast_signed w64 (unsigned_abs n)
of_int b.Absi n = cast_signed w64 (unsigned_abs n)
of_int other n = int_signum n

abbrev pub of_pair : Builtin → ℤ × ℤ → Result ℤ RunFault
of_pair b.Mini p = Ok (int_min p.0 p.1)
of_pair b.Maxi p = Ok (int_max p.0 p.1)
of_pair other p = posmod p.0 p.1

-- the functions of ints
abbrev pub ints_call : Builtin → List Datum → Result ℤ RunFault
ints_call b.Abs args = in_form (of_int b.Abs) (one_int args)
ints_call b.Absi args = in_form (of_int b.Absi) (one_int args)
ints_call b.Sign args = in_form (of_int b.Sign) (one_int args)
ints_call b.Signi args = in_form (of_int b.Signi) (one_int args)
ints_call b.Min args = many_picked int_min args
ints_call b.Max args = many_picked int_max args
ints_call b.Mini args = and_then (two_ints args) (of_pair b.Mini)
ints_call b.Maxi args = and_then (two_ints args) (of_pair b.Maxi)
ints_call b.Posmod args = and_then (two_ints args) (of_pair b.Posmod)
ints_call b.Clamp args = in_form clamped (three_ints args)
ints_call b.Clampi args = in_form clamped (three_ints args)
ints_call other args = Err NoSuchMethod

-- the number of the kind of a value
abbrev pub type_number : Datum → ℤ
type_number d.null = pos 0
type_number (d.bool b) = pos 1
type_number (d.int n) = pos 2
type_number (d.text t) = pos 4
type_number (d.object s) = pos 24
type_number (d.callable c) = pos 25
type_number (d.signal s n) = pos 26
type_number (d.dictionary s) = pos 27
type_number (d.array s) = pos 28

-- the length of a String and the size of a container
abbrev pub length_of : Store → Datum → Result ℤ RunFault
length_of store (d.text t) = Ok (pos (length t))
length_of store (d.array s) = Ok (pos (length (array_at store s).items))
length_of store (d.dictionary s) = Ok (pos (length (dict_at store s).pairs))
length_of store a = Err ValueOfAnotherType

abbrev pub as_int : Datum → Result ℤ RunFault
as_int (d.bool b) = Ok (if b then pos 1 else pos 0)
as_int (d.int n) = Ok n
as_int (d.text t) = Ok (to_int t)
as_int a = Err ValueOfAnotherType

abbrev pub as_bool : Datum → Result Bool RunFault
as_bool (d.bool b) = Ok b
as_bool (d.int n) = Ok (not (int_eq n (pos 0)))
as_bool a = Err ValueOfAnotherType

-- the functions of one value, and `is_same`
abbrev pub values_call : Store → Builtin → List Datum → Result Made RunFault
values_call store b.Len (a ∷ []) = in_form int_made (length_of store a)
values_call store b.Typeof (a ∷ []) = Ok (int_made (type_number a))
values_call store b.Int (a ∷ []) = in_form int_made (as_int a)
values_call store b.Bool (a ∷ []) = in_form bool_made (as_bool a)
values_call store b.IsSame (a ∷ c ∷ []) = Ok (bool_made (is_same a c))
values_call store other args = Err WrongNumberOfArguments
