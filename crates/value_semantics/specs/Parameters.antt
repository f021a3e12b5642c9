-- Which calls the row of a builtin takes, and the faults of the others.
use Rattle.std.specs.Prelude.{Bool, true, false, ◌&&◌, List, [], ◌∷◌, ◌++◌, is_some, Option, None, Some, if◌then◌else◌}
use Rattle.gd_model.specs.declared.fault.RunFault.{RunFault}
use Rattle.gd_model.specs.declared.fault.RunFault.TheVariants.{NoSuchMethod, NullReceiver, WrongNumberOfArguments, ValueOfAnotherType}
use Rattle.gd_model.specs.Datum.{Datum}
use Rattle.value_semantics.specs.declared.kind.Kind.{Kind}
use Rattle.value_semantics.specs.declared.kind.Kind.TheVariants as k
use Rattle.value_semantics.specs.declared.builtin.Builtin.{Builtin}
use Rattle.value_semantics.specs.declared.builtin.Builtin.TheVariants as b
use Rattle.value_semantics.specs.declared.builtin_rows.Param.{Param}
use Rattle.value_semantics.specs.declared.builtin_rows.Param.TheVariants as p
use Rattle.value_semantics.specs.BuiltinRows.{Row}
use Rattle.value_semantics.specs.Kinds.{kind_of}

-- whether a parameter takes the values of a kind; a value that is no key or does not fit the type of what lies
-- in the receiver is refused in its own way
abbrev pub takes : Param → Kind → Bool
takes p.Any a = true
takes p.Element a = true
takes p.Key a = true
takes p.Value a = true
takes p.Bool k.Bool = true
takes p.Int k.Int = true
takes p.Str k.Str = true
takes p.Array k.Array = true
takes p.Dict k.Dict = true
takes p.Callable k.Callable = true
takes p.Callable k.Nil = true
takes p.Sized k.Str = true
takes p.Sized k.Array = true
takes p.Sized k.Dict = true
takes p.ToInt k.Bool = true
takes p.ToInt k.Int = true
takes p.ToInt k.Str = true
takes p.ToBool k.Bool = true
takes p.ToBool k.Int = true
takes _ _ = false

-- whether there is an argument for each parameter that a call has to give, and none behind all parameters unless there
-- may be any number
abbrev pub number_fits : List Param → List Param → Option Param → List Datum → Bool
number_fits (p ∷ required) optional rest [] = false
number_fits (p ∷ required) optional rest (a ∷ args) = number_fits required optional rest args
number_fits [] optional rest [] = true
number_fits [] (p ∷ optional) rest (a ∷ args) = number_fits [] optional rest args
number_fits [] [] rest (a ∷ args) = is_some rest

-- whether each argument is of a kind that its parameter takes, `rest` being that of all behind the others
abbrev pub kinds_fit : List Param → Option Param → List Datum → Bool
kinds_fit params rest [] = true
kinds_fit (p ∷ params) rest (a ∷ args) = takes p (kind_of a) && kinds_fit params rest args
kinds_fit [] (Some p) (a ∷ args) = takes p (kind_of a) && kinds_fit [] (Some p) args
kinds_fit [] None (a ∷ args) = true

-- the fault of the arguments: their number, and then the kind of one
abbrev pub arguments_fault : List Param → List Param → Option Param → List Datum → Option RunFault
arguments_fault required optional rest args =
    if number_fits required optional rest args then (if kinds_fit (required ++ optional) rest args then None else Some ValueOfAnotherType)
    else Some WrongNumberOfArguments

-- the methods that write, which the machine has
abbrev pub writes : Builtin → Bool
writes b.ArrayAppend = true
writes b.ArrayPushBack = true
writes b.ArrayPushFront = true
writes b.ArrayPopBack = true
writes b.ArrayPopFront = true
writes b.ArrayInsert = true
writes b.ArrayRemoveAt = true
writes b.ArrayErase = true
writes b.ArrayClear = true
writes b.ArrayReverse = true
writes b.ArraySort = true
writes b.ArrayAppendArray = true
writes b.ArrayResize = true
writes b.ArrayFill = true
writes b.DictionaryGetOrAdd = true
writes b.DictionaryErase = true
writes b.DictionaryClear = true
writes b.DictionaryMerge = true
writes other = false

-- the fault of a receiver of the first kind, where the methods are those of the second; those of Callable and Signal are
-- the machine's
abbrev pub receiver_fault : Kind → Kind → Option RunFault
receiver_fault k.Nil want = Some NullReceiver
receiver_fault k.Str k.Str = None
receiver_fault k.Array k.Array = None
receiver_fault k.Dict k.Dict = None
receiver_fault given want = Some NoSuchMethod

-- the one fault, or else the other
abbrev pub or_else : Option RunFault → Option RunFault → Option RunFault
or_else None other = other
or_else (Some f) other = Some f

-- the fault of the arguments of a method, the receiver being the first of them and `more` the fault of the others
abbrev pub method_fault : Kind → (List Datum → Option RunFault) → List Datum → Option RunFault
method_fault want more [] = Some WrongNumberOfArguments
method_fault want more (receiver ∷ args) = or_else (receiver_fault (kind_of receiver) want) (more args)

-- the fault of a call: of its arguments, and first of the receiver where there is one
abbrev pub by_receiver : Option Kind → (List Datum → Option RunFault) → List Datum → Option RunFault
by_receiver None more args = more args
by_receiver (Some want) more args = method_fault want more args

-- the fault of a call by the row of the builtin
abbrev pub call_fault : Row → List Datum → Option RunFault
call_fault row args =
    by_receiver row.receiver (λ more. if writes row.builtin then Some NoSuchMethod else arguments_fault row.required row.optional row.rest more) args

-- the faults that a row gives
abbrev pub is_of_call : RunFault → Bool
is_of_call NoSuchMethod = true
is_of_call NullReceiver = true
is_of_call WrongNumberOfArguments = true
is_of_call ValueOfAnotherType = true
is_of_call other = false
