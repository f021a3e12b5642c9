-- What each instruction does.
use Rattle.std.specs.Prelude.{ℕ, suc, ◌*◌, ◌-◌, Bool, true, false, ◌&&◌, nat_eq, List, [], ◌∷◌, ◌++◌, length, take, drop, replicate, slice_get, slice_set, is_some, unwrap_or, pos, Option, None, Some, Result, Ok, Err, if◌then◌else◌}
use Rattle.std.specs.List.{list_all}
use Rattle.gd_model.specs.declared.fault.RunFault.{RunFault}
use Rattle.gd_model.specs.declared.fault.RunFault.TheVariants.{AssertionFailed, BadKey, ValueOfAnotherType}
use Rattle.gd_model.specs.declared.outcome.Outcome.TheVariants.{Fault}
use Rattle.gd_model.specs.declared.ty.Ty.{Ty, out-Ty}
use Rattle.gd_model.specs.declared.ty.Ty.TheOpen as open_ty
use Rattle.gd_model.specs.declared.ty.Ty.TheOpen.{Ty-F}
use Rattle.gd_model.specs.declared.ty.Ty.TheVariants.{Variant}
use Rattle.gd_model.specs.Datum as d
use Rattle.gd_model.specs.Datum.{Datum}
use Rattle.gd_model.specs.Same.{is_key}
use Rattle.gd_model.specs.Store.{Store, dict_at, with_pair}
use Rattle.gd_syntax.specs.declared.pos.Pos.{Pos}
use Rattle.gd_syntax.specs.declared.operator.Operator.{Operator}
use Rattle.gd_syntax.specs.declared.operator.Operator.TheVariants as operator
use Rattle.assignability.specs.Fits.{fits}
use Rattle.value_semantics.specs.declared.builtin.Builtin.{Builtin}
use Rattle.value_semantics.specs.declared.builtin.Builtin.TheVariants as b
use Rattle.value_semantics.specs.Answer.{and_then, in_form}
use Rattle.value_semantics.specs.BuiltinRows.{builtins_of}
use Rattle.value_semantics.specs.Builtins.{called}
use Rattle.value_semantics.specs.Equality.{same}
use Rattle.value_semantics.specs.Kinds.{is_unary}
use Rattle.value_semantics.specs.Made as m
use Rattle.value_semantics.specs.Made.{Made, limited}
use Rattle.value_semantics.specs.Operators.{applied, truth}
use Rattle.value_semantics.specs.Printed.{printed}
use Rattle.store_semantics.specs.Matching.{element_in, entry_in, fits_size, has_entry, is_array_of}
use Rattle.store_semantics.specs.Subscripts.{subscript}
use Rattle.store_semantics.specs.Tests.{cast, is_of}
use Rattle.store_semantics.specs.World.{World, put, store_of}
use Rattle.gd_bytecode.specs.declared.opcode.Opcode.{Opcode}
use Rattle.gd_bytecode.specs.declared.opcode.Opcode.TheVariants as op
use Rattle.gd_bytecode.specs.declared.program.Function.{Function}
use Rattle.gd_bytecode.specs.declared.program.Instr.{Instr}
use Rattle.gd_bytecode.specs.declared.program.Program.{Program}
use Rattle.gd_bytecode.specs.declared.program.VarCode.{VarCode}
use Rattle.gd_bytecode.specs.Attributes.{own_read, own_written, read_attribute, static_read, static_written, subscript_put, write_attribute}
use Rattle.gd_bytecode.specs.Calls.{method_call}
use Rattle.gd_bytecode.specs.Entering.{enter, fits_type, leave, stop, with_turn}
use Rattle.gd_bytecode.specs.Iterations.{iteration, next, range_of}
use Rattle.gd_bytecode.specs.Making.{construct}
use Rattle.gd_bytecode.specs.Members.{bases, class_names, function_at, static_of, type_at}
use Rattle.gd_bytecode.specs.Operands.{Here, arguments, calling, changes, gives, gives_value, jumps, onward, place_of, value_at as entry_at}
use Rattle.gd_bytecode.specs.State.{Entry, val, iter, Iteration, running, Stepped, on, prints, stops}
use Rattle.gd_bytecode.specs.Tables.{text_at}

-- the operators in the order of their numbers
abbrev pub operators : List Operator
operators =
    operator.Power ∷ operator.Multiply ∷ operator.Divide ∷ operator.Remainder ∷ operator.Add ∷ operator.Subtract ∷ operator.ShiftLeft
    ∷ operator.ShiftRight ∷ operator.BitAnd ∷ operator.BitXor ∷ operator.BitOr ∷ operator.Equal ∷ operator.NotEqual ∷ operator.Less
    ∷ operator.LessEqual ∷ operator.Greater ∷ operator.GreaterEqual ∷ operator.In ∷ operator.NotIn ∷ operator.Negate ∷ operator.Plus
    ∷ operator.Complement ∷ operator.Not ∷ []

abbrev pub operator_at : ℕ → Operator
operator_at n = unwrap_or (slice_get operators n) operator.Not

-- the builtin functions in the order of their numbers
abbrev pub builtin_at : ℕ → Builtin
builtin_at n = unwrap_or (slice_get (builtins_of None) n) b.Print

-- what a Push with a tag puts on the stack: null, false, true, an int, a text or a constant
abbrev pub pushed : Program → World → ℕ → ℕ → Datum
pushed p w tag n =
    if nat_eq tag 1 then d.bool false
    else (if nat_eq tag 2 then d.bool true
    else (if nat_eq tag 3 then d.int (unwrap_or (slice_get p.ints n) (pos 0))
    else (if nat_eq tag 4 then d.text (text_at p n)
    else (if nat_eq tag 5 then unwrap_or (slice_get w.constants n) d.null else d.null))))

-- the store, the stack and the values on it that an instruction looks at
abbrev pub world : Here → World
world h = h.state.world

abbrev pub store : Here → Store
store h = store_of h.state.world

abbrev pub names : Here → ℕ → Option (List ℕ)
names h = class_names h.program

abbrev pub upper : Here → Datum
upper h = entry_at 0 h.frame.stack

abbrev pub lower : Here → Datum
lower h = entry_at 1 h.frame.stack

abbrev pub lowest : Here → Datum
lowest h = entry_at 2 h.frame.stack

abbrev pub pushes : Here → Datum → Stepped
pushes h v = on (onward h (world h) (val v ∷ h.frame.stack))

-- locals: a place in them that is read, written, and unset
abbrev pub local : Here → ℕ → Option Datum
local h a = unwrap_or (slice_get h.frame.locals a) None

abbrev pub with_locals : Here → List (Option Datum) → ℕ → Stepped
with_locals h locals n = on (record h.state { activities = running (record h.frame { at = suc h.frame.at; stack = drop n h.frame.stack; locals = locals }) ∷ h.around })

abbrev pub local_type : Here → ℕ → ℕ
local_type h a = unwrap_or (slice_get (function_at h.program h.frame.function).types a) 0

abbrev pub set_local : Here → Instr → ℕ → Stepped
set_local h i a =
    if fits_type h.program (world h) (local_type h a) (upper h) then with_locals h (slice_set h.frame.locals a (Some (upper h))) 1
    else stop (place_of h i) ValueOfAnotherType

abbrev pub unset : List (Option Datum) → ℕ → ℕ → List (Option Datum)
unset locals a b = take a locals ++ (replicate (b - a) None ++ drop b locals)

-- an operator on the values at the top, of which it takes one or two
abbrev pub operate : Here → Instr → Operator → Stepped
operate h i o =
    if is_unary o then gives h i 1 (and_then (applied (store h) (names h) o (upper h) d.null) (put (world h)))
    else gives h i 2 (and_then (applied (store h) (names h) o (lower h) (upper h)) (put (world h)))

-- a literal of an array: each element fits the element type
abbrev pub array_literal : Here → Ty → List Datum → Result (Datum × World) RunFault
array_literal h t items =
    if list_all (fits (bases h.program) (store h) t) items then put (world h) (m.array (record { element = t; fixed = false; items = items }))
    else Err ValueOfAnotherType

-- a literal of a dictionary, pair by pair: a key is one, and then both fit; a key that repeats has its later value at its
-- first place
abbrev pub paired : (Datum → Datum → Bool) → List (Datum × Datum) → List Datum → Result (List (Datum × Datum)) RunFault
paired fit pairs [] = Ok pairs
paired fit pairs (k ∷ []) = Ok pairs
paired fit pairs (k ∷ v ∷ rest) =
    if is_key k then (if fit k v then paired fit (with_pair pairs k v) rest else Err ValueOfAnotherType) else Err BadKey

abbrev pub dict_literal : Here → Ty → Ty → List Datum → Result (Datum × World) RunFault
dict_literal h k v items =
    and_then (paired (λ x y. fits (bases h.program) (store h) k x && fits (bases h.program) (store h) v y) [] items)
    (λ pairs. put (world h) (m.dict (record { key_type = k; value_type = v; fixed = false; pairs = pairs })))

abbrev pub typed_literal : Here → List Datum → Ty-F Ty → Result (Datum × World) RunFault
typed_literal h items (open_ty.DictOf k v) = dict_literal h k v items
typed_literal h items t = dict_literal h Variant Variant items

-- a class that an instruction names: its number, of which 0 is RefCounted
abbrev pub static_member : Here → Instr → Option (ℕ × VarCode)
static_member h i = static_of h.program i.b (text_at h.program i.a)

-- a function of the program on the receiver, or on none where it is static
abbrev pub receiver_for : Here → Function → Option Datum
receiver_for h f = if f.is_static then None else h.frame.me

abbrev pub direct : Here → Instr → Stepped
direct h i =
    enter h.program (calling h i.a) (place_of h i) i.b (receiver_for h (function_at h.program i.b)) (arguments i.a h.frame.stack) true

-- a builtin function: the printing ones print a line and give null
abbrev pub is_printing : Builtin → Bool
is_printing b.Print = true
is_printing b.Prints = true
is_printing b.Printt = true
is_printing f = false

abbrev pub printed_line : Here → Instr → Result Made RunFault → Stepped
printed_line h i (Ok (m.value (d.text t))) = prints (onward h (world h) (val d.null ∷ drop i.a h.frame.stack)) t
printed_line h i (Ok made) = gives h i i.a (put (world h) made)
printed_line h i (Err fault) = stop (place_of h i) fault

abbrev pub builtin : Here → Instr → Builtin → Stepped
builtin h i f =
    let made : Result Made RunFault = called (store h) (names h) f (arguments i.a h.frame.stack) in
    if is_printing f then printed_line h i made else gives h i i.a (and_then made (put (world h)))

-- a static function as a Callable, of its class and under its name
abbrev pub static_callable : Program → Function → Datum
static_callable p f = d.callable (record { object = None; class = suc f.class; name = text_at p f.name })

-- an iteration begins in the place of so many values
abbrev pub begins : Here → Instr → ℕ → Result Iteration RunFault → Stepped
begins h i n (Err fault) = stop (place_of h i) fault
begins h i n (Ok it) = on (onward h (world h) (iter it ∷ drop n h.frame.stack))

-- and goes on with a value above it, or goes
abbrev pub advanced : Here → Instr → Option (Datum × Iteration) → Stepped
advanced h i None = jumps h 1 i.b
advanced h i (Some q) = on (onward h (world h) (val q.0 ∷ iter q.1 ∷ drop 1 h.frame.stack))

abbrev pub goes_on : Here → Instr → Option Entry → Stepped
goes_on h i (Some (iter it)) = advanced h i (next (store h) it)
goes_on h i entry = jumps h 1 i.b

-- a function returns a value of its type
abbrev pub returns : Here → Instr → Stepped
returns h i =
    if fits_type h.program (world h) (function_at h.program h.frame.function).returns (upper h)
    then on (leave h.state h.frame h.around (upper h)) else stop (place_of h i) ValueOfAnotherType

-- an assertion fails, with the printed form of its message where it has one
abbrev pub fails_with : Pos → Result (List ℕ) RunFault → Stepped
fails_with place (Err fault) = stop place fault
fails_with place (Ok t) = stops (Fault AssertionFailed place (Some t))

abbrev pub fails : Here → Instr → Stepped
fails h i =
    if nat_eq i.a 1 then fails_with (place_of h i) (limited (printed (store h) (names h) (upper h)))
    else stop (place_of h i) AssertionFailed

-- a dictionary of this size, or of at least this size
abbrev pub is_dict_of : Store → Bool → ℕ → Datum → Bool
is_dict_of store more size (d.dictionary s) = fits_size more size (length (dict_at store s).pairs)
is_dict_of store more size v = false

-- the value at a key and whether it is there, in the place of the key
abbrev pub looks_up : Here → Stepped
looks_up h = on (onward h (world h)
    (val (d.bool (has_entry (store h) (upper h) (lower h))) ∷ val (entry_in (store h) (upper h) (lower h)) ∷ drop 1 h.frame.stack))

-- the top fits a type and stays
abbrev pub tests_top : Here → Instr → Stepped
tests_top h i =
    if fits_type h.program (world h) i.a (upper h) then on (onward h (world h) h.frame.stack) else stop (place_of h i) ValueOfAnotherType

-- what an instruction does, by its operation
abbrev pub does : Here → Instr → Opcode → Stepped
-- puts null, false, true, an int, a text or a constant on the stack
does h i op.Push = pushes h (pushed h.program (world h) i.a i.b)
-- puts the receiver there
does h i op.Me = pushes h (unwrap_or h.frame.me d.null)
-- puts a local there, null where it is not set
does h i op.Get = pushes h (unwrap_or (local h i.a) d.null)
-- takes a value into a local, tested against its type
does h i op.Set = set_local h i i.a
-- locals become unset together
does h i op.Clear = with_locals h (unset h.frame.locals i.a i.b) 0
-- copies a value of the stack to its top
does h i op.Dup = pushes h (entry_at i.a h.frame.stack)
-- gives up so many entries together
does h i op.Drop = on (onward h (world h) (drop i.a h.frame.stack))
-- goes on elsewhere: always, or by the truth of a value that it takes
does h i op.Jump = jumps h 0 i.b
does h i op.JumpIf = if truth (store h) (upper h) then jumps h 1 i.b else jumps h 1 (suc h.frame.at)
does h i op.JumpIfNot = if truth (store h) (upper h) then jumps h 1 (suc h.frame.at) else jumps h 1 i.b
-- uses a turn
does h i op.Turn = with_turn (onward h (world h) h.frame.stack) (λ turned. on turned)
-- an operator, and the truth of a value as a bool
does h i op.Op = operate h i (operator_at i.a)
does h i op.Truth = gives_value h i 1 (Ok (d.bool (truth (store h) (upper h))))
-- literals of an array, a dictionary and a typed dictionary
does h i op.Array = gives h i i.a (array_literal h (type_at h.program i.b) (arguments i.a h.frame.stack))
does h i op.Dict = gives h i (2 * i.a) (dict_literal h Variant Variant (arguments (2 * i.a) h.frame.stack))
does h i op.DictOf = gives h i (2 * i.a) (typed_literal h (arguments (2 * i.a) h.frame.stack) (out-Ty (type_at h.program i.b)))
-- an attribute of a value, read and written
does h i op.Attr = read_attribute h i (text_at h.program i.a) (upper h)
does h i op.SetAttr = write_attribute h i (text_at h.program i.a) (lower h) (upper h)
-- a subscript, read and written
does h i op.Index = gives_value h i 2 (subscript (store h) (lower h) (upper h))
does h i op.SetIndex = changes h i 3 (subscript_put h.program (world h) (lowest h) (lower h) (upper h))
-- a variable of the receiver without its accessors, read and written
does h i op.Own = own_read h i h.frame.me (text_at h.program i.a)
does h i op.SetOwn = own_written h i h.frame.me (text_at h.program i.a)
-- a static variable of a class, read and written
does h i op.Static = static_read h i (text_at h.program i.a) (static_member h i)
does h i op.SetStatic = static_written h i (text_at h.program i.a) (upper h) (static_member h i)
-- a method of a value, a function of the program, and the making of an object, each with so many arguments
does h i op.Call = method_call h i (suc i.a) (text_at h.program i.b) (entry_at i.a h.frame.stack) (arguments i.a h.frame.stack)
does h i op.Direct = direct h i
does h i op.New = construct h.program (calling h i.a) (place_of h i) i.b (arguments i.a h.frame.stack)
-- a builtin function
does h i op.Builtin = builtin h i (builtin_at i.b)
-- whether a value is of a type, and a value as one of a type
does h i op.Is = gives_value h i 1 (Ok (d.bool (is_of (bases h.program) (store h) (type_at h.program i.a) (upper h))))
does h i op.As = gives_value h i 1 (cast (bases h.program) (store h) (type_at h.program i.a) (upper h))
-- a static function as a Callable
does h i op.Func = pushes h (static_callable h.program (function_at h.program i.a))
-- an iteration over a value begins, one over a range begins, and one goes on or goes
does h i op.Iter = begins h i 1 (iteration (store h) (upper h))
does h i op.Range = begins h i i.a (range_of (arguments i.a h.frame.stack))
does h i op.Next = goes_on h i (slice_get h.frame.stack 0)
-- goes on elsewhere where an argument was given
does h i op.Default = if is_some (local h i.a) then jumps h 0 i.b else jumps h 0 (suc h.frame.at)
-- the function returns, or an assertion fails
does h i op.Return = returns h i
does h i op.Fail = fails h i
-- whether the top is an array, a dictionary of some size
does h i op.SizeArr = pushes h (d.bool (is_array_of (store h) (nat_eq i.b 1) i.a (upper h)))
does h i op.SizeDict = pushes h (d.bool (is_dict_of (store h) (nat_eq i.b 1) i.a (upper h)))
-- the value at a key of the value below, and an element of the top
does h i op.KeyOf = looks_up h
does h i op.Elem = pushes h (element_in (store h) i.a (upper h))
-- whether a value matches another as a pattern
does h i op.Same = gives_value h i 2 (in_form (λ yes. d.bool yes) (same (store h) (lower h) (upper h)))
-- the top is tested against a type
does h i op.Test = tests_top h i

abbrev pub instruction : Here → Instr → Stepped
instruction h i = does h i i.op
