-- Calls of builtins, and calls of methods on values.
use Rattle.std.specs.Prelude.{ℕ, zero, suc, Bool, true, false, List, [], ◌∷◌, ◌++◌, take, Option, None, Some, Result, Ok, Err, if◌then◌else◌}
use Rattle.gd_model.specs.Datum as d
use Rattle.gd_model.specs.Datum.{Datum, null}
use Rattle.gd_model.specs.Store as thing
use Rattle.gd_model.specs.Store.{array_at, dict_at}
use Rattle.gd_model.specs.declared.fault.RunFault.{RunFault}
use Rattle.gd_model.specs.declared.fault.RunFault.TheVariants.{NoSuchMethod, NullReceiver, WrongNumberOfArguments, ValueOfAnotherType}
use Rattle.gd_model.specs.declared.ty.Ty.{Ty}
use Rattle.gd_syntax.specs.declared.pos.Pos.{Pos}
use Rattle.syntax_trees.specs.Declarations.{Function}
use Rattle.syntax_trees.specs.Expressions.{Text}
use Rattle.value_semantics.specs.Answer.{and_then}
use Rattle.value_semantics.specs.BuiltinRows.{Row, named, row_of}
use Rattle.value_semantics.specs.Builtins.{called}
use Rattle.value_semantics.specs.Kinds.{kind_of}
use Rattle.value_semantics.specs.Made as made
use Rattle.value_semantics.specs.Made.{Made}
use Rattle.value_semantics.specs.Parameters.{kinds_fit, number_fits, writes}
use Rattle.value_semantics.specs.declared.builtin.Builtin.{Builtin}
use Rattle.value_semantics.specs.declared.builtin.Builtin.TheVariants as b
use Rattle.store_semantics.specs.World.{World, line, put, see, write}
use Rattle.store_semantics.specs.Writes.{array_write, dict_write, resize}
use Rattle.source_semantics.specs.Attributes.{class_of}
use Rattle.source_semantics.specs.Functions.{call, foreseen}
use Rattle.source_semantics.specs.Meaning.{Frame, Meaning, code_of}
use Rattle.source_semantics.specs.Project.{Expected, Project, bases, method, names}
use Rattle.source_semantics.specs.Signals.{call_callable, call_signal, is_valid}
use Rattle.source_semantics.specs.State.{Run, Went, at_place, failed, gives, store, then_do}
use Rattle.source_semantics.specs.Types.{fits_type, start_value}

abbrev pub Tests : Type 0
Tests = List (Option (Pos × Expected))

-- ---- builtins that write nothing

abbrev pub printed_line : List Datum → Run → Made → Went Datum
printed_line hand r (made.value (d.text t)) = gives hand null (record r { world = see r.world (line t) })
printed_line hand r other = gives hand null r

abbrev pub prints : Builtin → Bool
prints b.Print = true
prints b.Prints = true
prints b.Printt = true
prints other = false

abbrev pub answered : Pos → List Datum → Run → Builtin → Result Made RunFault → Went Datum
answered pos hand r builtin (Err f) = failed f pos None r.world
answered pos hand r builtin (Ok x) = if prints builtin then printed_line hand r x else then_do
    (at_place pos r (put r.world x)) (gives hand)

abbrev pub reads_alone : Project → Pos → List Datum → Run → Builtin → List Datum → Went Datum
reads_alone p pos hand r builtin arguments = answered pos hand r builtin (called (store r) (names p) builtin arguments)

-- ---- methods that write

-- so many start values of a type, one after another
abbrev pub starts : ℕ → Ty → World → Result (List Datum × World) RunFault
starts zero t w = Ok ([], w)
starts (suc n) t w = and_then (start_value w t)
    (λ first. and_then (starts n t first.1) (λ rest. Ok (first.0 ∷ rest.0, rest.1)))

-- `resize`: the elements that stay, and start values behind them
abbrev pub resized : thing.ArrayThing → World → List Datum → Result (thing.ArrayThing × World) RunFault
resized a w arguments =
    and_then (resize a arguments) (λ n. and_then (starts n.1 a.element w)
    (λ more. Ok (record a { items = take n.0 a.items ++ more.0 }, more.1)))

abbrev pub with_array : Run → ℕ → thing.ArrayThing → Run
with_array r s a = record r { world = write r.world s (thing.array a) }

abbrev pub array_put : Pos → List Datum → Run → ℕ → Result (thing.ArrayThing × Datum) RunFault → Went Datum
array_put pos hand r s (Err f) = failed f pos None r.world
array_put pos hand r s (Ok x) = gives hand x.1 (with_array r s x.0)

abbrev pub writes_array : Project → Pos → List Datum → Run → Builtin → ℕ → List Datum → Went Datum
writes_array p pos hand r b.ArrayResize s arguments =
    then_do (at_place pos r (resized (array_at (store r) s) r.world arguments))
    (λ a r. gives hand null (with_array r s a))
writes_array p pos hand r method s arguments =
    let a = array_at (store r) s in array_put pos hand r s (array_write (fits_type (bases p) (store r) a.element)
    (store r) method a arguments)

abbrev pub dict_put : Pos → List Datum → Run → ℕ → Result (thing.DictThing × Datum) RunFault → Went Datum
dict_put pos hand r s (Err f) = failed f pos None r.world
dict_put pos hand r s (Ok x) = gives hand x.1 (record r { world = write r.world s (thing.dict x.0) })

abbrev pub writes_dict : Project → Pos → List Datum → Run → Builtin → ℕ → List Datum → Went Datum
writes_dict p pos hand r method s arguments =
    let m = dict_at (store r) s in
    dict_put pos hand r s (dict_write (fits_type (bases p) (store r) m.key_type)
    (fits_type (bases p) (store r) m.value_type) (store r) method m arguments)

-- ---- builtins as they are called

-- what a builtin does with arguments whose number is right, and whose foreseen tests hold
abbrev pub perform : Project → Meaning → Frame → Pos → List Datum → Run → Builtin → Datum → List Datum → Went Datum
perform p m frame pos hand r builtin (d.array s) arguments =
    if writes builtin then writes_array p pos hand r builtin s arguments else reads_alone p pos hand r builtin
    (d.array s ∷ arguments)
perform p m frame pos hand r builtin (d.dictionary s) arguments =
    if writes builtin then writes_dict p pos hand r builtin s arguments else reads_alone p pos hand r builtin
    (d.dictionary s ∷ arguments)
perform p m frame pos hand r b.CallableCall (d.callable c) arguments = call_callable p m frame pos c arguments hand r
perform p m frame pos hand r b.CallableIsValid (d.callable c) arguments = gives hand (d.bool (is_valid r c)) r
perform p m frame pos hand r builtin (d.signal s name) arguments =
    if kinds_fit ((row_of builtin).required ++ (row_of builtin).optional) (row_of builtin).rest arguments then
    call_signal p m frame pos builtin s name arguments hand r
    else failed ValueOfAnotherType pos None r.world
perform p m frame pos hand r builtin receiver arguments = reads_alone p pos hand r builtin (receiver ∷ arguments)

-- another number of arguments, the tests that were foreseen, and what the builtin does
abbrev pub checked : Row → Project → Pos → Tests → List Datum → Run → (Run → Went Datum) → Went Datum
checked row p pos tests arguments r more =
    if number_fits row.required row.optional row.rest arguments then then_do (foreseen p tests arguments r) (λ _. more)
    else failed WrongNumberOfArguments pos None r.world

abbrev pub call_function : Project → Pos → Tests → List Datum → Run → Builtin → List Datum → Went Datum
call_function p pos tests hand r builtin arguments =
    checked (row_of builtin) p pos tests arguments r (λ r. reads_alone p pos hand r builtin arguments)

abbrev pub call_builtin_method : Project → Meaning → Frame → Pos → Tests → List Datum → Run → Option Builtin → Datum
    → List Datum → Went Datum
call_builtin_method p m frame pos tests hand r None receiver arguments = failed NoSuchMethod pos None r.world
call_builtin_method p m frame pos tests hand r (Some builtin) receiver arguments =
    checked (row_of builtin) p pos tests arguments r (λ r. perform p m frame pos hand r builtin receiver arguments)

-- ---- methods on values

abbrev pub call_found : Project → Meaning → Frame → Pos → Tests → List Datum → Run → Datum → List Datum
    → Option (ℕ × Function) → Went Datum
call_found p m frame pos tests hand r receiver arguments None = failed NoSuchMethod pos None r.world
call_found p m frame pos tests hand r receiver arguments (Some f) = call p m frame pos tests (code_of p f)
    (Some receiver) arguments hand r

-- A call of a method of a value, at the name after the dot: of an object by name from its own class upwards, of another
-- value by the builtins of its kind. `hand` is what is held beside the value and the arguments.
abbrev pub call_method : Project → Meaning → Frame → Pos → Tests → List Datum → Run → Datum → Text → List Datum
    → Went Datum
call_method p m frame pos tests hand r null name arguments = failed NullReceiver pos None r.world
call_method p m frame pos tests hand r (d.object s) name arguments =
    call_found p m frame pos tests hand r (d.object s) arguments (method p (class_of r s) name)
call_method p m frame pos tests hand r receiver name arguments =
    call_builtin_method p m frame pos tests hand r (named (Some (kind_of receiver)) name) receiver arguments
