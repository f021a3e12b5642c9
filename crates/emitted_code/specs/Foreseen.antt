-- The tests of arguments that the analysis foresaw. All arguments stand on the stack, and stay there.
use Rattle.std.specs.Prelude.{ℕ, zero, suc, Bool, List, [], ◌∷◌, ◌++◌, length, Option, None, Some, if◌then◌else◌}
use Rattle.gd_bytecode.specs.declared.opcode.Opcode.TheVariants as op
use Rattle.gd_model.specs.declared.ty.Ty.{Ty}
use Rattle.gd_model.specs.declared.ty.Ty.TheVariants as ty
use Rattle.gd_syntax.specs.declared.pos.Pos.{Pos}
use Rattle.value_semantics.specs.declared.builtin_rows.Param.{Param}
use Rattle.value_semantics.specs.declared.builtin_rows.Param.TheVariants as param
use Rattle.source_semantics.specs.Project.{Expected, a_parameter, a_type}
use Rattle.emitted_code.specs.Steps.{Code, over, plain, step, test, typed}

-- The argument under so many others is of a type. The top is tested where it stands; of one below it a copy is tested,
-- and given up.
abbrev pub test_below : Pos → ℕ → Ty → Code
test_below at zero t = test at t
test_below at (suc n) t = step at (plain op.Dup (suc n) 0) ++ (test at t ++ step at (plain op.Drop 1 0))

-- It is of one of several types: each but the last is asked for on a copy, and found true leads behind the others.
abbrev pub test_one_of : Pos → ℕ → List Ty → Ty → Code
test_one_of at below [] last = test_below at below last
test_one_of at below (t ∷ ts) last =
    let others : Code = test_one_of at below ts last in
    step at (plain op.Dup below 0) ++ (step at (typed op.Is t) ++ (step at (over op.JumpIf 0 (length others)) ++ others))

-- what a parameter of a builtin takes
abbrev pub test_parameter : Pos → ℕ → Param → Code
test_parameter at below param.Bool = test_below at below ty.Bool
test_parameter at below param.Int = test_below at below ty.Int
test_parameter at below param.Str = test_below at below ty.Str
test_parameter at below param.Array = test_below at below ty.Array
test_parameter at below param.Dict = test_below at below ty.Dict
test_parameter at below param.Callable = test_below at below ty.Callable
test_parameter at below param.Sized = test_one_of at below (ty.Str ∷ ty.Array ∷ []) ty.Dict
test_parameter at below param.ToInt = test_one_of at below (ty.Bool ∷ ty.Int ∷ []) ty.Str
test_parameter at below param.ToBool = test_one_of at below (ty.Bool ∷ []) ty.Int
test_parameter at below other = []

abbrev pub test_expected : ℕ → Option (Pos × Expected) → Code
test_expected below None = []
test_expected below (Some (at, a_type t)) = test_below at below t
test_expected below (Some (at, a_parameter q)) = test_parameter at below q

-- from the first argument on, which stands under all others
abbrev pub test_each : List (Option (Pos × Expected)) → Code
test_each [] = []
test_each (x ∷ xs) = test_expected (length xs) x ++ test_each xs

-- A receiver under so many arguments that may be null comes first: a copy of it that is null leads over the tests to the
-- call, which is the fault.
abbrev pub guarded : Pos → ℕ → Bool → Code → Code
guarded pos count may_be_null [] = []
guarded pos count may_be_null tests =
    if may_be_null then step pos (plain op.Dup count 0) ++ (step pos (over op.JumpIfNot 0 (length tests)) ++ tests)
    else tests
