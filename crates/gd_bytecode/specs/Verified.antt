-- Which programs are verified, and for which fault another is refused.
use Rattle.std.specs.Prelude.{◌≡◌, ◌⊎◌, ◌<◌, ℕ, false, length, slice_get, Option, None, Some}
use Rattle.std.specs.Option.{option_or}
use Rattle.gd_bytecode.specs.declared.field.Field.{Field}
use Rattle.gd_bytecode.specs.declared.program.Function.{Function}
use Rattle.gd_bytecode.specs.declared.program.Instr.{Instr}
use Rattle.gd_bytecode.specs.declared.program.Program.{Program}
use Rattle.gd_bytecode.specs.declared.unverified.Spot.{Spot}
use Rattle.gd_bytecode.specs.declared.unverified.Unverified.{Unverified}
use Rattle.gd_bytecode.specs.declared.unverified.Unverified.TheVariants as unverified
use Rattle.gd_bytecode.specs.ClassFields.{class_fault}
use Rattle.gd_bytecode.specs.ConstFields.{constant_fault}
use Rattle.gd_bytecode.specs.First.{first_in, unless}
use Rattle.gd_bytecode.specs.FunctionFields.{function_fault}
use Rattle.gd_bytecode.specs.Jumps.{jump_fault}
use Rattle.gd_bytecode.specs.Limits.{limit_fault}
use Rattle.gd_bytecode.specs.MainClass.{main_fault}
use Rattle.gd_bytecode.specs.Receivers.{is_right_alone}
use Rattle.gd_bytecode.specs.TypeFields.{type_fault}
use Rattle.gd_bytecode.specs.Ways.{Misfits}

-- the first wrong field, in the order of the fields
abbrev pub field_fault : Program → Option Field
field_fault p =
    option_or (type_fault p.types (length p.classes))
    (option_or (constant_fault p) (option_or (class_fault p) (option_or (function_fault p) (main_fault p))))

-- an instruction does not fit the stack, goes on past the end, or uses a receiver that is not there
abbrev pub Unfit : Program → Function → ℕ → Instr → Type 0
Unfit p f k i = (is_right_alone p f k i ≡ false) ⊎ Misfits f.code k i

-- no instruction of a function before the k-th is such
abbrev pub FitBelow : Program → Function → ℕ → Type 0
FitBelow p f k = (j : ℕ) (i : Instr) → j < k → slice_get f.code j ≡ Some i → ¬ Unfit p f j i

-- the first instruction of a function whose fault no way has to show
abbrev pub alone_fault : Program → Function → Option ℕ
alone_fault p f = first_in (λ k i. unless (is_right_alone p f k i) k) 0 f.code

-- the first wrong jump, or else the first such instruction, and the first of these of all functions
abbrev pub code_fault : Program → Function → Option ℕ
code_fault p f = option_or (jump_fault f.code) (alone_fault p f)

abbrev pub codes_fault : Program → Option ℕ
codes_fault p = first_in (λ i f. code_fault p f) 0 p.functions

-- what is proved of an accepted program: all but that its instructions fit the stack on each way
pub record Accepts (p : Program) : Type 0 where
  pub counts : limit_fault p ≡ None
  pub fields : field_fault p ≡ None
  pub code : codes_fault p ≡ None

-- a fault of a function's code, or want of memory
abbrev pub IsOfCode : Unverified → Type 0
IsOfCode (unverified.Limit limit) = ⊥
IsOfCode (unverified.Field field) = ⊥
IsOfCode fault = Unit {0}

-- what is proved of a refusal: a limit, and else a field, is the first, and a fault of code is told where there is none of these
abbrev pub Refuses : Program → Unverified → Type 0
Refuses p (unverified.Limit limit) = limit_fault p ≡ Some limit
Refuses p (unverified.Field field) = (limit_fault p ≡ None) × (field_fault p ≡ Some field)
Refuses p unverified.NoMemory = Unit {0}
Refuses p fault = (limit_fault p ≡ None) × (field_fault p ≡ None)

-- the jumps of a function and its instructions are right
pub record Runs (p : Program) (f : Function) : Type 0 where
  pub jumps : jump_fault f.code ≡ None
  pub fits : FitBelow p f (length f.code)

-- the functions before the n-th are right
abbrev pub RunBelow : Program → ℕ → Type 0
RunBelow p n = (i : ℕ) (f : Function) → i < n → slice_get p.functions i ≡ Some f → Runs p f

pub record Verified (p : Program) : Type 0 where
  pub counts : limit_fault p ≡ None
  pub fields : field_fault p ≡ None
  pub code : RunBelow p (length p.functions)

-- the first wrong jump, and the first unfit instruction of a function whose jumps are right
pub record FirstJump (p : Program) (spot : Spot) : Type 0 where
  pub counts : limit_fault p ≡ None
  pub fields : field_fault p ≡ None
  pub below : RunBelow p spot.function
  pub jump : (f : Function) × (slice_get p.functions spot.function ≡ Some f) × (jump_fault f.code ≡ Some spot.instruction)

pub record FirstUnfit (p : Program) (spot : Spot) : Type 0 where
  pub counts : limit_fault p ≡ None
  pub fields : field_fault p ≡ None
  pub below : RunBelow p spot.function
  pub unfit : (f : Function) × (i : Instr) × (slice_get p.functions spot.function ≡ Some f) × (jump_fault f.code ≡ None)
      × (slice_get f.code spot.instruction ≡ Some i) × FitBelow p f spot.instruction × Unfit p f spot.instruction i

-- a program is refused by its first fault
abbrev pub IsRefused : Program → Unverified → Type 0
IsRefused p (unverified.Limit limit) = limit_fault p ≡ Some limit
IsRefused p (unverified.Field field) = (limit_fault p ≡ None) × (field_fault p ≡ Some field)
IsRefused p (unverified.Jump spot) = FirstJump p spot
IsRefused p (unverified.Stack spot) = FirstUnfit p spot
IsRefused p unverified.NoMemory = Unit {0}
