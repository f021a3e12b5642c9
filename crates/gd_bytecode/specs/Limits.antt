-- The limits of a program's counts.
use Rattle.std.specs.Prelude.{ℕ, ◌+◌, Bool, ◌||◌, nat_lt, nat_le, List, length, count_by, sum_by, Option, None, Some, if◌then◌else◌}
use Rattle.std.specs.Option.{option_or}
use Rattle.gd_bytecode.specs.declared.program.ClassCode.{ClassCode}
use Rattle.gd_bytecode.specs.declared.program.Function.{Function}
use Rattle.gd_bytecode.specs.declared.program.Program.{Program}
use Rattle.gd_bytecode.specs.declared.program.VarCode.{VarCode}
use Rattle.gd_bytecode.specs.declared.unverified.Limit.{Limit}
use Rattle.gd_bytecode.specs.declared.unverified.Limit.TheVariants as limit
use Rattle.gd_bytecode.specs.First.{first_in}

-- no more parameters must be given than there are, each has a type, and there are at most so many locals and instructions
abbrev pub function_limit : ℕ → Function → Option Limit
function_limit i f =
    if nat_lt f.params f.required then Some (limit.Required i)
    else (if nat_lt (length f.types) f.params || nat_lt 65536 (length f.types) then Some (limit.Locals i)
    else (if nat_lt 8388608 (length f.code) then Some (limit.Code i) else None))

abbrev pub count_statics : List VarCode → ℕ
count_statics variables = count_by (λ v. v.is_static) variables

-- constants and static variables are few enough to be held
abbrev pub is_room : List ClassCode → ℕ → Bool
is_room classes constants = nat_le (constants + sum_by (λ c. count_statics c.variables) classes) 16777216

-- and so are the variables of all classes
abbrev pub are_few : List ClassCode → Bool
are_few classes = nat_lt (sum_by (λ c. length c.variables) classes) 4294967296

abbrev pub program_limit : Program → Option Limit
program_limit p =
    if is_room p.classes (length p.constants) then (if are_few p.classes then None else Some limit.Variables) else Some limit.Held

-- the first limit that is passed
abbrev pub limit_fault : Program → Option Limit
limit_fault p = option_or (first_in function_limit 0 p.functions) (program_limit p)
