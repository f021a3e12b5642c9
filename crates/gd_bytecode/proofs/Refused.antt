-- What a refusal of a function's code tells of the program.
use Rattle.std.proofs.Common.{◌≡◌, None}
use Rattle.gd_bytecode.specs.declared.program.Program.{Program}
use Rattle.gd_bytecode.specs.declared.unverified.Unverified.{Unverified}
use Rattle.gd_bytecode.specs.declared.unverified.Unverified.TheVariants as unverified
use Rattle.gd_bytecode.specs.Limits.{limit_fault}
use Rattle.gd_bytecode.specs.Verified.{field_fault, IsOfCode, Refuses}

pub told_of_code : (p : Program) (e : Unverified) → limit_fault p ≡ None → field_fault p ≡ None → IsOfCode e → Refuses p e
told_of_code p (unverified.Limit limit) counts fields of = absurd of
told_of_code p (unverified.Field field) counts fields of = absurd of
told_of_code p (unverified.Jump spot) counts fields of = (counts, fields)
told_of_code p (unverified.Stack spot) counts fields of = (counts, fields)
told_of_code p unverified.NoMemory counts fields of = tt
