-- Which call of a shelf failed last.
use Rattle.std.specs.Prelude.{Bool, true, false, Result}
use Rattle.std.specs.declared.result.Result.TheVariants.{Ok, Err}
use Rattle.gd_outside.specs.declared.shelf.ShelfFault.{ShelfFault}
use Rattle.gd_outside.specs.declared.shelf.ShelfFault.TheVariants.{Failed, NoMemory}
use Rattle.gd_outside.specs.declared.shelf.FailedCall.{FailedCall}

-- after a call with this answer: the call itself where it answers Failed, else the one that failed last before
abbrev pub failed_after : {T : Type 0} → Result T ShelfFault → FailedCall → FailedCall → FailedCall
failed_after (Ok _) before this = before
failed_after (Err Failed) before this = this
failed_after (Err NoMemory) before this = before

-- whether the answer is Failed
abbrev pub has_failed : {T : Type 0} → Result T ShelfFault → Bool
has_failed (Ok _) = false
has_failed (Err Failed) = true
has_failed (Err NoMemory) = false
