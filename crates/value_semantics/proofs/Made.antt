-- Texts within the limit and past it.
use Rattle.std.proofs.Common.{◌≡◌, ℕ, ◌<◌, ◌≤◌, Bool, true, false, nat_le, List, length, Result, Ok, Err, if◌then◌else◌, ap, arith}
use Rattle.std.proofs.lemmas.Bool.Decides.{nat_tests}
use Rattle.gd_model.specs.declared.fault.RunFault.{RunFault}
use Rattle.gd_model.specs.declared.fault.RunFault.TheVariants.{TooLong}
use Rattle.value_semantics.specs.Made.{limited}

pub limited_within : (t : List ℕ) → length t ≤ 16777216 → limited t ≡ Ok t
limited_within t h =
    let fits : nat_le (length t) 16777216 ≡ true = grind (arith, nat_tests) in
    ap (λ b. if b then Ok t else Err TooLong) fits

pub limited_past : (t : List ℕ) → 16777216 < length t → limited t ≡ Err TooLong
limited_past t h =
    let over : nat_le (length t) 16777216 ≡ false = grind (arith, nat_tests) in
    ap (λ b. if b then Ok t else Err TooLong) over
