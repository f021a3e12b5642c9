-- The ints of a range.
use Rattle.std.specs.Prelude.{ℕ, zero, suc, ℤ, pos, ◌+ℤ◌, int_lt, unsigned_abs, ◌-ℤ◌, nat_le, Bool, ◌&&◌, ◌||◌, false, List, [], ◌∷◌, Result, Ok, Err, if◌then◌else◌}
use Rattle.std.specs.Int.{div_ceil}
use Rattle.std.specs.Ordering.{int_eq}
use Rattle.gd_model.specs.declared.fault.RunFault.{RunFault}
use Rattle.gd_model.specs.declared.fault.RunFault.TheVariants.{ZeroDivisorOrStep, TooLong}
use Rattle.gd_model.specs.declared.ty.Ty.TheVariants as ty
use Rattle.gd_model.specs.Datum as d
use Rattle.gd_model.specs.Datum.{Datum}
use Rattle.gd_model.specs.Store.{ArrayThing}
use Rattle.value_semantics.specs.Made.{Made, array}

-- whether n comes before the end of a range, whose ints go on by `step`
abbrev pub comes_before : ℤ → ℤ → ℤ → Bool
comes_before step end n = (int_lt (pos 0) step && int_lt n end) || (int_lt step (pos 0) && int_lt end n)

-- how many ints a range has: as many steps, each begun one counting whole, as lie between its first int and its end
abbrev pub range_size : ℤ → ℤ → ℤ → ℕ
range_size first end step =
    if comes_before step end first then div_ceil (unsigned_abs (end -ℤ first)) (unsigned_abs step) else 0

-- the first k ints from n on by `step`
abbrev pub ints_from : ℤ → ℤ → ℕ → List Datum
ints_from n step zero = []
ints_from n step (suc k) = d.int n ∷ ints_from (n +ℤ step) step k

abbrev pub range_array : ℤ → ℤ → ℕ → ArrayThing
range_array n step k = record { element = ty.Variant; fixed = false; items = ints_from n step k }

-- the ints from `first` on by `step` that come before the end
abbrev pub range_gives : ℤ → ℤ → ℤ → Result Made RunFault
range_gives first end step =
    if int_eq step (pos 0) then Err ZeroDivisorOrStep
    else (let size = range_size first end step in
    if nat_le size 16777216 then Ok (array (range_array first step size)) else Err TooLong)
