-- `is` and `as`.
use Rattle.std.specs.Prelude.{ℕ, Bool, true, false, not, ◌&&◌, ◌||◌, List, Result, Ok, Err, if◌then◌else◌, pos}
use Rattle.std.specs.Ordering.{int_eq}
use Rattle.gd_model.specs.declared.fault.RunFault.{RunFault}
use Rattle.gd_model.specs.declared.fault.RunFault.TheVariants.{BadCast}
use Rattle.gd_model.specs.declared.ty.Ty.{Ty}
use Rattle.gd_model.specs.declared.ty.Ty.TheVariants as ty
use Rattle.gd_model.specs.Datum.{Datum, null, bool, int}
use Rattle.gd_model.specs.Store.{Store}
use Rattle.assignability.specs.Assign.{is_variant}
use Rattle.assignability.specs.Fits.{fits}

abbrev pub is_null : Datum → Bool
is_null null = true
is_null v = false

-- the value fits the type; null is of no type but Variant
abbrev pub is_of : (ℕ → List ℕ) → Store → Ty → Datum → Bool
is_of bases store t v = fits bases store t v && (is_variant t || not (is_null v))

-- a value that does not fit: null for a class, between bool and int the other's value, else a fault
abbrev pub converted : Ty → Datum → Result Datum RunFault
converted (ty.Class c) v = Ok null
converted ty.Int (bool b) = Ok (int (if b then pos 1 else pos 0))
converted ty.Bool (int n) = Ok (bool (not (int_eq n (pos 0))))
converted t v = Err BadCast

abbrev pub cast : (ℕ → List ℕ) → Store → Ty → Datum → Result Datum RunFault
cast bases store t v = if fits bases store t v then Ok v else converted t v
