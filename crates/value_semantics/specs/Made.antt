-- What operators and builtins give: a value, or a thing that is not yet in the store.
use Rattle.std.specs.Prelude.{◌≡◌, ℕ, ℤ, Bool, nat_le, List, Option, None, Some, length, Result, Ok, Err, if◌then◌else◌, pos, negsuc}
use Rattle.gd_model.specs.declared.fault.RunFault.{RunFault}
use Rattle.gd_model.specs.declared.fault.RunFault.TheVariants.{TooLong, OutOfRange}
use Rattle.gd_model.specs.Datum as d
use Rattle.gd_model.specs.Datum.{Datum}
use Rattle.gd_model.specs.Store.{ArrayThing, DictThing}
use Rattle.value_semantics.specs.Answer.{in_form}

pub data Made : Type 0 where
  value : Datum → Made
  array : ArrayThing → Made
  dict : DictThing → Made

abbrev pub bool_made : Bool → Made
bool_made b = value (d.bool b)

abbrev pub int_made : ℤ → Made
int_made n = value (d.int n)

-- a place as an int, -1 standing for none
abbrev pub place_made : Option ℕ → Made
place_made None = int_made (negsuc 0)
place_made (Some i) = int_made (pos i)

-- a text, unless it passes the limit
abbrev pub limited : List ℕ → Result (List ℕ) RunFault
limited t = if nat_le (length t) 16777216 then Ok t else Err TooLong

abbrev pub text_made : List ℕ → Result Made RunFault
text_made t = in_form (λ s. value (d.text s)) (limited t)

-- the text of a call that may be out of range
abbrev pub text_in_range : Option (List ℕ) → Result Made RunFault
text_in_range None = Err OutOfRange
text_in_range (Some t) = text_made t

-- an array, unless it passes the limit
abbrev pub array_made : ArrayThing → Result Made RunFault
array_made a = if nat_le (length a.items) 16777216 then Ok (array a) else Err TooLong
