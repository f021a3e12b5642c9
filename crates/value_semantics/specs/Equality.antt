-- When two values are equal.
use Rattle.std.specs.Prelude.{ℕ, zero, suc, Bool, true, false, ◌==◌, nat_eq, List, [], ◌∷◌, length, Option, None, Some, Result, Ok, Err, if◌then◌else◌}
use Rattle.gd_model.specs.declared.fault.RunFault.{RunFault}
use Rattle.gd_model.specs.declared.fault.RunFault.TheVariants.{TooDeepToCompare}
use Rattle.gd_model.specs.Datum.{Datum, array, dictionary}
use Rattle.gd_model.specs.Same.{is_same}
use Rattle.gd_model.specs.Store.{Store, ArrayThing, DictThing, array_at, dict_at, value_at}
use Rattle.value_semantics.specs.Answer.{and_then}

-- how two values are compared: whether they are equal, or the fault
abbrev pub Comparing : Type 0
Comparing = Datum → Datum → Result Bool RunFault

-- the first verdict, and the others only where it is yes
abbrev pub and_also : Result Bool RunFault → Result Bool RunFault → Result Bool RunFault
and_also verdict others = and_then verdict (λ yes. if yes then others else Ok false)

-- elements pair by pair
abbrev pub same_items : Comparing → List Datum → List Datum → Result Bool RunFault
same_items eq (x ∷ xs) (y ∷ ys) = and_also (eq x y) (same_items eq xs ys)
same_items eq _ _ = Ok true

-- the value of a pair and what the other dictionary has at its key
abbrev pub same_at : Comparing → Datum → Option Datum → Result Bool RunFault
same_at eq v None = Ok false
same_at eq v (Some w) = eq v w

-- the pairs of the left dictionary in their order
abbrev pub same_pairs : Comparing → List (Datum × Datum) → List (Datum × Datum) → Result Bool RunFault
same_pairs eq [] others = Ok true
same_pairs eq (p ∷ ps) others = and_also (same_at eq p.1 (value_at others p.0)) (same_pairs eq ps others)

-- two arrays: their sizes, and then the elements
abbrev pub same_arrays : Comparing → ArrayThing → ArrayThing → Result Bool RunFault
same_arrays eq x y = if length x.items == length y.items then same_items eq x.items y.items else Ok false

-- two dictionaries: their sizes, and then the pairs of the left one
abbrev pub same_dicts : Comparing → DictThing → DictThing → Result Bool RunFault
same_dicts eq x y = if length x.pairs == length y.pairs then same_pairs eq x.pairs y.pairs else Ok false

-- two arrays by their serial numbers, `inside` comparing what lies in them where they are not too deep
abbrev pub arrays_by : Store → Option Comparing → ℕ → ℕ → Result Bool RunFault
arrays_by store None s t = Err TooDeepToCompare
arrays_by store (Some inside) s t = same_arrays inside (array_at store s) (array_at store t)

-- the same for dictionaries
abbrev pub dicts_by : Store → Option Comparing → ℕ → ℕ → Result Bool RunFault
dicts_by store None s t = Err TooDeepToCompare
dicts_by store (Some inside) s t = same_dicts inside (dict_at store s) (dict_at store t)

-- two values: a thing equals itself at once, and values of different kinds are unequal
abbrev pub same_by : Store → Option Comparing → Comparing
same_by store inside (array s) (array t) = if nat_eq s t then Ok true else arrays_by store inside s t
same_by store inside (dictionary s) (dictionary t) = if nat_eq s t then Ok true else dicts_by store inside s t
same_by store inside a b = Ok (is_same a b)

-- how values inside of a container are compared where it may lie `room` deep; with no room they are not
unfoldable pub inside : Store → ℕ → Option Comparing
inside store zero = None
inside store (suc room) = Some (same_by store (inside store room))

-- two values, of which containers may lie 64 deep
abbrev pub same : Store → Datum → Datum → Result Bool RunFault
same store a b = same_by store (inside store 64) a b
