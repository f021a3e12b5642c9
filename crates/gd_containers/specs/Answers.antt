-- The answers of calls on arrays and dictionaries.
use Rattle.std.specs.Prelude.{◌≡◌, ℕ, ◌+◌, ◌-◌, ℤ, pos, negsuc, Bool, true, false, not, ◌&&◌, List, [], ◌∷◌, ◌++◌, length, take, drop, replicate, nat_le, nat_lt, slice_get, Option, None, Some, option_and_then, is_none, Result, Ok, Err}
use Rattle.gd_model.specs.declared.fault.RunFault.{RunFault}
use Rattle.gd_model.specs.declared.fault.RunFault.TheVariants.{ReadOnly, OutOfRange, ValueOfAnotherType, TooLong}
use Rattle.gd_model.specs.declared.value.Value.{Value}
use Rattle.gd_model.specs.declared.key.Key.{Key}
use Rattle.gd_model.specs.Place.{place, gap}
use Rattle.gd_model.specs.Refusal.{refusal}
use Rattle.gd_model.specs.View.{ArrayView, DictView, value_at}
use Rattle.gd_containers.specs.declared.fault.ThingFault.{ThingFault}
use Rattle.gd_containers.specs.declared.fault.ThingFault.TheVariants.{Run, NoMemory}

-- the call refuses with this fault, and with no run fault where there is none; it may lack memory where it does not refuse
abbrev pub RefusedBy : {T : Type 0} → Option RunFault → Result T ThingFault → Type 0
RefusedBy want (Ok x) = want ≡ None
RefusedBy want (Err (Run f)) = want ≡ Some f
RefusedBy want (Err NoMemory) = want ≡ None

-- the most elements of an array, and the most pairs of a dictionary
abbrev pub is_full : {X : Type 0} → List X → Bool
is_full xs = nat_le 16777216 (length xs)

-- the element that a place names
abbrev pub item_at : List Value → ℤ → Option Value
item_at items at = option_and_then (λ i. slice_get items i) (place at (length items))

abbrev pub push_fault : ArrayView → Bool → Option RunFault
push_fault a fits = refusal ((a.fixed, ReadOnly) ∷ (not fits, ValueOfAnotherType) ∷ (is_full a.items, TooLong) ∷ [])

abbrev pub insert_fault : ArrayView → ℤ → Bool → Option RunFault
insert_fault a at fits =
    refusal ((a.fixed, ReadOnly) ∷ (is_none (gap at (length a.items)), OutOfRange) ∷ (not fits, ValueOfAnotherType) ∷ (is_full a.items, TooLong) ∷ [])

abbrev pub set_fault : ArrayView → ℤ → Bool → Option RunFault
set_fault a at fits = refusal ((a.fixed, ReadOnly) ∷ (is_none (place at (length a.items)), OutOfRange) ∷ (not fits, ValueOfAnotherType) ∷ [])

abbrev pub remove_fault : ArrayView → ℤ → Option RunFault
remove_fault a at = refusal ((a.fixed, ReadOnly) ∷ (is_none (place at (length a.items)), OutOfRange) ∷ [])

abbrev pub clear_fault : Bool → Option RunFault
clear_fault fixed = refusal ((fixed, ReadOnly) ∷ [])

-- so many elements more pass the limit
abbrev pub extend_fault : ArrayView → ℕ → Bool → Option RunFault
extend_fault a more fits =
    refusal ((a.fixed, ReadOnly) ∷ (not fits, ValueOfAnotherType) ∷ (nat_lt 16777216 (length a.items + more), TooLong) ∷ [])

abbrev pub fill_fault : ArrayView → Bool → Option RunFault
fill_fault a fits = refusal ((a.fixed, ReadOnly) ∷ (not fits, ValueOfAnotherType) ∷ [])

-- a size below 0, and one above the limit
abbrev pub is_below : ℤ → Bool
is_below (pos n) = false
is_below (negsuc n) = true

abbrev pub is_above : ℤ → Bool
is_above (pos n) = nat_lt 16777216 n
is_above (negsuc n) = false

abbrev pub resize_fault : ArrayView → ℤ → Option RunFault
resize_fault a size = refusal ((a.fixed, ReadOnly) ∷ (is_below size, OutOfRange) ∷ (is_above size, TooLong) ∷ [])

-- the elements at another size: those from there on are cut off, and new ones are v
abbrev pub resized : List Value → ℤ → Value → List Value
resized items (pos n) v = take n items ++ replicate (n - length items) v
resized items (negsuc n) v = items

-- the elements that are cut off
abbrev pub cut_off : List Value → ℤ → List Value
cut_off items (pos n) = drop n items
cut_off items (negsuc n) = []

-- a new key passes the limit of a dictionary that is full
abbrev pub put_fault : DictView → Key → Bool → Option RunFault
put_fault d k fits =
    refusal ((d.fixed, ReadOnly) ∷ (not fits, ValueOfAnotherType) ∷ (is_full d.pairs && is_none (value_at d.pairs k), TooLong) ∷ [])
