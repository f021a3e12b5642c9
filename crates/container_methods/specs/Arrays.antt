-- What a change does to an array: what lies in it then, what the method answers, and what leaves it.
use Rattle.std.specs.Prelude.{◌≡◌, ⊤, ℕ, ℤ, ◌+◌, ◌<◌, ◌≤◌, List, [], ◌∷◌, ◌++◌, length, map, take, drop, reverse, insert, remove, slice_get, unwrap_or, Option, None, Some, ◌||◌, Bool, Result, Ok, Err, if◌then◌else◌}
use Rattle.std.specs.List.{list_all}
use Rattle.std.specs.Option.{option_to_list}
use Rattle.gd_model.specs.declared.fault.RunFault.{RunFault}
use Rattle.gd_model.specs.declared.fault.RunFault.TheVariants.{BadOperands}
use Rattle.gd_model.specs.declared.value.Value.{Value}
use Rattle.gd_model.specs.declared.value.Value.TheVariants as v
use Rattle.gd_model.specs.Datum.{Datum}
use Rattle.gd_model.specs.Meant.{array_thing, datum}
use Rattle.gd_model.specs.Store.{Store, ArrayThing}
use Rattle.gd_model.specs.View.{ArrayView}
use Rattle.gd_containers.specs.declared.fault.ThingFault.{ThingFault}
use Rattle.gd_containers.specs.declared.fault.ThingFault.TheVariants.{NoMemory}
use Rattle.assignability.specs.Fits.{fits}
use Rattle.value_semantics.specs.declared.builtin.Builtin.{Builtin}
use Rattle.store_semantics.specs.Writes.{Written, array_gives, is_int, is_text, sorted}
use Rattle.container_methods.specs.declared.array_change.ArrayChange.{ArrayChange}
use Rattle.container_methods.specs.declared.array_change.ArrayChange.TheVariants.{Push, Insert, Remove, Take, Keep, Clear, Reverse, Extend, Replace, Cut}
use Rattle.container_methods.specs.declared.array_change.Gone.{Gone}
use Rattle.container_methods.specs.declared.array_change.Gone.TheVariants.{Nothing, One, All}

abbrev pub items_after : ArrayChange → List Value → List Value
items_after (Push v) xs = xs ++ v ∷ []
items_after (Insert i v) xs = insert xs i v
items_after (Remove i) xs = remove xs i
items_after (Take i) xs = remove xs i
items_after Keep xs = xs
items_after Clear xs = []
items_after Reverse xs = reverse xs
items_after (Extend vs) xs = xs ++ vs.items
items_after (Replace vs) xs = vs.items
items_after (Cut i) xs = take i xs

abbrev pub after : ArrayChange → ArrayView → ArrayView
after change a = record a { items = items_after change a.items }

abbrev pub answer : ArrayChange → List Value → Value
answer (Take i) xs = unwrap_or (slice_get xs i) v.Nil
answer change xs = v.Nil

-- what leaves the array and is not the answer
abbrev pub gone : ArrayChange → List Value → List Value
gone (Remove i) xs = option_to_list (slice_get xs i)
gone Clear xs = xs
gone (Replace vs) xs = xs
gone (Cut i) xs = drop i xs
gone change xs = []

abbrev pub values_of : Gone → List Value
values_of Nothing = []
values_of (One v) = v ∷ []
values_of (All vs) = vs.items

-- an array of so many elements has the places that a change names, and room for what it brings
abbrev pub HasPlace : ArrayChange → ℕ → Type 0
HasPlace (Push v) n = n < 16777216
HasPlace (Insert i v) n = (i ≤ n) × (n < 16777216)
HasPlace (Remove i) n = i < n
HasPlace (Take i) n = i < n
HasPlace (Extend vs) n = n + length vs.items ≤ 16777216
HasPlace (Replace vs) n = length vs.items ≤ 16777216
HasPlace change n = ⊤

-- the change was made, or memory lacked and nothing changed
abbrev pub Makes : ArrayChange → ArrayView → ArrayView → Result (Value × Gone) ThingFault → Type 0
Makes change old new (Ok r) = (new ≡ after change old) × (r.0 ≡ answer change old.items) × (values_of r.1 ≡ gone change old.items)
Makes change old new (Err f) = (new ≡ old) × (f ≡ NoMemory)

-- the answers of changes, by what a call on the array gave
abbrev pub with_answer : {A : Type 0} → (A → Value × Gone) → Result A ThingFault → Result (Value × Gone) ThingFault
with_answer form (Ok x) = Ok (form x)
with_answer form (Err f) = Err f

-- a change that was decided, as the array and the answer that are meant
abbrev pub made : ArrayView → ArrayChange → ArrayThing × Datum
made a change = (array_thing (after change a), datum (answer change a.items))

-- the change by which an element goes that was found
abbrev pub without_found : Option ℕ → ArrayChange
without_found None = Keep
without_found (Some i) = Remove i

-- the elements in order, where all are ints or all are Strings
abbrev pub order_if : Bool → List Datum → Result (List Datum) RunFault
order_if sortable xs = if sortable then Ok (sorted xs) else Err BadOperands

abbrev pub sorted_items : List Datum → Result (List Datum) RunFault
sorted_items xs = order_if (list_all is_int xs || list_all is_text xs) xs

-- what a method gives on the array with these arguments, once the call is open
abbrev pub gives : (ℕ → List ℕ) → Store → Builtin → ArrayView → List Value → Written ArrayThing
gives bases store method a args = array_gives (fits bases store a.element) store method (array_thing a) (map datum args)

-- the int, or the String, that a value is
abbrev pub int_in : Value → Option ℤ
int_in (v.Int n) = Some n
int_in x = None

abbrev pub text_in : Value → Option (List ℕ)
text_in (v.Str t) = Some t
text_in x = None
