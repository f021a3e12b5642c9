-- The definitions tried on small stores.
use Rattle.std.specs.Prelude.{◌≡◌, ℕ, true, false, List, [], ◌∷◌, codes, Some, None, Ok, Err, pos, negsuc}
use Rattle.gd_model.specs.declared.fault.RunFault.TheVariants.{ReadOnly, OutOfRange, ValueOfAnotherType, BadKey}
use Rattle.gd_model.specs.declared.ty.Ty.TheVariants.{Variant}
use Rattle.gd_model.specs.Datum.{Datum, null, bool, int, text, object, array}
use Rattle.gd_model.specs.Store.{ArrayThing, DictThing, Thing, Store}
use Rattle.gd_model.specs.Store as thing
use Rattle.value_semantics.specs.declared.builtin.Builtin.TheVariants as b
use Rattle.store_semantics.specs.Holding.{settle}
use Rattle.store_semantics.specs.Matching.{Branch, any, bind, elements, no_patterns, also, taken}
use Rattle.store_semantics.specs.Subscripts.{subscript, item_written, entry_written}
use Rattle.store_semantics.specs.World.{World, freed, store_of}
use Rattle.store_semantics.specs.Writes.{array_write, dict_write}

-- a store with these things and nothing else
abbrev pub world : List (ℕ × Thing) → World
world things = record { things = things; made = 2; statics = []; constants = []; connections = []; events = [] }

-- an object of class 5 that holds one of class 6
abbrev pub chain : World
chain = world ((1, thing.object 5 (object 2 ∷ [])) ∷ (2, thing.object 6 []) ∷ [])

-- nothing holds the first: it goes, and in the next round the second
abbrev pub TwoRounds : Type 0
TwoRounds = settle chain [] ≡ record (world []) { events = freed 1 5 ∷ freed 2 6 ∷ [] }

-- where the running code holds the first, both stay
abbrev pub BothStay : Type 0
BothStay = settle chain (object 1 ∷ []) ≡ chain

-- two objects that hold each other stay
abbrev pub ring : World
ring = world ((1, thing.object 5 (object 2 ∷ [])) ∷ (2, thing.object 6 (object 1 ∷ [])) ∷ [])

abbrev pub RingStays : Type 0
RingStays = settle ring [] ≡ ring

abbrev pub numbers : ArrayThing
numbers = record { element = Variant; fixed = false; items = int (pos 1) ∷ int (pos 2) ∷ [] }

abbrev pub frozen : ArrayThing
frozen = record numbers { fixed = true }

abbrev pub empty_dict : DictThing
empty_dict = record { key_type = Variant; value_type = Variant; fixed = false; pairs = [] }

-- a negative place counts from the end
abbrev pub FromTheEnd : Type 0
FromTheEnd = subscript (store_of (world ((1, thing.array numbers) ∷ []))) (array 1) (int (negsuc 0)) ≡ Ok (int (pos 2))

abbrev pub Beyond : Type 0
Beyond = subscript (store_of (world ((1, thing.array numbers) ∷ []))) (array 1) (int (pos 2)) ≡ Err OutOfRange

-- read-only comes before all else
abbrev pub Frozen : Type 0
Frozen = item_written frozen (int (pos 9)) false null ≡ Err ReadOnly

-- a key that is none comes before a value that does not fit
abbrev pub NoKey : Type 0
NoKey = entry_written empty_dict (array 1) true false null ≡ Err BadKey

abbrev pub Appended : Type 0
Appended = array_write (λ v. true) (λ s. None) b.ArrayAppend numbers (int (pos 3) ∷ [])
    ≡ Ok (record numbers { items = int (pos 1) ∷ int (pos 2) ∷ int (pos 3) ∷ [] }, null)

abbrev pub Popped : Type 0
Popped = array_write (λ v. true) (λ s. None) b.ArrayPopFront numbers [] ≡ Ok (record numbers { items = int (pos 2) ∷ [] }, int (pos 1))

-- what is added is tested
abbrev pub Tested : Type 0
Tested = dict_write (λ k. true) (λ v. false) (λ s. None) b.DictionaryGetOrAdd empty_dict (text (codes "k") ∷ []) ≡ Err ValueOfAnotherType

-- the first branch wants one element, and the second binds the second of two
abbrev pub one_element : Branch
one_element = record { patterns = also (elements false (also any no_patterns)) no_patterns; guarded = false }

abbrev pub two_elements : Branch
two_elements = record { patterns = also (elements false (also any (also (bind (codes "x")) no_patterns))) no_patterns; guarded = false }

abbrev pub array_store : Store
array_store = store_of (world ((1, thing.array numbers) ∷ []))

abbrev pub SecondBranch : Type 0
SecondBranch =
    taken (one_element ∷ two_elements ∷ []) (array 1) (record { store = array_store; given = [] })
    ≡ Ok (Some (1, (codes "x", int (pos 2)) ∷ []), record { store = array_store; given = [] })
