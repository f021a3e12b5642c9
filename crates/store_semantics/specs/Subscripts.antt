-- Subscripts, for reading and for writing.
use Rattle.std.specs.Prelude.{ℕ, ℤ, Bool, not, ◌&&◌, ◌||◌, nat_le, List, [], ◌∷◌, length, is_none, slice_set, Option, None, Some, Result, Ok, Err, if◌then◌else◌}
use Rattle.gd_model.specs.declared.fault.RunFault.{RunFault}
use Rattle.gd_model.specs.declared.fault.RunFault.TheVariants.{BadOperands, OutOfRange, BadKey, NoSuchKey, ReadOnly, ValueOfAnotherType, TooLong}
use Rattle.gd_model.specs.Datum.{Datum, int, text, array, dictionary}
use Rattle.gd_model.specs.Place.{place, element_at}
use Rattle.gd_model.specs.Same.{is_key}
use Rattle.gd_model.specs.Store.{Store, ArrayThing, DictThing, Thing, array_at, dict_at, value_at, with_pair}
use Rattle.gd_model.specs.Store as thing

abbrev pub or_fault : {A : Type 0} → RunFault → Option A → Result A RunFault
or_fault f None = Err f
or_fault f (Some x) = Ok x

-- an element of an array, by an int that counts from the end where it is negative
abbrev pub item : ArrayThing → Datum → Result Datum RunFault
item a (int i) = or_fault OutOfRange (element_at a.items i)
item a i = Err BadOperands

abbrev pub one_character : Option ℕ → Result Datum RunFault
one_character None = Err OutOfRange
one_character (Some c) = Ok (text (c ∷ []))

-- a character of a String, as a String of length 1
abbrev pub character : List ℕ → Datum → Result Datum RunFault
character t (int i) = one_character (element_at t i)
character t i = Err BadOperands

-- the value at a key
abbrev pub entry : DictThing → Datum → Result Datum RunFault
entry d k = if is_key k then or_fault NoSuchKey (value_at d.pairs k) else Err BadKey

abbrev pub subscript : Store → Datum → Datum → Result Datum RunFault
subscript store (array s) i = item (array_at store s) i
subscript store (text t) i = character t i
subscript store (dictionary s) k = entry (dict_at store s) k
subscript store base i = Err BadOperands

-- the first fault whose condition holds, or else what is given
abbrev pub unless : {A : Type 0} → List (Bool × RunFault) → A → Result A RunFault
unless [] given = Ok given
unless (c ∷ rest) given = if c.0 then Err c.1 else unless rest given

-- an array with another element: read-only, an index of another kind, no such place, a value that does not fit
abbrev pub item_put : ArrayThing → Option ℕ → Bool → Datum → Result ArrayThing RunFault
item_put a None fits v = Err OutOfRange
item_put a (Some i) fits v = unless ((not fits, ValueOfAnotherType) ∷ []) (record a { items = slice_set a.items i v })

abbrev pub item_written : ArrayThing → Datum → Bool → Datum → Result ArrayThing RunFault
item_written a (int i) fits v = if a.fixed then Err ReadOnly else item_put a (place i (length a.items)) fits v
item_written a i fits v = if a.fixed then Err ReadOnly else Err BadOperands

-- a dictionary with a value at a key: read-only, no key, a key or a value that does not fit, a new key where it is full
abbrev pub entry_written : DictThing → Datum → Bool → Bool → Datum → Result DictThing RunFault
entry_written d k key_fits value_fits v = unless
    ((d.fixed, ReadOnly) ∷ (not (is_key k), BadKey) ∷ (not key_fits, ValueOfAnotherType) ∷ (not value_fits, ValueOfAnotherType)
    ∷ (nat_le 16777216 (length d.pairs) && is_none (value_at d.pairs k), TooLong) ∷ [])
    (record d { pairs = with_pair d.pairs k v })
