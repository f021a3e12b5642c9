-- The things of constants, in the order in which they were made, and which values are of constants.
use Rattle.std.specs.Prelude.{◌≡◌, ℕ, zero, suc, Bool, true, false, List, [], ◌∷◌, map, Option, None, Some, option_map, is_some}
use Rattle.std.specs.List.{list_all, slice_get}
use Rattle.std.proofs.Common.{ap}
use Rattle.slot_arena.specs.declared.handle.Handle.{Handle}
use Rattle.gd_model.specs.declared.value.Value.{Value}
use Rattle.gd_model.specs.Datum.{Datum, null, bool, int, text, object, array, dictionary, callable, signal}
use Rattle.gd_model.specs.Meant.{datum, thing_of}
use Rattle.gd_model.specs.Store.{Names, Store, Thing, array_behind, dict_behind}
use Rattle.gd_model.specs.Store as thing
use Rattle.gd_model.specs.View.{ThingView}
use Rattle.gd_model.specs.View as view
use Rattle.constant_store.specs.declared.thing.ConstantThing.{ConstantThing}
use Rattle.constant_store.specs.declared.thing.ConstantThing.TheVariants as t

abbrev pub thing_view : ConstantThing → ThingView
thing_view (t.Array a) = view.array a
thing_view (t.Dict d) = view.dict d

-- what a thing means
abbrev pub meant : ConstantThing → Thing
meant t = thing_of (thing_view t)

-- the thing with a serial number: the first one has 1
abbrev pub numbered : List ConstantThing → ℕ → Option ConstantThing
numbered things zero = None
numbered things (suc place) = slice_get things place

-- the thing behind a handle
abbrev pub seen : List ConstantThing → Handle → Option ThingView
seen things h = option_map thing_view (numbered things h.serial)

-- the things as the language means them
abbrev pub store_of : List ConstantThing → Store
store_of things s = option_map meant (numbered things s)

seen_as : (o : Option ConstantThing) (x : ThingView) → option_map thing_view o ≡ Some x → option_map meant o ≡ Some (thing_of x)
seen_as None x e = cc
seen_as (Some t) x e = let same : thing_view t ≡ x = cc in ap (λ y. Some (thing_of y)) same

-- what is behind a handle is the thing with its serial number
pub seen_by_serial : (things : List ConstantThing) (h : Handle) (x : ThingView) → seen things h ≡ Some x → store_of things h.serial ≡ Some (thing_of x)
seen_by_serial things h x e = seen_as (numbered things h.serial) x e

-- no thing of a constant is an object, so no class is asked for its name
abbrev pub no_names : Names
no_names class = None

-- a value that leads to no thing, and is none of an object
abbrev pub is_plain : Datum → Bool
is_plain null = true
is_plain (bool b) = true
is_plain (int n) = true
is_plain (text s) = true
is_plain _ = false

-- whether the value is one of these constants: an array or a dictionary is there as such, and it is no object, Callable or signal
abbrev pub is_held : List ConstantThing → Datum → Bool
is_held things (array s) = is_some (array_behind (store_of things s))
is_held things (dictionary s) = is_some (dict_behind (store_of things s))
is_held things null = true
is_held things (bool b) = true
is_held things (int n) = true
is_held things (text s) = true
is_held things (object s) = false
is_held things (callable c) = false
is_held things (signal s n) = false

abbrev pub all_data_held : List ConstantThing → List Datum → Bool
all_data_held things values = list_all (is_held things) values

abbrev pub all_held : List ConstantThing → List Value → Bool
all_held things values = all_data_held things (map datum values)

-- the keys and values of pairs
abbrev pub pair_data : List (Datum × Datum) → List Datum
pair_data [] = []
pair_data (p ∷ ps) = p.0 ∷ p.1 ∷ pair_data ps

abbrev pub value_pair : Value × Value → Datum × Datum
value_pair p = (datum p.0, datum p.1)

abbrev pub all_pairs_held : List ConstantThing → List (Value × Value) → Bool
all_pairs_held things pairs = all_data_held things (pair_data (map value_pair pairs))

-- the values that lie in a thing
abbrev pub data_in : Thing → List Datum
data_in (thing.object class values) = values
data_in (thing.array a) = a.items
data_in (thing.dict d) = pair_data d.pairs

-- each value that lies in one of the things is one of these constants
abbrev pub is_closed : List ConstantThing → Bool
is_closed things = list_all (λ t. all_data_held things (data_in (meant t))) things

-- the value that names a thing
abbrev pub thing_datum : Thing → ℕ → Datum
thing_datum (thing.object class values) s = object s
thing_datum (thing.array a) s = array s
thing_datum (thing.dict d) s = dictionary s
