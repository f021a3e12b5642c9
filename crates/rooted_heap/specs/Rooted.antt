-- What contracts see of a heap with its roots, and when the heap counts rightly what the roots hold.
use Rattle.std.specs.Prelude.{ℕ, ◌≡◌, ◌<◌, ◌≤◌, ◌^◌, Bool, true, nat_eq, if◌then◌else◌, List, length, map, take, find, ℤ, Option, None, Some, option_map, slice_get, [], ◌∷◌, ◌++◌, ◌+◌, ◌==◌, sum_by, filter}
use Rattle.std.specs.List.{All}
use Rattle.slot_arena.specs.declared.handle.Handle.{Handle}
use Rattle.slot_arena.specs.Slots.{Entry, handle_of}
use Rattle.gd_model.specs.declared.value.Value.{Value}
use Rattle.gd_model.specs.declared.value.Value.TheVariants as v
use Rattle.gd_model.specs.Meant as meant
use Rattle.gd_model.specs.Store.{Names, Store}
use Rattle.gd_model.specs.View.{ThingView}
use Rattle.gd_model.specs.View as view
use Rattle.gd_model.specs.Whole.{answered, pair_values}
use Rattle.gd_holding.specs.Handles.{value_handle}
use Rattle.gd_holding.specs.Holding.{AreCounted, filled, occurrences}
use Rattle.counted_heap.specs.declared.thing.Thing.{Thing}
use Rattle.counted_heap.specs.declared.thing.Thing.TheVariants.{Object, Array, Dict}
use Rattle.counted_heap.specs.Thing.{thing_places, thing_class}

-- the things by rising serial number, each with its handle; what is left of the running round; how many things were made; the
-- names of the classes by number; how many values there is room for; and the values that are held, the newest last
pub record RootedView : Type 0 where
  pub things : List (Handle × Thing)
  pub round : List ℕ
  pub made : ℕ
  pub names : List (List ℕ)
  pub slots : ℕ
  pub values : List Value

-- a thing without the number of its holders
abbrev pub bare : Entry Thing → Handle × Thing
bare e = (handle_of e, e.value)

-- the thing has this serial number
abbrev pub has_serial : ℕ → Handle × Thing → Bool
has_serial serial t = nat_eq t.0.serial serial

abbrev pub lying_at : ℕ → Option (Handle × Thing) → Option Thing
lying_at index None = None
lying_at index (Some t) = if nat_eq t.0.index index then Some t.1 else None

-- the thing that a handle names
abbrev pub thing_at : List (Handle × Thing) → Handle → Option Thing
thing_at things h = lying_at h.index (find (has_serial h.serial) things)

-- what contracts of containers and operators see of it
abbrev pub thing_view : Thing → ThingView
thing_view (Object class values) = view.object class values
thing_view (Array a) = view.array a
thing_view (Dict d) = view.dict d

abbrev pub seen : List (Handle × Thing) → Handle → Option ThingView
seen things h = option_map thing_view (thing_at things h)

-- the things as the language means them
abbrev pub store_of : List (Handle × Thing) → Store
store_of things = λ serial. option_map (λ t. meant.thing_of (thing_view t.1)) (find (has_serial serial) things)

-- the name of each class by its number
abbrev pub names_of : List (List ℕ) → Names
names_of names = λ class. slice_get names class

-- an object's variables, an array's elements, a dictionary's keys and values
abbrev pub contents : Thing → List Value
contents (Object class values) = values
contents (Array a) = a.items
contents (Dict d) = pair_values d.pairs

-- the handles in values
abbrev pub handles : List Value → List Handle
handles values = filled (map value_handle values)

-- a value names no thing, or one that is there and of its kind, an object of a class with a name
abbrev pub IsThere : List (Handle × Thing) → List (List ℕ) → Value → Type 0
IsThere things names x = answered (seen things) (names_of names) x ≡ true

-- all that these values and the things name is there; and there are so few things, with so few places each, that no count
-- of holders comes near its limit
pub record AreWhole (things : List (Handle × Thing)) (names : List (List ℕ)) (values : List Value) : Type 0 where
  pub inside : All (λ t. All (IsThere things names) (contents t.1)) things
  pub outside : All (IsThere things names) values
  pub few : length things ≤ 16777216
  pub small : All (λ t. length (filled (thing_places t.1)) ≤ 2 ^ 66) things

-- the count of each thing is the number of its occurrences in things and in these values, and all that these name is there
pub record AreHeld (es : List (Entry Thing)) (names : List (List ℕ)) (values : List Value) : Type 0 where
  pub counted : AreCounted thing_places es (handles values)
  pub whole : AreWhole (map bare es) names values

-- the values are in the first of the slots
pub record IsSound (es : List (Entry Thing)) (names : List (List ℕ)) (slots : List Value) (top : ℕ) : Type 0 where
  pub within : top ≤ length slots
  pub held : AreHeld es names (take top slots)

-- the number of an int
abbrev pub int_in : Value → Option ℤ
int_in (v.Int n) = Some n
int_in _ = None

-- how often things and values name the thing with a serial number
abbrev pub count_in : List (Handle × Thing) → List Value → ℕ → ℕ
count_in things values serial =
    sum_by (λ t. occurrences serial (filled (thing_places t.1))) things + occurrences serial (handles values)

-- the serial numbers of the things that nothing holds, rising
abbrev pub unheld_in : List (Handle × Thing) → List Value → List ℕ
unheld_in things values = map (λ t. t.0.serial) (filter (λ t. count_in things values t.0.serial == 0) things)

-- what is left of the running round, or where nothing is left the next one
abbrev pub round_of : List (Handle × Thing) → List Value → List ℕ → List ℕ
round_of things values [] = unheld_in things values
round_of things values (s ∷ rest) = s ∷ rest

abbrev pub running : RootedView → List ℕ
running heap = round_of heap.things heap.values heap.round

-- the heap takes out the first thing of the current round, with this serial number and, of an object, this class
pub record Releases (old : RootedView) (serial : ℕ) (kind : Option ℕ) (new : RootedView) : Type 0 where
  pub handle : Handle
  pub thing : Thing
  pub front : List (Handle × Thing)
  pub back : List (Handle × Thing)
  pub was : old.things ≡ front ++ (handle, thing) ∷ back
  pub now : new.things ≡ front ++ back
  pub serial_is : serial ≡ handle.serial
  pub kind_is : kind ≡ thing_class thing
  pub first : running old ≡ serial ∷ new.round
  pub made_stays : new.made ≡ old.made
  pub names_stay : new.names ≡ old.names
  pub slots_stay : new.slots ≡ old.slots
  pub values_stay : new.values ≡ old.values

-- a value may be held once more: it names no thing, or one that is there, of its kind, and held
pub record CanHold (heap : RootedView) (x : Value) : Type 0 where
  pub there : IsThere heap.things heap.names x
  pub held : (h : Handle) → value_handle x ≡ Some h → 0 < count_in heap.things heap.values h.serial
