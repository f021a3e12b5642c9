-- What writes of things do.
use Rattle.std.specs.Prelude.{ℕ, ◌≡◌, ◌-◌, ◌<◌, ◌&&◌, nat_eq, if◌then◌else◌, List, length, map, slice_set, slice_index_or, Some, unwrap_or}
use Rattle.slot_arena.specs.declared.handle.Handle.{Handle}
use Rattle.gd_model.specs.declared.value.Value.{Value}
use Rattle.gd_model.specs.declared.value.Value.TheVariants as v
use Rattle.gd_model.specs.Plain.{plain_copy}
use Rattle.gd_holding.specs.Handles.{value_handle}
use Rattle.counted_heap.specs.declared.thing.Thing.{Thing}
use Rattle.counted_heap.specs.declared.thing.Thing.TheVariants.{Object, Array, Dict}
use Rattle.counted_heap.specs.Thing.{thing_values}
use Rattle.rooted_heap.specs.Rooted.{RootedView, thing_at}

-- the value without what it shares: it names the same thing
abbrev pub plain_part : Value → Value
plain_part x = unwrap_or (plain_copy x) v.Nil

-- an object or array with another value at this place
abbrev pub with_item : Thing → ℕ → Value → Thing
with_item (Object class values) place x = Object class (slice_set values place x)
with_item (Array a) place x = Array (record a { items = slice_set a.items place x })
with_item (Dict d) place x = Dict d

-- the things once the one that a handle names is another
abbrev pub written_in : List (Handle × Thing) → Handle → Thing → List (Handle × Thing)
written_in things h thing =
    map (λ t. if nat_eq t.0.index h.index && nat_eq t.0.serial h.serial then (t.0, thing) else t) things

-- a thing takes this value at a place, and gives the one that was there
pub record Exchanges (place : ℕ) (was : Thing) (given : Value) (now : Thing) (taken : Value) : Type 0 where
  pub within : place < length (thing_values was)
  pub now_is : now ≡ with_item was place given
  pub taken_is : taken ≡ slice_index_or (thing_values was) place taken

-- the last value goes to a place of the thing that the value at i names, and the one that was there becomes the last
pub record SwapsValue (old : RootedView) (i place : ℕ) (new : RootedView) : Type 0 where
  pub handle : Handle
  pub named : value_handle (slice_index_or old.values i v.Nil) ≡ Some handle
  pub was : Thing
  pub now : Thing
  pub was_is : thing_at old.things handle ≡ Some was
  pub taken : Value
  pub exchanges : Exchanges place was (slice_index_or old.values (length old.values - 1) v.Nil) now taken
  pub new_is : new ≡ record old { things = written_in old.things handle now; values = slice_set old.values (length old.values - 1) taken }
