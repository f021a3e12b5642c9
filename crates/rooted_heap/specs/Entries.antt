-- What a dictionary gets.
use Rattle.std.specs.Prelude.{ℕ, ◌≡◌, ⊤, true, List, [], ◌∷◌, ◌++◌, Option, None, Some, slice_index_or, unwrap_or}
use Rattle.slot_arena.specs.declared.handle.Handle.{Handle}
use Rattle.gd_model.specs.declared.fault.RunFault.{RunFault}
use Rattle.gd_model.specs.declared.key.Key.{Key}
use Rattle.gd_model.specs.declared.value.Value.{Value}
use Rattle.gd_model.specs.declared.value.Value.TheVariants as v
use Rattle.gd_model.specs.View.{value_at, with_pair}
use Rattle.gd_containers.specs.Answers.{put_fault}
use Rattle.counted_heap.specs.declared.thing.Thing.{Thing}
use Rattle.counted_heap.specs.declared.thing.Thing.TheVariants.{Object, Array, Dict}
use Rattle.rooted_heap.specs.Rooted.{RootedView, thing_at}
use Rattle.rooted_heap.specs.Reading.{dict_handle}
use Rattle.rooted_heap.specs.Writing.{written_in}

abbrev pub IsDict : Thing → Type 0
IsDict (Object class values) = ⊥
IsDict (Array a) = ⊥
IsDict (Dict d) = ⊤

-- a dictionary with this value at a key
abbrev pub with_entry : Thing → Key → Value → Thing
with_entry (Object class values) key x = Object class values
with_entry (Array a) key x = Array a
with_entry (Dict d) key x = Dict (record d { pairs = with_pair d.pairs key x })

-- the value at a key
abbrev pub entry_of : Thing → Key → Option Value
entry_of (Object class values) key = None
entry_of (Array a) key = None
entry_of (Dict d) key = value_at d.pairs key

-- the fault of a put
abbrev pub put_fault_in : Key → Thing → Option RunFault
put_fault_in key (Object class values) = None
put_fault_in key (Array a) = None
put_fault_in key (Dict d) = put_fault d key true

-- a thing takes a value at a key, and gives the one that was there
pub record PutsInto (was : Thing) (key : Key) (x : Value) (now : Thing) (old : Option Value) : Type 0 where
  pub now_is : now ≡ with_entry was key x
  pub old_is : old ≡ entry_of was key

-- the key that came once more, where a value was at it
abbrev pub again : Value → Option Value → List Value
again key None = []
again key (Some old) = key ∷ []

-- a dictionary has a value at a key, and what was there, or null, comes last
pub record PutsKept (old : RootedView) (i : ℕ) (key : Key) (x : Value) (new : RootedView) : Type 0 where
  pub handle : Handle
  pub named : dict_handle (slice_index_or old.values i v.Nil) ≡ Some handle
  pub was : Thing
  pub was_is : thing_at old.things handle ≡ Some was
  pub new_is : new ≡ record old { things = written_in old.things handle (with_entry was key x); values = old.values ++ unwrap_or (entry_of was key) v.Nil ∷ [] }

-- the dictionary that the value at i names has a value at a key
pub record PutsPair (old : RootedView) (i : ℕ) (key : Key) (x : Value) (new : RootedView) : Type 0 where
  pub handle : Handle
  pub named : dict_handle (slice_index_or old.values i v.Nil) ≡ Some handle
  pub was : Thing
  pub was_is : thing_at old.things handle ≡ Some was
  pub new_is : new ≡ record old { things = written_in old.things handle (with_entry was key x) }
