-- What methods of containers do to the heap.
use Rattle.std.specs.Prelude.{ℕ, ◌≡◌, false, List, [], ◌∷◌, ◌++◌, length, Some, slice_index_or, Result, Ok, Err}
use Rattle.std.specs.List.{All}
use Rattle.slot_arena.specs.declared.handle.Handle.{Handle}
use Rattle.gd_model.specs.declared.value.Value.{Value}
use Rattle.gd_model.specs.declared.value.Value.TheVariants as v
use Rattle.gd_containers.specs.declared.fault.ThingFault.{ThingFault}
use Rattle.gd_containers.specs.declared.fault.ThingFault.TheVariants.{NoMemory}
use Rattle.container_methods.specs.Arrays.{HasPlace, after, answer, gone, values_of}
use Rattle.container_methods.specs.declared.array_change.ArrayChange.{ArrayChange}
use Rattle.container_methods.specs.declared.array_change.ArrayChange.TheVariants.{Push, Insert, Remove, Take, Keep, Clear, Reverse, Extend, Replace, Cut}
use Rattle.container_methods.specs.declared.array_change.Gone.{Gone}
use Rattle.counted_heap.specs.declared.thing.Thing.{Thing}
use Rattle.counted_heap.specs.declared.thing.Thing.TheVariants as thing
use Rattle.rooted_heap.specs.Rooted.{RootedView, CanHold, contents, thing_at}
use Rattle.rooted_heap.specs.Reading.{array_handle}
use Rattle.rooted_heap.specs.Writing.{written_in}

-- the values that a change brings into an array
abbrev pub brought : ArrayChange → List Value
brought (Push x) = x ∷ []
brought (Insert i x) = x ∷ []
brought (Remove i) = []
brought (Take i) = []
brought Keep = []
brought Clear = []
brought Reverse = []
brought (Extend xs) = xs.items
brought (Replace xs) = xs.items
brought (Cut i) = []

-- a thing is an array that may be written, and has the places that a change names
abbrev pub Fits : ArrayChange → Thing → Type 0
Fits change (thing.Object class values) = ⊥
Fits change (thing.Array a) = (a.fixed ≡ false) × HasPlace change (length a.items)
Fits change (thing.Dict d) = ⊥

-- the thing once the change is made
abbrev pub with_change : ArrayChange → Thing → Thing
with_change change (thing.Object class values) = thing.Object class values
with_change change (thing.Array a) = thing.Array (after change a)
with_change change (thing.Dict d) = thing.Dict d

-- the change was made, or memory lacked and nothing changed
abbrev pub MakesThing : ArrayChange → Thing → Thing → Result (Value × Gone) ThingFault → Type 0
MakesThing change old new (Ok r) = (new ≡ with_change change old) × (r.0 ≡ answer change (contents old)) × (values_of r.1 ≡ gone change (contents old))
MakesThing change old new (Err f) = (new ≡ old) × (f ≡ NoMemory)

-- the thing that a handle names takes the change: what it brings may be held once more
pub record Takes (heap : RootedView) (h : Handle) (change : ArrayChange) : Type 0 where
  pub was : Thing
  pub was_is : thing_at heap.things h ≡ Some was
  pub fits : Fits change was
  pub held : All (CanHold heap) (brought change)

-- the change of this thing was made, and the method's answer comes last
pub record MakesChange (old : RootedView) (h : Handle) (change : ArrayChange) (new : RootedView) : Type 0 where
  pub was : Thing
  pub was_is : thing_at old.things h ≡ Some was
  pub fits : Fits change was
  pub new_is : new ≡ record old { things = written_in old.things h (with_change change was); values = old.values ++ answer change (contents was) ∷ [] }

-- so the array that the value at i names was changed
pub record ChangesArray (old : RootedView) (i : ℕ) (change : ArrayChange) (new : RootedView) : Type 0 where
  pub handle : Handle
  pub named : array_handle (slice_index_or old.values i v.Nil) ≡ Some handle
  pub makes : MakesChange old handle change new
