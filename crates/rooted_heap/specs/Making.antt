-- What making a thing does.
use Rattle.std.specs.Prelude.{ℕ, ◌≡◌, ◌+◌, ◌||◌, true, is_some, nat_le, if◌then◌else◌, List, [], ◌∷◌, ◌++◌, length, slice_get, Option, None, Some, Result, Ok, Err}
use Rattle.slot_arena.specs.declared.handle.Handle.{Handle}
use Rattle.gd_model.specs.declared.fault.RunFault.{RunFault}
use Rattle.gd_model.specs.declared.fault.RunFault.TheVariants.{TooManyThings}
use Rattle.gd_model.specs.declared.value.Value.{Value}
use Rattle.gd_model.specs.declared.value.Value.TheVariants as v
use Rattle.gd_containers.specs.declared.fault.ThingFault.{ThingFault}
use Rattle.gd_containers.specs.declared.fault.ThingFault.TheVariants.{Run, NoMemory}
use Rattle.counted_heap.specs.declared.thing.Thing.{Thing}
use Rattle.counted_heap.specs.declared.thing.Thing.TheVariants as thing
use Rattle.rooted_heap.specs.declared.making.ThingKind.{ThingKind}
use Rattle.rooted_heap.specs.declared.making.ThingKind.TheVariants as kind
use Rattle.rooted_heap.specs.Rooted.{RootedView}

abbrev pub kind_in : Thing → ThingKind
kind_in (thing.Object class values) = kind.Object
kind_in (thing.Array a) = kind.Array
kind_in (thing.Dict d) = kind.Dict

-- the value that names a thing of this kind
abbrev pub value_named : ThingKind → Handle → Value
value_named kind.Object h = v.Object h
value_named kind.Array h = v.Array h
value_named kind.Dict h = v.Dict h

-- the class of an object has a name
abbrev pub IsNamed : List (List ℕ) → Thing → Type 0
IsNamed names (thing.Object class values) = is_some (slice_get names class) ≡ true
IsNamed names (thing.Array a) = Unit {0}
IsNamed names (thing.Dict d) = Unit {0}

abbrev pub IsContainer : Thing → Type 0
IsContainer (thing.Object class values) = ⊥
IsContainer (thing.Array a) = Unit {0}
IsContainer (thing.Dict d) = Unit {0}

-- the fault of a heap that is asked for one more thing: as many are alive, or were made, as ever may be
abbrev pub limit_fault : RootedView → Option RunFault
limit_fault heap =
    if nat_le 16777216 (length heap.things) || nat_le 9223372036854775807 heap.made then Some TooManyThings else None

-- the call refuses with this fault, and with no run fault where there is none; memory may lack first
abbrev pub MayRefuse : {T : Type 0} → Option RunFault → Result T ThingFault → Type 0
MayRefuse want (Ok x) = want ≡ None
MayRefuse want (Err (Run f)) = want ≡ Some f
MayRefuse want (Err NoMemory) = Unit {0}

-- a new thing takes the next serial number, and its value is the last
pub record PushesThing (old : RootedView) (new_thing : Thing) (new : RootedView) : Type 0 where
  pub handle : Handle
  pub serial_is : handle.serial ≡ old.made + 1
  pub new_is : new ≡ record old { things = old.things ++ (handle, new_thing) ∷ []; made = old.made + 1; values = old.values ++ value_named (kind_in new_thing) handle ∷ [] }
