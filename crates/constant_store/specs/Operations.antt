-- What the store is after an operator.
use Rattle.std.specs.Prelude.{◌≡◌, suc, true, List, [], ◌∷◌, ◌++◌, length, Result, Ok, Err}
use Rattle.gd_model.specs.declared.fault.RunFault.{RunFault}
use Rattle.gd_model.specs.declared.value.Value.{Value}
use Rattle.gd_model.specs.Meant.{datum}
use Rattle.gd_model.specs.Store.{Thing}
use Rattle.gd_model.specs.Store as thing
use Rattle.gd_containers.specs.declared.fault.ThingFault.{ThingFault}
use Rattle.gd_containers.specs.declared.fault.ThingFault.TheVariants.{Run, NoMemory}
use Rattle.value_semantics.specs.Made.{Made, value, array, dict}
use Rattle.constant_store.specs.declared.thing.ConstantThing.{ConstantThing}
use Rattle.constant_store.specs.Things.{meant, thing_datum}

-- the thing is put behind the others, and the value names it
abbrev pub IsKept : List ConstantThing → List ConstantThing → Thing → Value → Type 0
IsKept old new made v = (t : ConstantThing) × (meant t ≡ made) × (new ≡ old ++ t ∷ []) × (datum v ≡ thing_datum made (suc (length old)))

-- a value is given as it is, and a new thing is put behind the others as a read-only one
abbrev pub Gives : List ConstantThing → List ConstantThing → Made → Value → Type 0
Gives old new (value d) v = (new ≡ old) × (datum v ≡ d)
Gives old new (array a) v = IsKept old new (thing.array (record a { fixed = true })) v
Gives old new (dict d) v = IsKept old new (thing.dict (record d { fixed = true })) v

-- the answer of a call that is to give this; where it refuses, the store stays as it was
abbrev pub Keeps : List ConstantThing → List ConstantThing → Result Made RunFault → Result Value ThingFault → Type 0
Keeps old new want (Ok v) = (made : Made) × (want ≡ Ok made) × Gives old new made v
Keeps old new want (Err (Run f)) = (want ≡ Err f) × (new ≡ old)
Keeps old new want (Err NoMemory) = new ≡ old
