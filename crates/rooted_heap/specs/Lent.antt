-- What the things that are lent to operators and builtins are.
use Rattle.std.specs.Prelude.{List, Option, map}
use Rattle.slot_arena.specs.declared.handle.Handle.{Handle}
use Rattle.gd_model.specs.Store.{Names, Store}
use Rattle.gd_model.specs.View.{ThingView}
use Rattle.counted_heap.specs.declared.thing.Thing.{Thing}
use Rattle.rooted_heap.specs.declared.look.Things.{Things}
use Rattle.rooted_heap.specs.Rooted.{bare, seen, store_of, names_of}

abbrev pub things_in : Things → List (Handle × Thing)
things_in lent = map bare lent.heap.now.things

-- what is behind each handle, the things by their serial numbers, and the names of classes
abbrev pub behind : Things → Handle → Option ThingView
behind lent = seen (things_in lent)

abbrev pub meant_in : Things → Store
meant_in lent = store_of (things_in lent)

abbrev pub named_in : Things → Names
named_in lent = names_of lent.names.now
