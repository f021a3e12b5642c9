-- Items that are settled one by one, and what a visit of one says.
use Rattle.std.specs.Prelude.{List, [], ◌∷◌, ◌++◌, Result}
use Rattle.std.specs.List.{All, Contains}
use Rattle.std.specs.declared.result.Result.TheVariants.{Ok, Err}
use Rattle.no_memory.specs.declared.NoMemory.{NoMemory}
use Rattle.gd_members.specs.declared.Item.{Item}
use Rattle.cycle_resolver.specs.declared.unfold.Visit.{Visit}
use Rattle.cycle_resolver.specs.declared.unfold.Visit.TheVariants.{Typed, Needs, Cyclic}

-- the items that were typed and those that were given up, each in the order in which that came about
pub record Settled : Type 0 where
  pub typed : List Item
  pub given_up : List Item

-- the item is not settled
pub record IsOpen (settled : Settled) (item : Item) : Type 0 where
  pub not_typed : ¬ Contains settled.typed item
  pub not_given_up : ¬ Contains settled.given_up item

abbrev pub type_item : Settled → Item → Settled
type_item settled item = record { typed = settled.typed ++ item ∷ []; given_up = settled.given_up }

abbrev pub give_up_item : Settled → Item → Settled
give_up_item settled item = record { typed = settled.typed; given_up = settled.given_up ++ item ∷ [] }

-- what is settled after a visit of the item with this answer
abbrev pub after_visit : Settled → Item → Result Visit NoMemory → Settled
after_visit settled item (Ok Typed) = type_item settled item
after_visit settled item (Ok (Needs _)) = settled
after_visit settled item (Ok Cyclic) = settled
after_visit settled item (Err _) = settled

-- what is settled after an item was to be given up
abbrev pub after_give_up : Settled → Item → Result (Unit {0}) NoMemory → Settled
after_give_up settled item (Ok _) = give_up_item settled item
after_give_up settled item (Err _) = settled

-- why a visit of an item with these needs has this answer
abbrev pub IsCause : List Item → Settled → Visit → Type 0
IsCause needs settled Typed = All (Contains settled.typed) needs
IsCause needs settled (Needs next) = Contains needs next × IsOpen settled next
IsCause needs settled Cyclic = (item : Item) × Contains needs item × Contains settled.given_up item
