-- What items need, and which are settled.
use Rattle.std.specs.Prelude.{◌≡◌, Bool, List, [], filter, Result}
use Rattle.std.specs.Option.{option_map_or}
use Rattle.std.specs.declared.result.Result.TheVariants.{Ok, Err}
use Rattle.no_memory.specs.declared.NoMemory.{NoMemory}
use Rattle.gd_members.specs.declared.Item.{Item}
use Rattle.indexmap.specs.IndexSet.{contains}
use Rattle.indexmap.specs.IndexMap.{get}
use Rattle.cycle_resolver.specs.Unfold.{Settled, type_item}
use Rattle.cycle_resolver.specs.Order.{same_item}
use Rattle.gd_infer.specs.declared.needs.Progress.{Progress}
use Rattle.gd_infer.specs.declared.needs.ItemNeeds.{ItemNeeds}

abbrev pub settled_in : Progress → Settled
settled_in progress = record { typed = progress.typed.keys; given_up = progress.given_up.keys }

abbrev pub is_item : ItemNeeds → Item → Bool
is_item all item = contains same_item all.items item

-- what the item needs, among the items
abbrev pub needs_in : ItemNeeds → Item → List Item
needs_in all item = filter (is_item all) (option_map_or (λ row. row) (get same_item all.rows item) [])

-- what is settled after an item was to be noted as typed
abbrev pub after_typing : Settled → Item → Result (Unit {0}) NoMemory → Settled
after_typing settled item (Ok _) = type_item settled item
after_typing settled item (Err _) = settled

-- nothing is settled
pub record IsFresh (progress : Progress) : Type 0 where
  pub typed : progress.typed.keys ≡ []
  pub given_up : progress.given_up.keys ≡ []
