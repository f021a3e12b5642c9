-- Where the needs of an item lead.
use Rattle.std.specs.Prelude.{List}
use Rattle.std.specs.List.{Contains}
use Rattle.gd_members.specs.declared.Item.{Item}

-- needs lead from an item to another, directly or through others
pub data Leads (needs : Item → List Item) : Item → Item → Type 0 where
  directly : (from to : Item) → Contains (needs from) to → Leads needs from to
  through : (from next to : Item) → Contains (needs from) next → Leads needs next to → Leads needs from to

-- an item needs itself, directly or through others
abbrev pub NeedsItself : (Item → List Item) → Item → Type 0
NeedsItself needs item = Leads needs item item

-- needs lead from the item to one that needs itself; from an item that needs itself they do
abbrev pub LeadsToCycle : (Item → List Item) → Item → Type 0
LeadsToCycle needs item = (other : Item) × Leads needs item other × NeedsItself needs other
