-- Needs that a table gives: row k has the numbers of the items that item k needs.
use Rattle.std.specs.Prelude.{ℕ, ◌<◌, length, List, [], ◌∷◌, ◌++◌, map, slice_get, Vec}
use Rattle.std.specs.List.{All}
use Rattle.std.specs.Option.{option_map_or}
use Prim.Native.Nat.{zero, suc}
use Rattle.gd_members.specs.declared.Item.{Item}

abbrev pub item_of : ℕ → Item
item_of number = record { member = record { class = 0; index = number }; value = 0 }

-- the items 0 to n - 1
abbrev pub items_to : ℕ → List Item
items_to zero = []
items_to (suc n) = items_to n ++ item_of n ∷ []

abbrev pub needs_by : {A : Type 0} → List (Vec ℕ A) → Item → List Item
needs_by rows item = option_map_or (λ row. map item_of row.items) (slice_get rows item.member.index) []

-- the rows name no other items than those that have a row
abbrev pub AreClosed : {A : Type 0} → List (Vec ℕ A) → Type 0
AreClosed rows = All (λ row. All (λ number. number < length rows) row.items) rows
