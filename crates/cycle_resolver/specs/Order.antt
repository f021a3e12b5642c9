-- What the order of items is.
use Rattle.std.specs.Prelude.{◌≡◌, ℕ, ◌<◌, ◌≤◌, ◌&&◌, Bool, List, ◌++◌, length, take, nat_eq, slice_index_or}
use Rattle.std.specs.List.{All, Contains, count_by}
use Rattle.gd_members.specs.declared.Item.{Item}
use Rattle.cycle_resolver.specs.declared.found.Order.{Order}
use Rattle.cycle_resolver.specs.Unfold.{Settled}
use Rattle.cycle_resolver.specs.Needs.{LeadsToCycle}

abbrev pub same_item : Item → Item → Bool
same_item a b = nat_eq a.member.class b.member.class && nat_eq a.member.index b.member.index && nat_eq a.value b.value

-- how often the item stands in the list
abbrev pub times : Item → List Item → ℕ
times item items = count_by (same_item item) items

-- no item stands twice
abbrev pub AreDistinct : List Item → Type 0
AreDistinct items = (item : Item) → times item items ≤ 1

-- each item stands behind those that it needs
abbrev pub FollowNeeds : (Item → List Item) → List Item → Type 0
FollowNeeds needs items = (k : ℕ) (d : Item) → k < length items → All (Contains (take k items)) (needs (slice_index_or items k d))

-- the items in their order, and apart from them those that lead to a cycle
pub record Orders (needs : Item → List Item) (items : List Item) (order : Order) : Type 0 where
  -- each item stands in one of the two lists, as often as it was given, and nothing else does
  pub each : (item : Item) → times item (order.sequence ++ order.cyclic) ≡ times item items
  pub follow : FollowNeeds needs order.sequence
  pub cyclic : All (LeadsToCycle needs) order.cyclic
  pub acyclic : All (λ item. ¬ LeadsToCycle needs item) order.sequence

-- what is settled after the order was found: the sequence is typed, the others are given up
abbrev pub after_order : Settled → Order → Settled
after_order settled order = record { typed = settled.typed ++ order.sequence; given_up = settled.given_up ++ order.cyclic }
