-- One step of a walk along needs.
use Rattle.std.specs.Prelude.{◌≡◌, ◌||◌, Bool, true, false, List, [], ◌∷◌, ◌++◌}
use Rattle.std.specs.List.{All, Contains}
use Rattle.std.specs.HashSet.{contains_by}
use Rattle.gd_members.specs.declared.Item.{Item}
use Rattle.cycle_resolver.specs.declared.walk.Walk.{Walk}
use Rattle.cycle_resolver.specs.Unfold.{IsOpen, Settled, give_up_item, type_item}
use Rattle.cycle_resolver.specs.Order.{same_item}

-- the walk has come to the item
abbrev pub has_met : Walk → Item → Bool
has_met walk item = contains_by (same_item item) walk.met

-- the items met are those met before
abbrev pub MeetsNone : Walk → Walk → Type 0
MeetsNone old new = (item : Item) → has_met new item ≡ has_met old item

-- one more item is met
abbrev pub Meets : Walk → Walk → Item → Type 0
Meets old new next = (item : Item) → has_met new item ≡ (same_item next item || has_met old item)

-- the item is given up, which was taken off the path in `old`
pub record GivesUp (top : Item) (before after : Settled) (old new : Walk) : Type 0 where
  pub settled : after ≡ give_up_item before top
  pub meets : MeetsNone old new
  pub path : new.path.items ≡ old.path.items
  pub sequence : new.sequence.items ≡ old.sequence.items
  pub cyclic : new.cyclic.items ≡ old.cyclic.items ++ top ∷ []

-- a step from the item that stood last on the path, which is taken off it in `old`
pub data Steps (needs : Item → List Item) (top : Item) (before after : Settled) (old new : Walk) : Type 0 where
  -- all that it needs is typed, and so is it
  types : All (Contains before.typed) (needs top) → after ≡ type_item before top → MeetsNone old new
      → new.path.items ≡ old.path.items → new.sequence.items ≡ old.sequence.items ++ top ∷ []
      → new.cyclic.items ≡ old.cyclic.items → Steps needs top before after old new
  -- it needs an item that was not met, which goes on the path behind it
  enters : (next : Item) → Contains (needs top) next → has_met old next ≡ false → after ≡ before → Meets old new next
      → new.path.items ≡ old.path.items ++ top ∷ next ∷ [] → new.sequence.items ≡ old.sequence.items
      → new.cyclic.items ≡ old.cyclic.items → Steps needs top before after old new
  -- it needs an item that was met and is not settled
  closes : (next : Item) → Contains (needs top) next → has_met old next ≡ true → IsOpen before next
      → GivesUp top before after old new → Steps needs top before after old new
  -- it needs an item that was given up
  follows : (next : Item) → Contains (needs top) next → Contains before.given_up next
      → GivesUp top before after old new → Steps needs top before after old new
