-- What settling leaves, and what it asks of what the running code holds.
use Rattle.std.specs.Prelude.{◌≡◌, ℕ, Bool, true, List, [], ◌∷◌, ⊤}
use Rattle.std.specs.List.{list_any}
use Rattle.gd_model.specs.Datum.{Datum}
use Rattle.gd_model.specs.Store.{Thing}
use Rattle.store_semantics.specs.Holding.{holds, is_held, settle}
use Rattle.store_semantics.specs.World.{World}

abbrev pub AllHeldOf : World → List Datum → List (ℕ × Thing) → Type 0
AllHeldOf w hand [] = ⊤
AllHeldOf w hand (x ∷ xs) = (is_held w hand x.0 ≡ true) × AllHeldOf w hand xs

-- each thing that is there is held, by a place of the world or by the running code
abbrev pub AllHeld : World → List Datum → Type 0
AllHeld w hand = AllHeldOf w hand w.things

-- whether values hold the thing with a serial number
abbrev pub among : ℕ → List Datum → Bool
among s hand = list_any (holds s) hand

-- behind it each thing is held
abbrev pub LeavesHeld : Type 0
LeavesHeld = (w : World) (hand : List Datum) → AllHeld (settle w hand) hand

-- where each thing is held, nothing goes and nothing is seen
abbrev pub StaysSettled : Type 0
StaysSettled = (w : World) (hand : List Datum) → AllHeld w hand → settle w hand ≡ w

-- it asks of the values that the running code holds only which things are among them
abbrev pub AsksAmong : Type 0
AsksAmong = (w : World) (one other : List Datum) → ((s : ℕ) → among s one ≡ among s other) → settle w one
    ≡ settle w other

-- each thing stays held where the running code holds more
abbrev pub MoreHeld : Type 0
MoreHeld = (w : World) (one other : List Datum) → ((s : ℕ) → among s one ≡ true → among s other ≡ true) → AllHeld w one
    → AllHeld w other
