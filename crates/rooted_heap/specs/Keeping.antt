-- Values that are counted one after another.
use Rattle.std.specs.Prelude.{◌^◌, ◌<◌, List, [], ◌∷◌}
use Rattle.std.specs.Option.{ForSome}
use Rattle.slot_arena.specs.Slots.{Entry, count_at}
use Rattle.gd_model.specs.declared.key.Key.{Key}
use Rattle.gd_model.specs.declared.key.Key.TheVariants as k
use Rattle.gd_model.specs.declared.value.Value.{Value}
use Rattle.gd_model.specs.declared.value.Value.TheVariants as v
use Rattle.gd_holding.specs.Handles.{value_handle}
use Rattle.gd_holding.specs.Holding.{IsHeld, kept, dropped}
use Rattle.counted_heap.specs.declared.thing.Thing.{Thing}

-- the value that names the thing which a key names
abbrev pub named_key : Key → Value
named_key k.Nil = v.Nil
named_key (k.Bool b) = v.Nil
named_key (k.Int n) = v.Nil
named_key (k.Str t) = v.Nil
named_key (k.Object h) = v.Object h

-- the things once one more holds what each of these values names
abbrev pub kept_all : List (Entry Thing) → List Value → List (Entry Thing)
kept_all es [] = es
kept_all es (x ∷ xs) = kept_all (kept es (value_handle x)) xs

-- each of these can be held once more in turn: what it names is held, and its count below the limit
abbrev pub CanKeep : List (Entry Thing) → List Value → Type 0
CanKeep es [] = Unit {0}
CanKeep es (x ∷ xs) =
    ForSome (value_handle x) (λ h. IsHeld es h) × ForSome (value_handle x) (λ h. ForSome (count_at es h) (λ n. n < 2 ^ 127)) × CanKeep (kept es (value_handle x)) xs

-- the things once one less holds what each of these values names
abbrev pub given_all : List (Entry Thing) → List Value → List (Entry Thing)
given_all es [] = es
given_all es (x ∷ xs) = given_all (dropped es (value_handle x)) xs

-- each of these can be given up in turn: what it names is held
abbrev pub CanGive : List (Entry Thing) → List Value → Type 0
CanGive es [] = Unit {0}
CanGive es (x ∷ xs) = ForSome (value_handle x) (λ h. IsHeld es h) × CanGive (dropped es (value_handle x)) xs
