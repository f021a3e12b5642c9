-- What holds which things, and how those go that nothing holds.
use Rattle.std.specs.Prelude.{ℕ, zero, suc, Bool, false, not, nat_eq, List, [], ◌∷◌, ◌++◌, length, map, filter, Option, None, Some, if◌then◌else◌}
use Rattle.std.specs.List.{flat_map, list_any}
use Rattle.gd_model.specs.Datum.{Datum, object, array, dictionary}
use Rattle.gd_model.specs.Store.{Thing}
use Rattle.gd_model.specs.Store as thing
use Rattle.store_semantics.specs.World.{World, Seen, freed, Static}

-- whether a value holds the thing with a serial number: Callables and Signals hold nothing
abbrev pub holds : ℕ → Datum → Bool
holds s (object t) = nat_eq s t
holds s (array t) = nat_eq s t
holds s (dictionary t) = nat_eq s t
holds s _ = false

-- the values of a thing: of an object's variables, an array's elements, a dictionary's keys and values
abbrev pub pair_values : List (Datum × Datum) → List Datum
pair_values [] = []
pair_values (p ∷ ps) = p.0 ∷ p.1 ∷ pair_values ps

abbrev pub values_in : Thing → List Datum
values_in (thing.object class values) = values
values_in (thing.array a) = a.items
values_in (thing.dict d) = pair_values d.pairs

-- all places of the store that hold values: things, statics and constants
abbrev pub places : World → List Datum
places w = flat_map (λ p. values_in p.1) w.things ++ (map (λ s. s.value) w.statics ++ w.constants)

-- whether something holds the thing with this serial number: a place of the store, or the running code, which holds `hand`
abbrev pub is_held : World → List Datum → ℕ → Bool
is_held w hand s = list_any (holds s) (places w ++ hand)

-- the objects among things, as events
abbrev pub freed_of : ℕ × Thing → List Seen
freed_of (s, thing.object class values) = freed s class ∷ []
freed_of p = []

-- one round: all things that nothing holds go together, the objects among them being seen by rising serial number
abbrev pub round : World → List Datum → World
round w hand = record w {
  things = filter (λ p. is_held w hand p.0) w.things;
  events = w.events ++ flat_map freed_of (filter (λ p. not (is_held w hand p.0)) w.things);
}

-- so many rounds; one in which nothing goes changes nothing, so as many as there are things are enough
unfoldable pub rounds : ℕ → World → List Datum → World
rounds zero w hand = w
rounds (suc n) w hand = rounds n (round w hand) hand

abbrev pub settle : World → List Datum → World
settle w hand = rounds (length w.things) w hand
