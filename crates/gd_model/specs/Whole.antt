-- When the handles in a value are right: each is that of a thing of its kind, and so are those that lie in that thing.
use Rattle.std.specs.Prelude.{◌≡◌, ⊤, ℕ, zero, suc, Bool, true, List, [], ◌∷◌, Option, Some, option_and_then, is_some}
use Rattle.std.specs.List.{AllByRecursion}
use Rattle.slot_arena.specs.declared.handle.Handle.{Handle}
use Rattle.gd_model.specs.declared.key.Key.{Key}
use Rattle.gd_model.specs.declared.key.Key.TheVariants as k
use Rattle.gd_model.specs.declared.value.Value.{Value}
use Rattle.gd_model.specs.declared.value.Value.TheVariants as v
use Rattle.gd_model.specs.Store.{Names}
use Rattle.gd_model.specs.View.{ThingView, array, dict, array_in, dict_in, class_in}

-- the value that a key is
abbrev pub key_value : Key → Value
key_value k.Nil = v.Nil
key_value (k.Bool b) = v.Bool b
key_value (k.Int n) = v.Int n
key_value (k.Str text) = v.Str text
key_value (k.Object handle) = v.Object handle

-- the keys and values of pairs
abbrev pub pair_values : List (Key × Value) → List Value
pair_values [] = []
pair_values (p ∷ ps) = key_value p.0 ∷ p.1 ∷ pair_values ps

-- the values that lie in a container
abbrev pub lying_in : Option ThingView → List Value
lying_in (Some (array a)) = a.items
lying_in (Some (dict d)) = pair_values d.pairs
lying_in thing = []

-- the values to which a value leads at once; what an object has does not count
abbrev pub inside_of : (Handle → Option ThingView) → Value → List Value
inside_of things (v.Array h) = lying_in (things h)
inside_of things (v.Dict h) = lying_in (things h)
inside_of things x = []

-- whether the thing that a value names is there and of its kind, and for an object also the name of its class
abbrev pub answered : (Handle → Option ThingView) → Names → Value → Bool
answered things names (v.Object h) = is_some (option_and_then names (class_in (things h)))
answered things names (v.Array h) = is_some (array_in (things h))
answered things names (v.Dict h) = is_some (dict_in (things h))
answered things names x = true

-- the things are there that a value leads to in less than so many steps
abbrev pub WholeFor : (Handle → Option ThingView) → Names → ℕ → Value → Type 0
WholeFor things names zero x = ⊤
WholeFor things names (suc n) x = (answered things names x ≡ true) × AllByRecursion (WholeFor things names n) (inside_of things x)

-- all things are there that a value leads to
abbrev pub Whole : (Handle → Option ThingView) → Names → Value → Type 0
Whole things names x = (n : ℕ) → WholeFor things names n x

-- and all that any of these values leads to
abbrev pub AllWhole : (Handle → Option ThingView) → Names → List Value → Type 0
AllWhole things names xs = (n : ℕ) → AllByRecursion (WholeFor things names n) xs
