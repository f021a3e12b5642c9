-- What a dictionary of the code has at a key, as the language means it, and that it is whole.
use Rattle.std.proofs.Common.{◌≡◌, Bool, true, false, cond, List, [], ◌∷◌, map, Option, Some, option_map, refl, subst}
use Rattle.std.specs.List.{AllByRecursion}
use Rattle.std.specs.Map.{lookup}
use Rattle.slot_arena.specs.declared.handle.Handle.{Handle}
use Rattle.gd_model.specs.declared.key.Key.{Key}
use Rattle.gd_model.specs.declared.value.Value.{Value}
use Rattle.gd_model.specs.Datum.{Datum}
use Rattle.gd_model.specs.Key.{one_key}
use Rattle.gd_model.specs.KeyDatum.{key_datum}
use Rattle.gd_model.specs.Meant.{datum, pair_datum}
use Rattle.gd_model.specs.Store.{Names, value_at}
use Rattle.gd_model.specs.View as view
use Rattle.gd_model.specs.View.{ThingView}
use Rattle.gd_model.specs.Whole.{WholeFor, Whole, AllWhole, pair_values}

first_or : (b : Bool) (v : Value) (d : Option Datum) (o : Option Value) → d ≡ option_map datum o → cond b (Some (datum v)) d ≡ option_map datum (cond b (Some v) o)
first_or true v d o e = refl
first_or false v d o e = e

-- the value at a key
pub value_at-meant : (pairs : List (Key × Value)) (k : Key) → value_at (map pair_datum pairs) (key_datum k) ≡ option_map datum (view.value_at pairs k)
value_at-meant [] k = refl
value_at-meant (p ∷ ps) k = first_or (one_key k p.0) p.1 _ _ (value_at-meant ps k)

first_of : (P : Value → Type 0) (b : Bool) (here : Value) (there : Option Value) (v : Value) → cond b (Some here) there ≡ Some v → P here → (there ≡ Some v → P v) → P v
first_of P true here there v e h more = let same : here ≡ v = cc in subst P same h
first_of P false here there v e h more = more e

value_of : (P : Value → Type 0) (test : Key → Bool) (ps : List (Key × Value)) (v : Value) → lookup test ps ≡ Some v → AllByRecursion P (pair_values ps) → P v
value_of P test [] v e h = cc
value_of P test (p ∷ ps) v e h = first_of P (test p.0) p.1 (lookup test ps) v e h.1.0 (λ f. value_of P test ps v f h.1.1)

-- the value at a key of a dictionary whose values are whole
pub whole_value : (things : Handle → Option ThingView) (names : Names) (ps : List (Key × Value)) (k : Key) (v : Value) → view.value_at ps k ≡ Some v → AllWhole things names (pair_values ps) → Whole things names v
whole_value things names ps k v e h = λ n. value_of (WholeFor things names n) (one_key k) ps v e (h n)
