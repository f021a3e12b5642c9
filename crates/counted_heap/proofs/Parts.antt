-- What a thing holds is given up in two parts: by its values, and by its pairs.
use Rattle.std.proofs.Common.{◌≡◌, ◌-◌, List, [], ◌∷◌, ◌++◌, map, Option, refl, sym, ap, ◌∙◌}
use Rattle.std.proofs.lemmas.List.Elements.{filter_map-append}
use Rattle.slot_arena.specs.declared.handle.Handle.{Handle}
use Rattle.slot_arena.specs.Slots.{Entry, with_count}
use Rattle.gd_model.specs.declared.key.Key.{Key}
use Rattle.gd_model.specs.declared.value.Value.{Value}
use Rattle.gd_holding.specs.Handles.{value_handle, pair_places}
use Rattle.gd_holding.specs.Holding.{filled, CanGiveUp}
use Rattle.gd_holding.specs.Rounds.{given_up}

pub in_parts : (places : List (Option Handle)) (values vs : List Value) (pairs ps : List (Key × Value)) → places ≡ map value_handle values ++ pair_places pairs → vs ≡ values → pairs ≡ ps → filled places ≡ filled (map value_handle vs) ++ filled (pair_places ps)
in_parts places values vs pairs ps placed same same' =
    ap filled (placed ∙ ap (λ xs. map value_handle xs ++ pair_places pairs) (sym same) ∙ ap (λ qs. map value_handle vs ++ pair_places qs) same')
    ∙ filter_map-append (λ place. place) (map value_handle vs) (pair_places ps)

module _ {T : Type 0} where
  pub given_up-append : (es : List (Entry T)) (xs ys : List Handle) → given_up es (xs ++ ys) ≡ given_up (given_up es xs) ys
  given_up-append es [] ys = refl
  given_up-append es (h ∷ xs) ys = given_up-append (with_count (λ n. n - 1) es h) xs ys

  pub can_first : (es : List (Entry T)) (xs ys : List Handle) → CanGiveUp es (xs ++ ys) → CanGiveUp es xs
  can_first es [] ys can = tt
  can_first es (h ∷ xs) ys can = (can.0, can_first (with_count (λ n. n - 1) es h) xs ys can.1)

  pub can_then : (es : List (Entry T)) (xs ys : List Handle) → CanGiveUp es (xs ++ ys) → CanGiveUp (given_up es xs) ys
  can_then es [] ys can = can
  can_then es (h ∷ xs) ys can = can_then (with_count (λ n. n - 1) es h) xs ys can.1
