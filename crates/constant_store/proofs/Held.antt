-- Lists of values and of pairs that are held, one more at a time.
use Rattle.std.proofs.Common.{◌≡◌, ℕ, ◌+◌, ◌<◌, ◌≤◌, Bool, true, false, List, [], ◌∷◌, ◌++◌, length, map, take, get_or, refl, ap, sym, ◌∙◌, subst, true≢false}
use Rattle.std.specs.Prelude.{◌&&◌}
use Rattle.std.specs.List.{list_all}
use Rattle.std.proofs.lemmas.Bool.{and_from, and_parts}
use Rattle.std.proofs.lemmas.List.{take_all}
use Rattle.std.proofs.lemmas.List.Folds.{list_all-append}
use Rattle.gd_model.specs.declared.value.Value.{Value}
use Rattle.gd_model.specs.Datum.{Datum}
use Rattle.gd_model.specs.Meant.{datum}
use Rattle.constant_store.specs.declared.thing.ConstantThing.{ConstantThing}
use Rattle.constant_store.specs.Things.{is_held, all_data_held, all_held, all_pairs_held, pair_data, value_pair}
use Rattle.constant_store.proofs.Put.{pairs_at}
use Rattle.constant_store.proofs.Read.{item_held_at, map_more, read_map}

refuted : (b : Bool) → (b ≡ true → ⊥) → false ≡ b
refuted true h = absurd (h refl)
refuted false h = refl

pair_data-append : (ps qs : List (Datum × Datum)) → pair_data (ps ++ qs) ≡ pair_data ps ++ pair_data qs
pair_data-append [] qs = refl
pair_data-append (p ∷ ps) qs = ap (λ ds. p.0 ∷ p.1 ∷ ds) (pair_data-append ps qs)

module _ (things : List ConstantThing) where
  pub more_items : (xs : List Value) (i : ℕ) (x : Value) → i < length xs → x ≡ get_or xs i x → all_held things (take i xs) ≡ true → is_held things (datum x) ≡ true → all_held things (take (i + 1) xs) ≡ true
  more_items xs i x within e before here =
      ap (list_all (is_held things)) (map_more datum xs i x within e)
      ∙ list_all-append (is_held things) (map datum (take i xs)) (datum x ∷ [])
      ∙ and_from (all_held things (take i xs)) (all_data_held things (datum x ∷ [])) before (and_from (is_held things (datum x)) true here refl)

  pub not_all_items : (xs : List Value) (i : ℕ) (x : Value) → i < length xs → x ≡ get_or xs i x → is_held things (datum x) ≡ false → false ≡ all_held things xs
  not_all_items xs i x within e unheld = refuted (all_held things xs) (λ h. true≢false (sym (item_held_at things xs i x within e h) ∙ unheld))

  pub all_items : (xs : List Value) (i : ℕ) → length xs ≤ i → all_held things (take i xs) ≡ true → true ≡ all_held things xs
  all_items xs i past h = sym h ∙ ap (λ ys. all_held things ys) (take_all i xs past)

  pub more_pairs : (ps : List (Value × Value)) (i : ℕ) (p : Value × Value) → i < length ps → p ≡ get_or ps i p → all_pairs_held things (take i ps) ≡ true → (is_held things (datum p.0) && is_held things (datum p.1)) ≡ true → all_pairs_held things (take (i + 1) ps) ≡ true
  more_pairs ps i p within e before here =
      let both = and_parts (is_held things (datum p.0)) (is_held things (datum p.1)) here in
      ap (λ qs. all_data_held things (pair_data qs)) (map_more value_pair ps i p within e)
      ∙ ap (list_all (is_held things)) (pair_data-append (map value_pair (take i ps)) (value_pair p ∷ []))
      ∙ list_all-append (is_held things) (pair_data (map value_pair (take i ps))) (datum p.0 ∷ datum p.1 ∷ [])
      ∙ and_from (all_pairs_held things (take i ps)) (all_data_held things (datum p.0 ∷ datum p.1 ∷ [])) before
      (and_from (is_held things (datum p.0)) (all_data_held things (datum p.1 ∷ [])) both.0 (and_from (is_held things (datum p.1)) true both.1 refl))

  pub not_all_pairs : (ps : List (Value × Value)) (i : ℕ) (p : Value × Value) → i < length ps → p ≡ get_or ps i p → (is_held things (datum p.0) && is_held things (datum p.1)) ≡ false → false ≡ all_pairs_held things ps
  not_all_pairs ps i p within e unheld =
      refuted (all_pairs_held things ps) (λ h.
      let parts = pairs_at things (map value_pair ps) i (value_pair p) (read_map value_pair ps i p within e) h in
      true≢false (sym (and_from (is_held things (datum p.0)) (is_held things (datum p.1)) parts.0 parts.1) ∙ unheld))

  pub all_pairs_end : (ps : List (Value × Value)) (i : ℕ) → length ps ≤ i → all_pairs_held things (take i ps) ≡ true → true ≡ all_pairs_held things ps
  all_pairs_end ps i past h = sym h ∙ ap (λ qs. all_pairs_held things qs) (take_all i ps past)
