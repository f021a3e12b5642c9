-- How deep equality is decided level by level and pair by pair.
use Rattle.std.proofs.Common.{◌≡◌, ℕ, suc, ◌+◌, ◌<◌, Bool, true, false, List, ◌∷◌, length, map, drop, get_or, slice_get, None, Some, option_map, Result, Ok, Err, if◌then◌else◌, refl, ap, sym, ◌∙◌, add-one}
use Rattle.std.proofs.Math.Seq.{drop-cons}
use Rattle.std.proofs.lemmas.Bool.{ne_eqb, eq-eqb}
use Rattle.std.proofs.lemmas.List.{length-map}
use Rattle.std.proofs.lemmas.Option.{get_or_from_slice_get, slice_get_within}
use Rattle.gd_model.specs.declared.fault.RunFault.{RunFault}
use Rattle.gd_model.specs.declared.fault.RunFault.TheVariants.{TooDeepToCompare}
use Rattle.gd_model.specs.declared.key.Key.{Key}
use Rattle.gd_model.specs.declared.value.Value.{Value}
use Rattle.gd_model.specs.Meant.{datum, pair_datum, array_thing, dict_thing}
use Rattle.gd_model.specs.Store.{Store, array_at, dict_at}
use Rattle.gd_model.specs.View.{ArrayView, DictView, value_at}
use Rattle.gd_containers.specs.declared.fault.ThingFault.{ThingFault}
use Rattle.gd_containers.specs.declared.fault.ThingFault.TheVariants.{Run}
use Rattle.gd_containers.proofs.Meanings.{value_at-meant}
use Rattle.gd_answers.specs.Answers.{exact}
use Rattle.value_semantics.specs.Equality.{Comparing, and_also, same_items, same_at, same_pairs, same_by, inside, arrays_by, dicts_by, same_arrays, same_dicts}

no_room : (store : Store) (room : ℕ) → room ≡ 0 → inside store room ≡ None
unfolding inside
no_room store room e = ap (λ n. inside store n) e

more_room : (store : Store) (room left : ℕ) → room ≡ left + 1 → inside store room ≡ Some (same_by store (inside store left))
unfolding inside
more_room store room left e = ap (λ n. inside store n) (e ∙ add-one left)

pub also_yes : (v w : Result Bool RunFault) → exact v ≡ Ok true → and_also v w ≡ w
also_yes (Err f) w h = cc
also_yes (Ok true) w h = refl
also_yes (Ok false) w h = cc

pub also_no : (v w : Result Bool RunFault) → exact v ≡ Ok false → exact (and_also v w) ≡ Ok false
also_no (Err f) w h = cc
also_no (Ok true) w h = cc
also_no (Ok false) w h = refl

pub also_fault : (v w : Result Bool RunFault) (f : ThingFault) → exact v ≡ Err f → exact (and_also v w) ≡ Err f
also_fault (Err g) w f h = h
also_fault (Ok true) w f h = cc
also_fault (Ok false) w f h = cc

module _ (store : Store) (s t room : ℕ) where
  pub arrays_too_deep : room ≡ 0 → exact (arrays_by store (inside store room) s t) ≡ Err (Run TooDeepToCompare)
  arrays_too_deep e = ap (λ eq. exact (arrays_by store eq s t)) (no_room store room e)

  pub dicts_too_deep : room ≡ 0 → exact (dicts_by store (inside store room) s t) ≡ Err (Run TooDeepToCompare)
  dicts_too_deep e = ap (λ eq. exact (dicts_by store eq s t)) (no_room store room e)

  -- with room the two arrays are compared
  arrays_open : (left : ℕ) (x y : ArrayView) → room ≡ left + 1 → array_at store s ≡ array_thing x → array_at store t ≡ array_thing y → arrays_by store (inside store room) s t ≡ same_arrays (same_by store (inside store left)) (array_thing x) (array_thing y)
  arrays_open left x y e ex ey = ap (λ eq. arrays_by store eq s t) (more_room store room left e) ∙ (λ k. same_arrays (same_by store (inside store left)) (ex k) (ey k))

  dicts_open : (left : ℕ) (x y : DictView) → room ≡ left + 1 → dict_at store s ≡ dict_thing x → dict_at store t ≡ dict_thing y → dicts_by store (inside store room) s t ≡ same_dicts (same_by store (inside store left)) (dict_thing x) (dict_thing y)
  dicts_open left x y e ex ey = ap (λ eq. dicts_by store eq s t) (more_room store room left e) ∙ (λ k. same_dicts (same_by store (inside store left)) (ex k) (ey k))

  pub other_size_arrays : (left : ℕ) (x y : ArrayView) → room ≡ left + 1 → array_at store s ≡ array_thing x → array_at store t ≡ array_thing y → ¬ (length x.items ≡ length y.items) → arrays_by store (inside store room) s t ≡ Ok false
  other_size_arrays left x y e ex ey ne =
      let apart : ¬ (length (map datum x.items) ≡ length (map datum y.items)) = λ h. ne (sym (length-map x.items datum) ∙ h ∙ length-map y.items datum) in
      arrays_open left x y e ex ey ∙ ap (λ b. if b then same_items (same_by store (inside store left)) (map datum x.items) (map datum y.items) else Ok false) (ne_eqb _ _ apart)

  pub same_size_arrays : (left : ℕ) (x y : ArrayView) → room ≡ left + 1 → array_at store s ≡ array_thing x → array_at store t ≡ array_thing y → length x.items ≡ length y.items → arrays_by store (inside store room) s t ≡ same_items (same_by store (inside store left)) (map datum x.items) (map datum y.items)
  same_size_arrays left x y e ex ey is =
      let sizes : length (map datum x.items) ≡ length (map datum y.items) = length-map x.items datum ∙ is ∙ sym (length-map y.items datum) in
      arrays_open left x y e ex ey ∙ ap (λ b. if b then same_items (same_by store (inside store left)) (map datum x.items) (map datum y.items) else Ok false) (eq-eqb _ _ sizes)

  pub other_size_dicts : (left : ℕ) (x y : DictView) → room ≡ left + 1 → dict_at store s ≡ dict_thing x → dict_at store t ≡ dict_thing y → ¬ (length x.pairs ≡ length y.pairs) → dicts_by store (inside store room) s t ≡ Ok false
  other_size_dicts left x y e ex ey ne =
      let apart : ¬ (length (map pair_datum x.pairs) ≡ length (map pair_datum y.pairs)) = λ h. ne (sym (length-map x.pairs pair_datum) ∙ h ∙ length-map y.pairs pair_datum) in
      dicts_open left x y e ex ey ∙ ap (λ b. if b then same_pairs (same_by store (inside store left)) (map pair_datum x.pairs) (map pair_datum y.pairs) else Ok false) (ne_eqb _ _ apart)

  pub same_size_dicts : (left : ℕ) (x y : DictView) → room ≡ left + 1 → dict_at store s ≡ dict_thing x → dict_at store t ≡ dict_thing y → length x.pairs ≡ length y.pairs → dicts_by store (inside store room) s t ≡ same_pairs (same_by store (inside store left)) (map pair_datum x.pairs) (map pair_datum y.pairs)
  same_size_dicts left x y e ex ey is =
      let sizes : length (map pair_datum x.pairs) ≡ length (map pair_datum y.pairs) = length-map x.pairs pair_datum ∙ is ∙ sym (length-map y.pairs pair_datum) in
      dicts_open left x y e ex ey ∙ ap (λ b. if b then same_pairs (same_by store (inside store left)) (map pair_datum x.pairs) (map pair_datum y.pairs) else Ok false) (eq-eqb _ _ sizes)

module _ (eq : Comparing) where
  -- the elements from place i on, where a and b are those at i
  pub items_here : (xs ys : List Value) (i : ℕ) (a b : Value) → i < length xs → i < length ys → a ≡ get_or xs i a → b ≡ get_or ys i b → same_items eq (map datum (drop i xs)) (map datum (drop i ys)) ≡ and_also (eq (datum a) (datum b)) (same_items eq (map datum (drop (i + 1) xs)) (map datum (drop (i + 1) ys)))
  items_here xs ys i a b hx hy ea eb =
      let here : same_items eq (map datum (drop i xs)) (map datum (drop i ys)) ≡ and_also (eq (datum (get_or xs i a)) (datum (get_or ys i b))) (same_items eq (map datum (drop (suc i) xs)) (map datum (drop (suc i) ys))) =
      λ k. same_items eq (map datum (drop-cons xs i a hx k)) (map datum (drop-cons ys i b hy k)) in
      here ∙ (λ k. and_also (eq (datum (sym ea k)) (datum (sym eb k))) (same_items eq (map datum (drop (sym (add-one i) k) xs)) (map datum (drop (sym (add-one i) k) ys))))

  -- the pairs from place i on, where k and v are those at i
  pub pairs_here : (ps others : List (Key × Value)) (i : ℕ) (k : Key) (v : Value) → Some (k, v) ≡ slice_get ps i → same_pairs eq (map pair_datum (drop i ps)) (map pair_datum others) ≡ and_also (same_at eq (datum v) (option_map datum (value_at others k))) (same_pairs eq (map pair_datum (drop (i + 1) ps)) (map pair_datum others))
  pairs_here ps others i k v e =
      let at : get_or ps i (k, v) ≡ (k, v) = get_or_from_slice_get ps i (k, v) (k, v) (sym e) in
      let cut : drop i ps ≡ (k, v) ∷ drop (i + 1) ps = drop-cons ps i (k, v) (slice_get_within ps i (k, v) (sym e)) ∙ (λ j. at j ∷ drop (sym (add-one i) j) ps) in
      ap (λ qs. same_pairs eq (map pair_datum qs) (map pair_datum others)) cut ∙ ap (λ o. and_also (same_at eq (datum v) o) (same_pairs eq (map pair_datum (drop (i + 1) ps)) (map pair_datum others))) (value_at-meant others k)
