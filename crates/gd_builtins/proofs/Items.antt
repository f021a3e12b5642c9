-- Elements and slices of arrays, as the language means them.
use Rattle.std.proofs.Common.{◌≡◌, ℕ, false, List, length, map, Option, option_map, Result, Ok, ℤ, ap, sym, ◌∙◌}
use Rattle.std.specs.List.{slice_range}
use Rattle.std.proofs.lemmas.List.{length-map}
use Rattle.gd_model.specs.declared.fault.RunFault.{RunFault}
use Rattle.gd_model.specs.declared.value.Value.{Value}
use Rattle.gd_model.specs.Meant.{datum, array_thing}
use Rattle.gd_model.specs.Place.{clamped, element_at}
use Rattle.gd_model.specs.Store.{ArrayThing}
use Rattle.gd_model.specs.View.{ArrayView}
use Rattle.gd_containers.specs.Answers.{item_at}
use Rattle.gd_containers.proofs.Cuts.{element_at-map, slice_range-map}
use Rattle.value_semantics.specs.Made.{Made, array}
use Rattle.value_semantics.specs.Methods.{item_or_null, sliced}

-- the element that is there
pub item_given : (items : List Value) (at : ℤ) (found : Option Value) → item_at items at ≡ found → element_at (map datum items) at ≡ option_map datum found
item_given items at found e = element_at-map datum items at ∙ ap (option_map datum) e

-- a new array that is to be given
abbrev array_wanted : ArrayThing → Result Made RunFault
array_wanted a = Ok (array a)

pub slice_given : (a made : ArrayView) (from to first end : ℤ) → first ≡ from → end ≡ to → made ≡ record { element = a.element; fixed = false; items = slice_range a.items (clamped first (length a.items)) (clamped end (length a.items)) } → array_wanted (sliced (array_thing a) (from, to)) ≡ array_wanted (array_thing made)
slice_given a made from to first end ef et e =
    let n = length a.items in
    let items : slice_range (map datum a.items) (clamped from (length (map datum a.items))) (clamped to (length (map datum a.items))) ≡ map datum (slice_range a.items (clamped from n) (clamped to n)) =
    ap (λ m. slice_range (map datum a.items) (clamped from m) (clamped to m)) (length-map a.items datum) ∙ slice_range-map datum a.items (clamped from n) (clamped to n) in
    let same : made ≡ record { element = a.element; fixed = false; items = slice_range a.items (clamped from n) (clamped to n) } =
    e ∙ (λ i. record { element = a.element; fixed = false; items = slice_range a.items (clamped (ef i) n) (clamped (et i) n) }) in
    (λ i. array_wanted (record { element = a.element; fixed = false; items = items i })) ∙ ap (λ b. array_wanted (array_thing b)) (sym same)
