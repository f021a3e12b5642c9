-- What `fill` does, as the method means it.
use Rattle.std.proofs.Common.{◌≡◌, Bool, true, not, List, [], ◌∷◌, length, map, replicate, Ok, ap, sym, ◌∙◌}
use Rattle.gd_model.specs.declared.fault.RunFault.TheVariants.{ValueOfAnotherType}
use Rattle.gd_model.specs.declared.value.Value.{Value}
use Rattle.gd_model.specs.declared.value.Value.TheVariants.{Nil}
use Rattle.gd_model.specs.Datum.{Datum}
use Rattle.gd_model.specs.Meant.{datum, array_thing}
use Rattle.gd_model.specs.Store.{ArrayThing}
use Rattle.gd_model.specs.View.{ArrayView}
use Rattle.store_semantics.specs.Subscripts.{unless}
use Rattle.store_semantics.specs.Writes.{Written, filled, silent}
use Rattle.container_methods.specs.declared.array_change.ArrayChange.{ArrayChange}
use Rattle.container_methods.specs.Arrays.{answer, items_after, made}
use Rattle.container_methods.proofs.Elements.{fill-map}

module _ (a : ArrayView) (fits : Datum → Bool) (x : Value) where
  abbrev all : List Datum
  all = map (λ y. datum x) (map datum a.items)

  abbrev fill_if : Bool → Written ArrayThing
  fill_if fit = silent (unless ((not fit, ValueOfAnotherType) ∷ []) (record (array_thing a) { items = all }))

  pub filled_given : (change : ArrayChange) → fits (datum x) ≡ true → items_after change a.items ≡ replicate (length a.items) x → answer change a.items ≡ Nil → filled fits (array_thing a) (datum x) ≡ Ok (made a change)
  filled_given change e is quiet =
      let same = fill-map datum a.items x ∙ ap (map datum) (sym is) in
      ap fill_if e ∙ (λ i. Ok (record (array_thing a) { items = same i }, datum (sym quiet i)))
