use Rattle.std.proofs.Common.{List, ap, ◌∙◌, false}
use Rattle.gd_model.specs.declared.value.Value.{Value}
use Rattle.std.specs.List.{slice_range}
use Rattle.gd_model.specs.View.{ArrayView}
use Rattle.gd_containers.proofs.Items.{slice_range-clamped}
use Rattle.gd_containers.proofs.array.TypedArray.slice.Goals as goal

pub returns-clause-made : goal.returns-clause-made
returns-clause-made c =
    let long = c.self.inside.items.ok.0 in
    let items =
    slice_range-clamped c.self.inside.items.items _ c.in_ok-items.items.items c.args.from c.args.to c.len.result c.len-2.result c.clamped_place-first.result c.clamped_place-end.result c.min.result c.ranges.from c.ranges.to
    (ap (λ (a : ArrayView). a.items) c.self.view_is) (c.len.ensures ∙ long) (c.len-2.ensures ∙ long) c.clamped_place-first.ensures.value c.clamped_place-end.ensures.value c.min.ensures
    (c.in_ok-items.ensures ∙ ap (λ (xs : List Value). slice_range xs c.min.result c.clamped_place-end.result) c.as_slice.ensures.value) in
    let element = c.in_ok-element.ensures ∙ ap (λ (a : ArrayView). a.element) c.self.view_is in
    λ k. record { element = element k; fixed = false; items = items k }
