use Rattle.std.proofs.Common.{◌-◌, List, ap, ◌∙◌, sym, subst, map, take, drop, length}
use Rattle.std.specs.List.{All}
use Rattle.std.proofs.lemmas.List.Elements.{All-take, All-drop}
use Rattle.gd_model.specs.declared.value.Value.{Value}
use Rattle.rooted_heap.specs.Rooted.{bare, IsThere}
use Rattle.rooted_heap.proofs.Wholes.{all_whole, all_lent_whole}
use Rattle.rooted_heap.proofs.rooted.RootedHeap.last_values.Goals as goal

pub returns-clause-whole : goal.returns-clause-whole
returns-clause-whole c =
    let P = IsThere (map bare c.self.inside.heap.things) c.self.inside.names in
    let all = take c.self.inside.top c.as_slice.result.now in
    let from = c.self.inside.top - c.args.count in
    let there = subst (λ (l : List Value). All P (take c.self.inside.top l)) (sym c.as_slice.ensures.value) c.self.invariant.held.whole.outside in
    all_lent_whole c.things.result (map bare c.self.inside.heap.things) c.self.inside.names (take (length all - from) (drop from all))
    (c.things.ensures.things ∙ sym (ap (λ w. w.things) c.self.view_is))
    (c.things.ensures.names ∙ sym (ap (λ w. w.names) c.self.view_is))
    (all_whole c.self.invariant.held.whole (take (length all - from) (drop from all)) (All-take P (length all - from) (drop from all) (All-drop P from all there)))
