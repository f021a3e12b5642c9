use Rattle.std.proofs.Common.{List, ◌∷◌, refl, sym, subst}
use Rattle.std.specs.List.{All}
use Rattle.std.proofs.lemmas.List.Elements.{All-cons}
use Rattle.gd_model.specs.declared.key.Key.{Key}
use Rattle.gd_model.specs.declared.value.Value.{Value}
use Rattle.gd_model.specs.Whole.{key_value, pair_values}
use Rattle.rooted_heap.specs.Rooted.{CanHold}
use Rattle.rooted_heap.proofs.rooted.RootedHeap.can_hold_pairs.Goals as goal

pub loop-key-preserved : goal.loop-key-preserved
loop-key-preserved c = λ rest.
    let P = CanHold c.args.self.now in
    let left = c.next.new.self in
    c.loop-key.invariant
    (subst (λ (l : List (Key × Value)). All P (pair_values l)) (sym c.in-Some.ensures.steps)
    (All-cons P (key_value c.in-Some.key.now) (c.in-Some.value.now ∷ pair_values left) (c.if-not-can_hold_key.ensures refl)
    (All-cons P c.in-Some.value.now (pair_values left) (c.if-not-can_hold.ensures refl) rest)))
