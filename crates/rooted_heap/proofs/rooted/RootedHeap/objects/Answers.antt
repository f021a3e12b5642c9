use Rattle.std.proofs.Common.{ap, ◌∙◌, arith, filter_map}
use Rattle.std.proofs.lemmas.List.{take_all}
use Rattle.rooted_heap.specs.Reading.{object_at}
use Rattle.rooted_heap.proofs.Listed.{objects_listed, objects_step}
use Rattle.rooted_heap.proofs.rooted.RootedHeap.objects.Goals as goal

pub loop-h-preserved : goal.loop-h-preserved
loop-h-preserved c =
    objects_step c.args.self.now.things c.deref-h-items.result.now c.loop-h.h-index _ _ _ _ (omega (arith, c.loop-h-test.true)) c.loop-h.invariant c.class_of.ensures c.in_ok-note.ensures

pub returns : goal.returns
returns c =
    c.loop-h.invariant
    ∙ ap (filter_map (object_at c.args.self.now.things)) (take_all c.loop-h.h-index c.deref-h-items.result.now (omega (arith, c.loop-h-test.false)) ∙ c.deref-h-items.ensures.value)
    ∙ objects_listed c.self.inside.heap.things c.args.self.now.things c.in_ok-handles.handles.items (ap (λ w. w.things) c.self.view_is) c.rising_law.ensures c.in_ok-handles.ensures.all c.in_ok-handles.ensures.rising
