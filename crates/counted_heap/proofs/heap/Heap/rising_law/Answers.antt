use Rattle.std.proofs.Common.{List, ap, subst}
use Rattle.slot_arena.specs.Slots.{Entry}
use Rattle.counted_heap.specs.Heap.{RisesFrom, serials}
use Rattle.counted_heap.proofs.heap.Heap.rising_law.Goals as goal

pub returns : goal.returns
returns g c = subst (λ (es : List (Entry g.row.T.Denot)). RisesFrom 0 (serials es)) (ap (λ v. v.things) c.self.view_is) c.self.invariant.rising
