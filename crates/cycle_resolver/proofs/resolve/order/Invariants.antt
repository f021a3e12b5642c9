use Rattle.std.proofs.Common.{◌≡◌, ◌+◌, ◌*◌, length, []}
use Rattle.cycle_resolver.proofs.Walking.{IsUnderWay, unmet_count}
use Rattle.cycle_resolver.proofs.resolve.order.Given as goal

abbrev pub invariant-loop-item : goal.invariant-loop-item
invariant-loop-item g l = IsUnderWay (g.U.Unfold.needs l.fn.visitor) (g.U.Unfold.needs l.visitor) l.fn.items (g.U.Unfold.settled l.fn.visitor) (g.U.Unfold.settled l.visitor) l.walk l.item-index × (l.walk.path.items ≡ [])

abbrev pub invariant-loop-top : goal.invariant-loop-top
invariant-loop-top g l = IsUnderWay (g.U.Unfold.needs l.fn.visitor) (g.U.Unfold.needs l.visitor) l.fn.items (g.U.Unfold.settled l.fn.visitor) (g.U.Unfold.settled l.visitor) l.walk (l.item-index + 1)

abbrev pub decreases-loop-top : goal.decreases-loop-top
decreases-loop-top g l = 2 * unmet_count l.fn.items l.walk + length l.walk.path.items
