use Rattle.std.proofs.Common.{subst}
use Rattle.gd_model.specs.declared.value.Value.{Value}
use Rattle.rooted_heap.specs.Rooted.{CanHold}
use Rattle.rooted_heap.proofs.Kept.{key_can_hold}
use Rattle.rooted_heap.proofs.rooted.RootedHeap.can_hold_key.Goals as goal

pub returns : goal.returns
returns c = λ passed. key_can_hold c.args.self.now c.args.key.now (subst (λ (x : Value). CanHold c.args.self.now x) c.named_by.ensures.named (c.can_hold.ensures passed))
