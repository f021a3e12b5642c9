use Rattle.std.proofs.Common.{◌≡◌, ℕ, ◌+◌, ◌-◌, ◌<◌, sym, ◌∙◌, subst, arith}
use Rattle.assignability.specs.Assign.{is_among}
use Rattle.gd_vm.specs.Parents.{bases_of}
use Rattle.gd_vm.proofs.Bases.{left, passed}
use Rattle.gd_vm.proofs.parents.ParentsBases.is_base.Goals as goal

pub loop-preserved : goal.loop-preserved
loop-preserved c =
    let ps = c.args.self.now.of.items in
    let base = c.args.base in
    let n = c.len-end.result in
    let k = c.loop.counter in
    let more : k < n = omega arith in
    let some : 0 < c.loop.at = omega arith in
    let other : c.loop.at ≡ base → ⊥ = λ same. omega arith in
    subst (λ (p : ℕ). left ps base (n - (k + 1)) p ≡ is_among (bases_of ps c.args.class) base)
    (sym c.parent-at.ensures)
    (passed n k ps c.loop.at base more some other ∙ c.loop.invariant)
