use Rattle.std.proofs.Common.{◌≡◌, ◌-◌, [], ◌∷◌, ◌++◌}
use Rattle.assignability.specs.Assign.{is_among}
use Rattle.gd_vm.specs.Parents.{bases_of, up}
use Rattle.gd_vm.proofs.parents.ParentsBases.is_base.Given as goal

-- the base is among those that are left exactly where it is among all
abbrev pub invariant-loop : goal.invariant-loop
invariant-loop l =
    let parents = l.self.of.items in
    is_among (up (l.end - l.counter) parents l.at ++ 0 ∷ []) l.base ≡ is_among (bases_of parents l.class) l.base
