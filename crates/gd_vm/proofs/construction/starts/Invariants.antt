use Rattle.std.proofs.Common.{◌≡◌, None}
use Rattle.std.specs.List.{All}
use Rattle.gd_holding.specs.Handles.{value_handle}
use Rattle.gd_vm.proofs.construction.starts.Given as goal

-- none of the values so far names a thing
abbrev pub invariant-loop-typed : goal.invariant-loop-typed
invariant-loop-typed l = All (λ x. value_handle x ≡ None) l.values.items
