use Rattle.std.proofs.Common.{◌≡◌}
use Rattle.gd_vm.specs.declared.ending.End.TheVariants as ending
use Rattle.gd_vm.proofs.vm.Vm.go_on.Given as goal

abbrev pub invariant-loop : goal.invariant-loop
invariant-loop l = l.self.end ≡ ending.None
