use Rattle.std.proofs.Common.{◌≡◌, ◌-◌}
use Rattle.gd_bytecode.specs.MainClass.{nearest_test, test_of}
use Rattle.gd_bytecode.proofs.main_class.test_of.Given as goal

abbrev pub invariant-loop-step : goal.invariant-loop-step
invariant-loop-step l = test_of l.program ≡ nearest_test (l.count - l.step) l.program l.at
