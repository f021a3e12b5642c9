use Rattle.std.proofs.Common.{◌≡◌, drop}
use Rattle.gd_bytecode.specs.MainClass.{own_test, first_test}
use Rattle.gd_bytecode.proofs.main_class.own_test.Given as goal

abbrev pub invariant-loop-method : goal.invariant-loop-method
invariant-loop-method l = own_test l.fn.program l.fn.class ≡ first_test l.fn.program (drop l.method-index l.methods)
