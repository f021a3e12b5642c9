-- Which faults of a run the faults of literals are.
use Rattle.std.specs.Prelude.{Option, None, Some}
use Rattle.gd_model.specs.declared.fault.RunFault.{RunFault}
use Rattle.gd_model.specs.declared.fault.RunFault.TheVariants as run
use Rattle.constant_store.specs.declared.literals.LiteralFault.{LiteralFault}
use Rattle.constant_store.specs.declared.literals.LiteralFault.TheVariants.{Element, BadKey, Key, Value, TooLong, NoMemory}

abbrev pub run_fault : LiteralFault → Option RunFault
run_fault (Element place) = Some run.ValueOfAnotherType
run_fault (Key place) = Some run.ValueOfAnotherType
run_fault (Value place) = Some run.ValueOfAnotherType
run_fault (BadKey place) = Some run.BadKey
run_fault TooLong = Some run.TooLong
run_fault NoMemory = None
