-- Attributes of values of constants.
use Rattle.std.specs.Prelude.{ℕ, List, Result, Err}
use Rattle.gd_model.specs.declared.fault.RunFault.{RunFault}
use Rattle.gd_model.specs.declared.fault.RunFault.TheVariants.{NullReceiver, NoSuchMember}
use Rattle.gd_model.specs.Datum.{Datum, null, text, dictionary}
use Rattle.gd_model.specs.Store.{Store, dict_at}
use Rattle.store_semantics.specs.Subscripts.{entry}

-- only a dictionary has attributes: its value at the name as a String
abbrev pub attribute : Store → Datum → List ℕ → Result Datum RunFault
attribute store (dictionary s) name = entry (dict_at store s) (text name)
attribute store null name = Err NullReceiver
attribute store base name = Err NoSuchMember
