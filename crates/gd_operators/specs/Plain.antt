-- What the operators on ints give.
use Rattle.gd_model.specs.Datum as d
use Rattle.gd_model.specs.Datum.{Datum}
use Rattle.gd_operators.specs.declared.ints.Plain.{Plain}
use Rattle.gd_operators.specs.declared.ints.Plain.TheVariants.{Int, Bool}

abbrev pub plain : Plain → Datum
plain (Int n) = d.int n
plain (Bool b) = d.bool b
