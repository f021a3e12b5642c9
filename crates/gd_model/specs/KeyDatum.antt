-- Which value of the language a key of the code is.
use Rattle.gd_model.specs.declared.key.Key.{Key}
use Rattle.gd_model.specs.declared.key.Key.TheVariants.{Nil, Bool, Int, Str, Object}
use Rattle.gd_model.specs.Datum.{Datum, null, bool, int, text, object}

abbrev pub key_datum : Key → Datum
key_datum Nil = null
key_datum (Bool b) = bool b
key_datum (Int n) = int n
key_datum (Str t) = text t
key_datum (Object h) = object h.serial
