-- What a hasher reads of a key.
use Rattle.std.specs.Prelude.{[]}
use Rattle.std.specs.Hash as fed
use Rattle.std.specs.Hash.{HashWrites, Alike}
use Rattle.std.proofs.Common.{ap}
use Rattle.gd_model.specs.declared.key.Key.{Key}
use Rattle.gd_model.specs.Datum.{Datum, null, bool, int, text, object}
use Rattle.gd_model.specs.Key.{one_key, one_key-Decides}
use Rattle.gd_model.specs.KeyDatum.{key_datum}

abbrev pub hash_input : Datum → HashWrites
hash_input null = fed.u8 0
hash_input (bool b) = fed.bool b
hash_input (int n) = fed.i64 n
hash_input (text t) = fed.slice fed.char t
hash_input (object s) = fed.u64 s
hash_input _ = []

abbrev pub key_hash_input : Key → HashWrites
key_hash_input k = hash_input (key_datum k)

pub keys_fed_alike : Alike one_key key_hash_input
keys_fed_alike = record { fed = λ x y h. ap hash_input ((one_key-Decides x y).0 h) }
