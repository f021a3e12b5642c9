-- Which values are keys, and when no key comes twice.
use Rattle.std.specs.Prelude.{List, Option, None, Some}
use Rattle.std.specs.List.{IsDistinct}
use Rattle.std.specs.Map.{keys_of}
use Rattle.gd_model.specs.declared.fault.RunFault.{RunFault}
use Rattle.gd_model.specs.declared.fault.RunFault.TheVariants.{BadKey}
use Rattle.gd_model.specs.declared.key.Key.{Key}
use Rattle.gd_model.specs.declared.value.Value.{Value}
use Rattle.gd_model.specs.declared.value.Value.TheVariants as v
use Rattle.gd_model.specs.Key.{one_key}

-- the fault where a value is asked for as a key
abbrev pub key_fault : Value → Option RunFault
key_fault (v.Array h) = Some BadKey
key_fault (v.Dict h) = Some BadKey
key_fault (v.Callable t) = Some BadKey
key_fault (v.Signal s) = Some BadKey
key_fault _ = None

-- no two of these pairs have one key
abbrev pub DistinctKeys : List (Key × Value) → Type 0
DistinctKeys pairs = IsDistinct one_key (keys_of pairs)
