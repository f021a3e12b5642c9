-- Values that are copied without sharing anything.
use Rattle.std.specs.Prelude.{Option, None, Some}
use Rattle.gd_model.specs.declared.value.Value.{Value}
use Rattle.gd_model.specs.declared.value.Value.TheVariants.{Str, Callable, Signal}

abbrev pub plain_copy : Value → Option Value
plain_copy (Str t) = None
plain_copy (Callable t) = None
plain_copy (Signal s) = None
plain_copy v = Some v
