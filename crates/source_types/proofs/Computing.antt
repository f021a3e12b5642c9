-- What trials compute with, so that each names one definition.
use Rattle.std.specs.Prelude.{⊤}
use lib.Utf8
use Rattle.source_types.specs.Constancy.{is_fixed}
use Rattle.source_types.specs.Judging.{judge}

unfoldable pub computes : ⊤
unfolding lib.Utf8.encode judge is_fixed
computes = tt
