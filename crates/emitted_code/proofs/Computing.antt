-- What a trial computes with, so that it names one definition.
use Rattle.std.specs.Prelude.{⊤}
use Rattle.std.specs.Fmt.{digits}
use lib.Utf8
use denote.Hole.Carrier
use Rattle.gd_model.specs.declared.ty.Ty.TheViews.{out-Ty}
use Rattle.gd_text.specs.Reading.{conversion_of, read_behind, read_conversion, read_piece}
use Rattle.store_semantics.specs.Holding.{rounds}
use Rattle.value_semantics.specs.Equality as equality
use Rattle.value_semantics.specs.Printed as printed
use Rattle.source_semantics.specs.Expressions.{evaluate}
use Rattle.source_semantics.specs.Matching.{match_pattern}
use Rattle.source_semantics.specs.Running.{meaning}
use Rattle.source_semantics.specs.Statements.{execute, for_loop, while_loop}
use Rattle.emitted_code.specs.Expressions.{code}
use Rattle.emitted_code.specs.Statements.{statements}

unfoldable pub computes : ⊤
unfolding conversion_of digits read_behind read_conversion read_piece lib.Utf8.encode rounds equality.inside
    printed.inside evaluate match_pattern meaning execute for_loop while_loop code statements
    out-Ty denote.Hole.Carrier.out
computes = tt
