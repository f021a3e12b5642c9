use Rattle.std.proofs.Common.{◌≡◌, w64}
use Rattle.std.specs.Int.{int_wrap}
use Rattle.gd_model.specs.Meant.{array_thing}
use Rattle.value_semantics.specs.Ranges.{range_array}
use Rattle.gd_builtins.proofs.Ranges.{int_after}
use Rattle.gd_builtins.proofs.makers.range.Given as goal

-- the ints so far, and the one behind them, which counts only where there is another
abbrev pub invariant-loop-turn : goal.invariant-loop-turn
invariant-loop-turn l = (array_thing l.all ≡ range_array l.first l.step l._turn) × (l.next ≡ int_wrap w64 (int_after l.first l.step l._turn))
