use Rattle.std.proofs.Common.{◌≡◌, ◌+◌, ◌<◌, length, map}
use Rattle.gd_names.specs.Builtins.{number_in}
use Rattle.script_table.proofs.builtins.number_in.Given as goal

abbrev pub invariant-loop-words : goal.invariant-loop-words
invariant-loop-words l = (number_in l.number (map (λ w. w.now) l.words) l.name ≡ number_in l.fn.first (map (λ w. w.now) l.fn.words) l.name)
    × (l.number + length l.words < 65536)

abbrev pub decreases-loop-words : goal.decreases-loop-words
decreases-loop-words l = length l.words
