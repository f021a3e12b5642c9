use Rattle.std.proofs.Common.{◌≡◌, ◌+◌, option_map, drop}
use Rattle.gd_text.specs.Search.{first_at}
use Rattle.gd_text.proofs.search.find_from.Given as goal

abbrev pub invariant-loop-at : goal.invariant-loop-at
invariant-loop-at l = option_map (λ i. l.from + i) (first_at l.what (drop l.from l.chars)) ≡ option_map (λ i. l.at + i) (first_at l.what (drop l.at l.chars))
