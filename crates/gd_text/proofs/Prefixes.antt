-- The longest front of a list whose elements pass a test.
use Rattle.std.proofs.lemmas.List.Folds.{length-prefix_len}
use Rattle.std.proofs.lemmas.List.Sums.{prefix_len-le-length}

pub ruleset prefix_counts = (length-prefix_len, prefix_len-le-length)
