use Rattle.std.proofs.Common.{refl}
use Rattle.store_semantics.specs.Holding.{rounds}
use Rattle.store_semantics.specs.Matching.{tried, elements_tried, entries_tried}
use Rattle.store_semantics.proofs.trials.Goals as goal

pub returns-clause-rounds : goal.returns-clause-rounds
unfolding rounds
returns-clause-rounds c = refl

pub returns-clause-stays : goal.returns-clause-stays
unfolding rounds
returns-clause-stays c = refl

pub returns-clause-ring : goal.returns-clause-ring
unfolding rounds
returns-clause-ring c = refl

pub returns-clause-branch : goal.returns-clause-branch
unfolding tried elements_tried entries_tried
returns-clause-branch c = refl
