use Rattle.source_types.proofs.Growing.{known_stays, seen_stays, step_stays}
use Rattle.source_types.proofs.Total.{all_seen}
use Rattle.source_types.proofs.more_known.Goals as goal

pub returns-clause-seen : goal.returns-clause-seen
returns-clause-seen c = seen_stays

pub returns-clause-step : goal.returns-clause-step
returns-clause-step c = step_stays

pub returns-clause-known : goal.returns-clause-known
returns-clause-known c = known_stays

pub returns-clause-all : goal.returns-clause-all
returns-clause-all c = all_seen
