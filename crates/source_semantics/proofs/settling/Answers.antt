use Rattle.source_semantics.proofs.Settled.{asks_among, leaves_held, more_held, stays_settled}
use Rattle.source_semantics.proofs.settling.Goals as goal

pub returns-clause-leaves : goal.returns-clause-leaves
returns-clause-leaves c = leaves_held

pub returns-clause-stays : goal.returns-clause-stays
returns-clause-stays c = stays_settled

pub returns-clause-among : goal.returns-clause-among
returns-clause-among c = asks_among

pub returns-clause-more : goal.returns-clause-more
returns-clause-more c = more_held
