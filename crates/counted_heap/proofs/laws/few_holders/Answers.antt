use Rattle.gd_holding.specs.Holding.{filled}
use Rattle.counted_heap.proofs.Holders.{few_holders}
use Rattle.counted_heap.proofs.laws.few_holders.Goals as goal

pub returns : goal.returns
returns g c = λ es hand h held few n is. few_holders (λ (t : g.row.T.Denot). filled (g.T.Holds.places t)) es hand h _ held few n is
