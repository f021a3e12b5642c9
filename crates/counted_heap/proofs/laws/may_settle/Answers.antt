use Rattle.gd_holding.specs.Holding.{filled}
use Rattle.counted_heap.proofs.Holders.{counted}
use Rattle.counted_heap.proofs.laws.may_settle.Goals as goal

pub returns : goal.returns
returns g c = λ es hand held. counted (λ (t : g.row.T.Denot). filled (g.T.Holds.places t)) es hand held
