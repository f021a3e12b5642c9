use Rattle.gd_holding.specs.Holding.{filled}
use Rattle.counted_heap.proofs.Holders.{all_held}
use Rattle.counted_heap.proofs.laws.all_held.Goals as goal

pub returns : goal.returns
returns g c = λ es hand e held none there. all_held (λ (t : g.row.T.Denot). filled (g.T.Holds.places t)) es hand e held none there
