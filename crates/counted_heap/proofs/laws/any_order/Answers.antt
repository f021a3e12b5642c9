use Rattle.gd_holding.specs.Holding.{filled}
use Rattle.counted_heap.proofs.Holders.{any_order}
use Rattle.counted_heap.proofs.laws.any_order.Goals as goal

pub returns : goal.returns
returns g c = λ es hand left moves held. any_order (λ (t : g.row.T.Denot). filled (g.T.Holds.places t)) es hand left moves held
