use Rattle.gd_holding.specs.Holding.{filled}
use Rattle.counted_heap.proofs.Holders.{in_hand}
use Rattle.counted_heap.proofs.laws.in_hand.Goals as goal

pub returns : goal.returns
returns g c = λ es hand h held there. in_hand (λ (t : g.row.T.Denot). filled (g.T.Holds.places t)) es hand h held there
