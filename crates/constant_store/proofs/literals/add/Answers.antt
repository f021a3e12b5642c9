use Rattle.std.proofs.Common.{List, ℕ, map}
use Rattle.gd_model.specs.Meant.{pair_datum}
use Rattle.constant_store.proofs.Put.{placed_in, placed_not}
use Rattle.constant_store.proofs.literals.add.Goals as goal

pub returns-clause-put : goal.returns-clause-put
returns-clause-put c = placed_in c.args.dict.now c.put.new.self c.args.key c.args.value c.requires c.in-Ok.ensures.faults c.in-Ok.ensures.ok

pub returns-in-Err-clause-put : goal.returns-in-Err-clause-put
returns-in-Err-clause-put c = rw c.put_refusal.ensures (placed_not {B = Unit {0}} (λ done. map pair_datum c.put.new.self.pairs) c.args.dict.now c.args.key c.args.value c.in-Err.fault c.requires c.in-Err.ensures.faults)
