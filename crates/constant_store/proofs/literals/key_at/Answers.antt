use Rattle.gd_model.specs.KeyDatum.{key_datum}
use Rattle.constant_store.proofs.Put.{keyed, keyed_not}
use Rattle.constant_store.proofs.literals.key_at.Goals as goal

pub returns-in-Ok : goal.returns-in-Ok
returns-in-Ok c = keyed c.args.v.now c.in-Ok.key c.args.i c.in-Ok.ensures.faults c.in-Ok.ensures.meant

pub returns-in-Err : goal.returns-in-Err
returns-in-Err c = rw c.key_refusal.ensures (keyed_not c.args.v.now c.args.i c.in-Err.fault c.in-Err.ensures.faults)
