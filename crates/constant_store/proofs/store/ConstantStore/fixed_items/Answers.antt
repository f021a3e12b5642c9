use Rattle.constant_store.proofs.Read.{item_held_at}
use Rattle.constant_store.proofs.store.ConstantStore.fixed_items.Goals as goal

pub fixed-requires : goal.fixed-requires
fixed-requires c = item_held_at c.args.self.now c.args.items.now c.loop-i.i c.index-items-i.result c.loop-i-test.true c.index-items-i.is c.requires
