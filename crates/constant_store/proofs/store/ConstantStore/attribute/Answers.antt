use Rattle.gd_model.specs.Meant.{datum}
use Rattle.constant_store.specs.Reading.{attribute}
use Rattle.constant_store.specs.Things.{store_of}
use Rattle.constant_store.proofs.Operate.{answer_held}
use Rattle.constant_store.proofs.Sound.{attribute_held}
use Rattle.constant_store.proofs.store.ConstantStore.attribute.Goals as goal

pub returns-clause-held : goal.returns-clause-held
returns-clause-held c =
    answer_held c.args.self.now (attribute (store_of c.args.self.now) (datum c.args.base.now) c.args.name.now) c.member_of.result
    (attribute_held c.args.self.now c.allocator-alloc.ensures.closed (datum c.args.base.now) c.args.name.now) c.member_of.ensures
