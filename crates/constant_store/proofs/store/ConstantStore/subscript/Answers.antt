use Rattle.gd_model.specs.Meant.{datum}
use Rattle.store_semantics.specs.Subscripts.{subscript}
use Rattle.constant_store.specs.Things.{store_of}
use Rattle.constant_store.proofs.Operate.{answer_held}
use Rattle.constant_store.proofs.Sound.{subscript_held}
use Rattle.constant_store.proofs.store.ConstantStore.subscript.Goals as goal

pub returns-clause-held : goal.returns-clause-held
returns-clause-held c =
    answer_held c.args.self.now (subscript (store_of c.args.self.now) (datum c.args.base.now) (datum c.args.index.now)) c.element_of.result
    (subscript_held c.args.self.now c.allocator-alloc.ensures.closed (datum c.args.base.now) (datum c.args.index.now)) c.element_of.ensures
