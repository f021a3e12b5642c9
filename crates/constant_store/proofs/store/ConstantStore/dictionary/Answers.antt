use Rattle.gd_model.specs.Meant.{dict_thing}
use Rattle.gd_model.specs.Store as thing
use Rattle.constant_store.proofs.Literal.{dict_held}
use Rattle.constant_store.proofs.store.ConstantStore.dictionary.Goals as goal

pub keep-requires : goal.keep-requires
keep-requires c = dict_held c.args.self.now c.args.key c.args.value c.args.pairs.now (thing.dict (dict_thing c.in_ok-dict.dict)) c.requires c.in_ok-dict.ensures
