use Rattle.std.proofs.Common.{arith, rules}
use Rattle.container_methods.proofs.Arguments.{whole_arg}
use Rattle.container_methods.proofs.dicts.get_or_add.Goals as goal

pub got_or_added-requires-clause-key : goal.got_or_added-requires-clause-key
got_or_added-requires-clause-key g c = whole_arg (g.K.Look.things c.args.look.now) (g.K.Look.names c.args.look.now) c.args.args.now 0 c.k-item.result c.k-item.is (omega arith) c.requires.whole

pub got_or_added-requires-in-len2-clause-key : goal.got_or_added-requires-in-len2-clause-key
got_or_added-requires-in-len2-clause-key g c = whole_arg (g.K.Look.things c.args.look.now) (g.K.Look.names c.args.look.now) c.args.args.now 0 _ (search rules) (omega arith) c.requires.whole

pub got_or_added-requires-in-len2-clause-whole : goal.got_or_added-requires-in-len2-clause-whole
got_or_added-requires-in-len2-clause-whole g c = whole_arg (g.K.Look.things c.args.look.now) (g.K.Look.names c.args.look.now) c.args.args.now 1 _ (search rules) (omega arith) c.requires.whole
