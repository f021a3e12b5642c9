use Rattle.std.proofs.Common.{arith, rules}
use Rattle.gd_builtins.proofs.Arguments.{whole_first}
use Rattle.gd_builtins.proofs.array_methods.call_find.Goals as goal

pub place_found-requires-clause-whole : goal.place_found-requires-clause-whole
place_found-requires-clause-whole g c =
    whole_first (g.K.Look.things c.args.look.now) (g.K.Look.names c.args.look.now) c.args.args.now c.v-item.result c.v-item.is (omega arith) c.requires.whole

pub place_found-requires-in-Int-clause-whole : goal.place_found-requires-in-Int-clause-whole
place_found-requires-in-Int-clause-whole g c =
    whole_first (g.K.Look.things c.args.look.now) (g.K.Look.names c.args.look.now) c.args.args.now _ (search rules) (omega arith) c.requires.whole
