use Rattle.std.proofs.Common.{arith}
use Rattle.gd_builtins.proofs.Arguments.{whole_first}
use Rattle.gd_builtins.proofs.dict_methods.call_find_key.Goals as goal

pub found_key-requires-clause-whole : goal.found_key-requires-clause-whole
found_key-requires-clause-whole g c = whole_first (g.K.Look.things c.args.look.now) (g.K.Look.names c.args.look.now) c.args.args.now c.v-item.result c.v-item.is (omega arith) c.requires.whole
