use Rattle.std.proofs.Common.{refl}
use Rattle.std.specs.Option.{option_copied}
use Rattle.gd_builtins.proofs.Keys.{has_given}
use Rattle.gd_builtins.proofs.dict_methods.has.Goals as goal

pub returns : goal.returns
returns c =
    rw c.boolean.ensures (has_given c.args.d.now c.args.k.now c.in_ok-key.key (option_copied c.get.result) c.in_ok-key.ensures.faults c.in_ok-key.ensures.meant c.get.ensures c.get.result c.is_some.result refl c.is_some.ensures)
