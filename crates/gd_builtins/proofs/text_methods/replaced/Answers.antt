use Rattle.std.proofs.Common.{Some}
use Rattle.gd_text.specs.Search.{replaced}
use Rattle.gd_builtins.proofs.text_methods.replaced.Goals as goal

pub returns : goal.returns
returns c = c.text.ensures (Some (replaced c.args.a.now c.args.what.now c.args.with.now)) c.replace.ensures
