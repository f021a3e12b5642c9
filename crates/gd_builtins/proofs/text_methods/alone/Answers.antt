use Rattle.std.proofs.Common.{Some}
use Rattle.gd_text.specs.Text.{stripped}
use Rattle.gd_builtins.proofs.text_methods.alone.Goals as goal

pub returns-in-StringStripEdges : goal.returns-in-StringStripEdges
returns-in-StringStripEdges c = rw c.in-StringStripEdges.is (c.text.ensures (Some (stripped c.args.a.now)) c.strip.ensures)
