use Rattle.std.proofs.Common.{ap, ◌∙◌, sym, is_some}
use Rattle.rooted_heap.specs.Rooted.{RootedView, thing_at}
use Rattle.rooted_heap.proofs.Seen.{thing_is_value}
use Rattle.rooted_heap.proofs.Read.{copied_some}
use Rattle.rooted_heap.proofs.rooted.RootedHeap.is_alive.Goals as goal

pub returns : goal.returns
returns c =
    c.is_some.ensures ∙ copied_some c.read.result ∙ ap is_some (c.read.ensures ∙ sym (thing_is_value 0 c.self.inside.heap.things c.args.h c.rising_law.ensures))
    ∙ ap (λ (w : RootedView). is_some (thing_at w.things c.args.h)) c.self.view_is
