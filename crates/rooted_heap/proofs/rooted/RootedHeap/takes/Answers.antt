use Rattle.std.proofs.Common.{ap, ◌∙◌, sym}
use Rattle.rooted_heap.specs.Rooted.{RootedView, thing_at}
use Rattle.rooted_heap.proofs.Seen.{thing_is_value}
use Rattle.rooted_heap.proofs.rooted.RootedHeap.takes.Goals as goal

pub returns-then-fits : goal.returns-then-fits
returns-then-fits c = λ yes. record {
  was = c.in-Some.thing.now;
  was_is = ap (λ (w : RootedView). thing_at w.things c.args.h) (sym c.self.view_is) ∙ thing_is_value 0 c.self.inside.heap.things c.args.h c.rising_law.ensures ∙ sym c.in-Some.ensures;
  fits = c.fits.ensures c.if-fits.true;
  held = c.can_bring.ensures yes;
}
