use Rattle.std.proofs.Common.{◌≡◌, Some, sym, ◌∙◌, rules, arith, refl}
use Rattle.counted_heap.proofs.Taken.{first_unheld, sound_taken, first_serial}
use Rattle.counted_heap.proofs.heap.Heap.take_out.Goals as goal

pub unwrap-thing-requires : goal.unwrap-thing-requires
unwrap-thing-requires g c =
    let first = first_unheld c.self.invariant c.pop.new.self.items c.in_ok-h.h c.in_ok-h.ensures.items in
    rw (c.take.ensures.taken, first.3) (search rules)

pub invariant_of-self-2 : goal.invariant_of-self-2
invariant_of-self-2 g c =
    let first = first_unheld c.self.invariant c.pop.new.self.items c.in_ok-h.h c.in_ok-h.ensures.items in
    rw (c.take.ensures.things, c.take.ensures.last)
    (sound_taken c.self.invariant c.pop.new.self.items c.in_ok-h.h first.0 c.in_ok-h.ensures.items first.1 first.2 _ (omega (arith, c.in_ok-h.ensures.capacity)))

pub returns-clause-some : goal.returns-clause-some
returns-clause-some g c =
    let first = first_unheld c.self.invariant c.pop.new.self.items c.in_ok-h.h c.in_ok-h.ensures.items in
    let value : Some c.unwrap-thing.result ≡ Some first.0.value = sym c.unwrap-thing.ensures ∙ c.take.ensures.taken ∙ first.3 in
    rw (← c.self.view_is) (record {
      thing = first.0;
      found = first.1;
      unheld = first.2;
      value_is = cc;
      first = first_serial c.self.inside.round.items c.pop.new.self.items c.in_ok-h.h c.in_ok-h.ensures.items;
      things_are = c.take.ensures.things;
      made_stays = refl;
    })
