use Rattle.std.proofs.Common.{◌^◌, ◌<◌, ap, ◌∙◌, arith}
use Rattle.std.proofs.lemmas.List.{length-set}
use Rattle.container_methods.specs.Arrays.{values_of, answer}
use Rattle.counted_heap.specs.declared.thing.Thing.{Thing}
use Rattle.rooted_heap.specs.Rooted.{contents}
use Rattle.rooted_heap.specs.Changing.{with_change}
use Rattle.rooted_heap.specs.Writing.{written_in}
use Rattle.rooted_heap.proofs.Arrayed.{plain_can, alive_k, was_same, fits_was, left_can, sound_made_change, things_made_change, back_can, sound_back_again, things_back_again}
use Rattle.rooted_heap.proofs.Values.{room_left, new_view, same_view, view_of, pushed_values}
use Rattle.rooted_heap.proofs.rooted.RootedHeap.make_change.Goals as goal

pub keep_gone-requires : goal.keep_gone-requires
keep_gone-requires c =
    let slots = c.self.inside.slots.items in
    let top = c.self.inside.top in
    let short : top < 2 ^ 64 = omega arith in
    plain_can c.self.inside.heap c.self.inside.names slots top c.args.self.now c.self.view_is c.self.invariant short c.rising_law.ensures c.args.h c.args.change c.requires.takes (values_of c.in_ok-brought.brought) c.in_ok-brought.ensures

pub thing_mut-requires : goal.thing_mut-requires
thing_mut-requires c =
    let slots = c.self.inside.slots.items in
    let top = c.self.inside.top in
    let short : top < 2 ^ 64 = omega arith in
    alive_k c.self.inside.heap c.self.inside.names slots top c.args.self.now c.self.view_is c.self.invariant short c.rising_law.ensures c.args.h c.args.change c.requires.takes (values_of c.in_ok-brought.brought) c.in_ok-brought.ensures c.keep_gone.new.heap.things (ap (λ w. w.things) c.keep_gone.ensures)

pub change_thing-requires : goal.change_thing-requires
change_thing-requires c =
    let slots = c.self.inside.slots.items in
    let top = c.self.inside.top in
    let short : top < 2 ^ 64 = omega arith in
    fits_was c.self.inside.heap c.self.inside.names slots top c.args.self.now c.self.view_is c.self.invariant short c.rising_law.ensures c.args.h c.args.change c.requires.takes (values_of c.in_ok-brought.brought) c.in_ok-brought.ensures c.keep_gone.new.heap.things (ap (λ w. w.things) c.keep_gone.ensures) c.thing_mut.result.now c.thing_mut.ensures.value

pub give_up_gone-requires : goal.give_up_gone-requires
give_up_gone-requires c =
    let slots = c.self.inside.slots.items in
    let top = c.self.inside.top in
    let short : top < 2 ^ 64 = omega arith in
    left_can c.self.inside.heap c.self.inside.names slots top c.args.self.now c.self.view_is c.self.invariant short c.rising_law.ensures c.args.h c.args.change c.requires.takes (values_of c.in_ok-brought.brought) c.in_ok-brought.ensures c.keep_gone.new.heap.things (ap (λ w. w.things) c.keep_gone.ensures) c.thing_mut.result.now c.thing_mut.ensures.value c.change_thing.new.thing c.in-Ok.ensures.made.0 c.in-Ok.ensures.few (values_of c.in-Ok.gone) c.in-Ok.ensures.made.2

pub invariant_of-self : goal.invariant_of-self
invariant_of-self c =
    let slots = c.self.inside.slots.items in
    let top = c.self.inside.top in
    let short : top < 2 ^ 64 = omega arith in
    sound_made_change c.self.inside.heap c.self.inside.names slots top c.args.self.now c.self.view_is c.self.invariant short c.rising_law.ensures c.args.h c.args.change c.requires.takes (values_of c.in_ok-brought.brought) c.in_ok-brought.ensures c.keep_gone.new.heap.things (ap (λ w. w.things) c.keep_gone.ensures) c.thing_mut.result.now c.thing_mut.ensures.value c.change_thing.new.thing c.in-Ok.ensures.made.0 c.in-Ok.ensures.few (values_of c.in-Ok.gone) c.in-Ok.ensures.made.2 c.give_up_gone.new.heap.things (ap (λ w. w.things) c.give_up_gone.ensures)
    c.in-Ok.answer c.in-Ok.ensures.made.1 (room_left slots c.args.self.now.values c.args.self.now.slots (ap (λ w. w.values) c.self.view_is) (ap (λ w. w.slots) c.self.view_is) c.self.invariant.within c.requires.room)

pub returns-in-Ok-clause-ok : goal.returns-in-Ok-clause-ok
returns-in-Ok-clause-ok c =
    let slots = c.self.inside.slots.items in
    let top = c.self.inside.top in
    let short : top < 2 ^ 64 = omega arith in
    let old = c.args.self.now in
    let same = was_same c.self.inside.heap c.self.inside.names slots top c.args.self.now c.self.view_is c.self.invariant short c.rising_law.ensures c.args.h c.args.change c.requires.takes (values_of c.in_ok-brought.brought) c.in_ok-brought.ensures c.keep_gone.new.heap.things (ap (λ w. w.things) c.keep_gone.ensures) c.thing_mut.result.now c.thing_mut.ensures.value in
    record {
      was = c.requires.takes.was;
      was_is = c.requires.takes.was_is;
      fits = c.requires.takes.fits;
      new_is = new_view c.self.inside.heap c.give_up_gone.new.heap c.self.inside.names slots _ top _ old c.self.view_is
          (written_in old.things c.args.h (with_change c.args.change c.requires.takes.was)) old.made _
          (things_made_change c.self.inside.heap c.self.inside.names slots top c.args.self.now c.self.view_is c.self.invariant short c.rising_law.ensures c.args.h c.args.change c.requires.takes (values_of c.in_ok-brought.brought) c.in_ok-brought.ensures c.keep_gone.new.heap.things (ap (λ w. w.things) c.keep_gone.ensures) c.thing_mut.result.now c.thing_mut.ensures.value c.change_thing.new.thing c.in-Ok.ensures.made.0 c.in-Ok.ensures.few (values_of c.in-Ok.gone) c.in-Ok.ensures.made.2 c.give_up_gone.new.heap.things (ap (λ w. w.things) c.give_up_gone.ensures))
          (ap (λ h. h.round) c.give_up_gone.ensures ∙ ap (λ h. h.round) c.keep_gone.ensures)
          (ap (λ h. h.made) c.give_up_gone.ensures ∙ ap (λ h. h.made) c.keep_gone.ensures ∙ ap (λ w. w.made) c.self.view_is)
          (length-set slots top c.in-Ok.answer)
          (pushed_values slots top old.values c.in-Ok.answer (answer c.args.change (contents c.requires.takes.was)) (ap (λ w. w.values) c.self.view_is) (room_left slots c.args.self.now.values c.args.self.now.slots (ap (λ w. w.values) c.self.view_is) (ap (λ w. w.slots) c.self.view_is) c.self.invariant.within c.requires.room)
          (c.in-Ok.ensures.made.1 ∙ ap (λ (t : Thing). answer c.args.change (contents t)) same));
    }

pub give_up_gone-requires-in-Err : goal.give_up_gone-requires-in-Err
give_up_gone-requires-in-Err c =
    let slots = c.self.inside.slots.items in
    let top = c.self.inside.top in
    let short : top < 2 ^ 64 = omega arith in
    back_can c.self.inside.heap c.self.inside.names slots top c.args.self.now c.self.view_is c.self.invariant short c.rising_law.ensures c.args.h c.args.change c.requires.takes (values_of c.in_ok-brought.brought) c.in_ok-brought.ensures c.keep_gone.new.heap.things (ap (λ w. w.things) c.keep_gone.ensures) c.thing_mut.result.now c.thing_mut.ensures.value c.change_thing.new.thing c.in-Err.ensures.made.0

pub invariant_of-self-in-Err : goal.invariant_of-self-in-Err
invariant_of-self-in-Err c =
    let slots = c.self.inside.slots.items in
    let top = c.self.inside.top in
    let short : top < 2 ^ 64 = omega arith in
    sound_back_again c.self.inside.heap c.self.inside.names slots top c.args.self.now c.self.view_is c.self.invariant short c.rising_law.ensures c.args.h c.args.change c.requires.takes (values_of c.in_ok-brought.brought) c.in_ok-brought.ensures c.keep_gone.new.heap.things (ap (λ w. w.things) c.keep_gone.ensures) c.thing_mut.result.now c.thing_mut.ensures.value c.change_thing.new.thing c.in-Err.ensures.made.0 c.give_up_gone-in-Err.new.heap.things (ap (λ w. w.things) c.give_up_gone-in-Err.ensures)

pub returns-clause-err : goal.returns-clause-err
returns-clause-err c =
    let slots = c.self.inside.slots.items in
    let top = c.self.inside.top in
    let short : top < 2 ^ 64 = omega arith in
    let old = c.args.self.now in
    same_view (view_of c.give_up_gone-in-Err.new.heap c.self.inside.names slots top) old
    (things_back_again c.self.inside.heap c.self.inside.names slots top c.args.self.now c.self.view_is c.self.invariant short c.rising_law.ensures c.args.h c.args.change c.requires.takes (values_of c.in_ok-brought.brought) c.in_ok-brought.ensures c.keep_gone.new.heap.things (ap (λ w. w.things) c.keep_gone.ensures) c.thing_mut.result.now c.thing_mut.ensures.value c.change_thing.new.thing c.in-Err.ensures.made.0 c.give_up_gone-in-Err.new.heap.things (ap (λ w. w.things) c.give_up_gone-in-Err.ensures) ∙ ap (λ w. w.things) c.self.view_is)
    (ap (λ h. h.round) c.give_up_gone-in-Err.ensures ∙ ap (λ h. h.round) c.keep_gone.ensures ∙ ap (λ w. w.round) c.self.view_is)
    (ap (λ h. h.made) c.give_up_gone-in-Err.ensures ∙ ap (λ h. h.made) c.keep_gone.ensures ∙ ap (λ w. w.made) c.self.view_is)
    (ap (λ w. w.names) c.self.view_is)
    (ap (λ w. w.slots) c.self.view_is)
    (ap (λ w. w.values) c.self.view_is)
