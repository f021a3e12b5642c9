use Rattle.std.proofs.Common.{◌^◌, ◌<◌, Option, unwrap_or, ap, ◌∙◌, sym, arith}
use Rattle.std.proofs.lemmas.List.{length-set}
use Rattle.gd_model.specs.declared.value.Value.{Value}
use Rattle.gd_model.specs.declared.value.Value.TheVariants as v
use Rattle.gd_holding.specs.Handles.{value_handle}
use Rattle.rooted_heap.specs.Rooted.{RootedView, thing_at}
use Rattle.rooted_heap.specs.Reading.{dict_handle}
use Rattle.rooted_heap.specs.Writing.{written_in}
use Rattle.rooted_heap.specs.Entries.{with_entry, entry_of}
use Rattle.rooted_heap.proofs.Dropping.{plain_handle}
use Rattle.rooted_heap.proofs.Exchanged.{first_held, first_below, second_held, second_below, still_alive, found_before, again_can, sound_put, things_put, plain_held, named_held, sound_back, things_back}
use Rattle.rooted_heap.proofs.Putting.{dict_there}
use Rattle.rooted_heap.proofs.Read.{dict_named, alive_at}
use Rattle.rooted_heap.proofs.Seen.{thing_is_value}
use Rattle.rooted_heap.proofs.Values.{place_of, room_left, value_is, new_view, same_view, view_of, pushed_values}
use Rattle.rooted_heap.proofs.rooted.RootedHeap.exchange_entry.Goals as goal

pub keep-requires-clause-held : goal.keep-requires-clause-held
keep-requires-clause-held c =
    let es = c.self.inside.heap.things in
    let slots = c.self.inside.slots.items in
    let top = c.self.inside.top in
    let short : top < 2 ^ 64 = omega arith in
    let plain = ap value_handle c.plain_part_of-named.ensures ∙ plain_handle c.args.value in
    first_held c.self.inside.heap c.self.inside.names slots top c.args.self.now c.self.view_is c.self.invariant short c.rising_law.ensures c.args.key c.args.value c.requires.held_key c.requires.held c.named_by-named_key.result c.plain_part_of-named.result c.named_by-named_key.ensures.handle plain

pub keep-requires-clause-below : goal.keep-requires-clause-below
keep-requires-clause-below c =
    let es = c.self.inside.heap.things in
    let slots = c.self.inside.slots.items in
    let top = c.self.inside.top in
    let short : top < 2 ^ 64 = omega arith in
    let plain = ap value_handle c.plain_part_of-named.ensures ∙ plain_handle c.args.value in
    first_below c.self.inside.heap c.self.inside.names slots top c.args.self.now c.self.view_is c.self.invariant short c.rising_law.ensures c.args.key c.args.value c.requires.held_key c.requires.held c.named_by-named_key.result c.plain_part_of-named.result c.named_by-named_key.ensures.handle plain

pub keep-requires-2-clause-held : goal.keep-requires-2-clause-held
keep-requires-2-clause-held c =
    let es = c.self.inside.heap.things in
    let slots = c.self.inside.slots.items in
    let top = c.self.inside.top in
    let short : top < 2 ^ 64 = omega arith in
    let plain = ap value_handle c.plain_part_of-named.ensures ∙ plain_handle c.args.value in
    second_held c.self.inside.heap c.self.inside.names slots top c.args.self.now c.self.view_is c.self.invariant short c.rising_law.ensures c.args.key c.args.value c.requires.held_key c.requires.held c.named_by-named_key.result c.plain_part_of-named.result c.named_by-named_key.ensures.handle plain c.keep.new.heap.things (ap (λ w. w.things) c.keep.ensures.counted)

pub keep-requires-2-clause-below : goal.keep-requires-2-clause-below
keep-requires-2-clause-below c =
    let es = c.self.inside.heap.things in
    let slots = c.self.inside.slots.items in
    let top = c.self.inside.top in
    let short : top < 2 ^ 64 = omega arith in
    let plain = ap value_handle c.plain_part_of-named.ensures ∙ plain_handle c.args.value in
    second_below c.self.inside.heap c.self.inside.names slots top c.args.self.now c.self.view_is c.self.invariant short c.rising_law.ensures c.args.key c.args.value c.requires.held_key c.requires.held c.named_by-named_key.result c.plain_part_of-named.result c.named_by-named_key.ensures.handle plain c.keep.new.heap.things (ap (λ w. w.things) c.keep.ensures.counted)

pub thing_mut-requires : goal.thing_mut-requires
thing_mut-requires c =
    let es = c.self.inside.heap.things in
    let slots = c.self.inside.slots.items in
    let top = c.self.inside.top in
    let short : top < 2 ^ 64 = omega arith in
    let plain = ap value_handle c.plain_part_of-named.ensures ∙ plain_handle c.args.value in
    let lt = place_of slots c.args.self.now.values c.args.i (ap (λ w. w.values) c.self.view_is) c.self.invariant.within c.requires.there in
    still_alive c.self.inside.heap c.self.inside.names slots top c.args.self.now c.self.view_is c.self.invariant short c.rising_law.ensures c.args.key c.args.value c.requires.held_key c.requires.held c.named_by-named_key.result c.plain_part_of-named.result c.named_by-named_key.ensures.handle plain c.keep.new.heap.things (ap (λ w. w.things) c.keep.ensures.counted) c.keep-2.new.heap.things (ap (λ w. w.things) c.keep-2.ensures.counted) c.in-Some.h
    (alive_at c.self.invariant c.args.i lt c.index.result.now c.index.ensures c.in-Some.h (dict_named c.index.result.now c.in-Some.h (sym c.in-Some.ensures)))

pub put_pair-requires : goal.put_pair-requires
put_pair-requires c =
    let es = c.self.inside.heap.things in
    let slots = c.self.inside.slots.items in
    let top = c.self.inside.top in
    let short : top < 2 ^ 64 = omega arith in
    let plain = ap value_handle c.plain_part_of-named.ensures ∙ plain_handle c.args.value in
    let lt = place_of slots c.args.self.now.values c.args.i (ap (λ w. w.values) c.self.view_is) c.self.invariant.within c.requires.there in
    let before = found_before c.self.inside.heap c.self.inside.names slots top c.args.self.now c.self.view_is c.self.invariant short c.rising_law.ensures c.args.key c.args.value c.requires.held_key c.requires.held c.named_by-named_key.result c.plain_part_of-named.result c.named_by-named_key.ensures.handle plain c.keep.new.heap.things (ap (λ w. w.things) c.keep.ensures.counted) c.keep-2.new.heap.things (ap (λ w. w.things) c.keep-2.ensures.counted) c.in-Some.h c.thing_mut.result.now c.thing_mut.ensures.value in
    let dict = dict_there c.self.invariant c.rising_law.ensures c.args.i lt c.index.result.now c.index.ensures c.in-Some.h (sym c.in-Some.ensures) c.thing_mut.result.now before in
    dict

pub give_up_again-requires : goal.give_up_again-requires
give_up_again-requires c =
    let es = c.self.inside.heap.things in
    let slots = c.self.inside.slots.items in
    let top = c.self.inside.top in
    let short : top < 2 ^ 64 = omega arith in
    let plain = ap value_handle c.plain_part_of-named.ensures ∙ plain_handle c.args.value in
    let lt = place_of slots c.args.self.now.values c.args.i (ap (λ w. w.values) c.self.view_is) c.self.invariant.within c.requires.there in
    let before = found_before c.self.inside.heap c.self.inside.names slots top c.args.self.now c.self.view_is c.self.invariant short c.rising_law.ensures c.args.key c.args.value c.requires.held_key c.requires.held c.named_by-named_key.result c.plain_part_of-named.result c.named_by-named_key.ensures.handle plain c.keep.new.heap.things (ap (λ w. w.things) c.keep.ensures.counted) c.keep-2.new.heap.things (ap (λ w. w.things) c.keep-2.ensures.counted) c.in-Some.h c.thing_mut.result.now c.thing_mut.ensures.value in
    let dict = dict_there c.self.invariant c.rising_law.ensures c.args.i lt c.index.result.now c.index.ensures c.in-Some.h (sym c.in-Some.ensures) c.thing_mut.result.now before in
    again_can c.self.inside.heap c.self.inside.names slots top c.args.self.now c.self.view_is c.self.invariant short c.rising_law.ensures c.args.key c.args.value c.requires.held_key c.requires.held c.named_by-named_key.result c.plain_part_of-named.result c.named_by-named_key.ensures.handle plain c.keep.new.heap.things (ap (λ w. w.things) c.keep.ensures.counted) c.keep-2.new.heap.things (ap (λ w. w.things) c.keep-2.ensures.counted) c.in-Some.h c.thing_mut.result.now c.thing_mut.ensures.value c.put_pair.new.thing c.in-Ok.old dict c.in-Ok.ensures.ok c.in-Ok.ensures.few

pub invariant_of-self : goal.invariant_of-self
invariant_of-self c =
    let es = c.self.inside.heap.things in
    let slots = c.self.inside.slots.items in
    let top = c.self.inside.top in
    let short : top < 2 ^ 64 = omega arith in
    let plain = ap value_handle c.plain_part_of-named.ensures ∙ plain_handle c.args.value in
    let lt = place_of slots c.args.self.now.values c.args.i (ap (λ w. w.values) c.self.view_is) c.self.invariant.within c.requires.there in
    let before = found_before c.self.inside.heap c.self.inside.names slots top c.args.self.now c.self.view_is c.self.invariant short c.rising_law.ensures c.args.key c.args.value c.requires.held_key c.requires.held c.named_by-named_key.result c.plain_part_of-named.result c.named_by-named_key.ensures.handle plain c.keep.new.heap.things (ap (λ w. w.things) c.keep.ensures.counted) c.keep-2.new.heap.things (ap (λ w. w.things) c.keep-2.ensures.counted) c.in-Some.h c.thing_mut.result.now c.thing_mut.ensures.value in
    let dict = dict_there c.self.invariant c.rising_law.ensures c.args.i lt c.index.result.now c.index.ensures c.in-Some.h (sym c.in-Some.ensures) c.thing_mut.result.now before in
    sound_put c.self.inside.heap c.self.inside.names slots top c.args.self.now c.self.view_is c.self.invariant short c.rising_law.ensures c.args.key c.args.value c.requires.held_key c.requires.held c.named_by-named_key.result c.plain_part_of-named.result c.named_by-named_key.ensures.handle plain c.keep.new.heap.things (ap (λ w. w.things) c.keep.ensures.counted) c.keep-2.new.heap.things (ap (λ w. w.things) c.keep-2.ensures.counted) c.in-Some.h c.thing_mut.result.now c.thing_mut.ensures.value c.put_pair.new.thing c.in-Ok.old dict c.in-Ok.ensures.ok c.in-Ok.ensures.few c.give_up_again.new.heap.things (ap (λ w. w.things) c.give_up_again.ensures)
    c.unwrap_or.result c.unwrap_or.ensures (room_left slots c.args.self.now.values c.args.self.now.slots (ap (λ w. w.values) c.self.view_is) (ap (λ w. w.slots) c.self.view_is) c.self.invariant.within c.requires.room)

pub returns-in-Ok-clause-put : goal.returns-in-Ok-clause-put
returns-in-Ok-clause-put c =
    let es = c.self.inside.heap.things in
    let slots = c.self.inside.slots.items in
    let top = c.self.inside.top in
    let short : top < 2 ^ 64 = omega arith in
    let plain = ap value_handle c.plain_part_of-named.ensures ∙ plain_handle c.args.value in
    let lt = place_of slots c.args.self.now.values c.args.i (ap (λ w. w.values) c.self.view_is) c.self.invariant.within c.requires.there in
    let before = found_before c.self.inside.heap c.self.inside.names slots top c.args.self.now c.self.view_is c.self.invariant short c.rising_law.ensures c.args.key c.args.value c.requires.held_key c.requires.held c.named_by-named_key.result c.plain_part_of-named.result c.named_by-named_key.ensures.handle plain c.keep.new.heap.things (ap (λ w. w.things) c.keep.ensures.counted) c.keep-2.new.heap.things (ap (λ w. w.things) c.keep-2.ensures.counted) c.in-Some.h c.thing_mut.result.now c.thing_mut.ensures.value in
    let dict = dict_there c.self.invariant c.rising_law.ensures c.args.i lt c.index.result.now c.index.ensures c.in-Some.h (sym c.in-Some.ensures) c.thing_mut.result.now before in
    let old = c.args.self.now in
    let at = value_is slots top old.values c.args.i c.index.result.now v.Nil (ap (λ w. w.values) c.self.view_is) c.self.invariant.within lt c.index.ensures in
    λ _. record {
      handle = c.in-Some.h;
      named = ap dict_handle (sym at) ∙ sym c.in-Some.ensures;
      was = c.thing_mut.result.now;
      was_is = ap (λ (w : RootedView). thing_at w.things c.in-Some.h) (sym c.self.view_is) ∙ thing_is_value 0 es c.in-Some.h c.rising_law.ensures ∙ before;
      new_is = new_view c.self.inside.heap c.give_up_again.new.heap c.self.inside.names slots _ top _ old c.self.view_is
          (written_in old.things c.in-Some.h (with_entry c.thing_mut.result.now c.args.key c.args.value)) old.made _
          (things_put c.self.inside.heap c.self.inside.names slots top c.args.self.now c.self.view_is c.self.invariant short c.rising_law.ensures c.args.key c.args.value c.requires.held_key c.requires.held c.named_by-named_key.result c.plain_part_of-named.result c.named_by-named_key.ensures.handle plain c.keep.new.heap.things (ap (λ w. w.things) c.keep.ensures.counted) c.keep-2.new.heap.things (ap (λ w. w.things) c.keep-2.ensures.counted) c.in-Some.h c.thing_mut.result.now c.thing_mut.ensures.value c.put_pair.new.thing c.in-Ok.old dict c.in-Ok.ensures.ok c.in-Ok.ensures.few c.give_up_again.new.heap.things (ap (λ w. w.things) c.give_up_again.ensures)
          ∙ ap (λ (w : RootedView). written_in w.things c.in-Some.h c.put_pair.new.thing) c.self.view_is
          ∙ ap (written_in old.things c.in-Some.h) c.in-Ok.ensures.ok.now_is)
          (ap (λ h. h.round) c.give_up_again.ensures ∙ ap (λ h. h.round) c.keep-2.ensures.counted ∙ ap (λ h. h.round) c.keep.ensures.counted)
          (ap (λ h. h.made) c.give_up_again.ensures ∙ ap (λ h. h.made) c.keep-2.ensures.counted ∙ ap (λ h. h.made) c.keep.ensures.counted ∙ ap (λ w. w.made) c.self.view_is)
          (length-set slots top c.unwrap_or.result)
          (pushed_values slots top old.values c.unwrap_or.result (unwrap_or (entry_of c.thing_mut.result.now c.args.key) v.Nil) (ap (λ w. w.values) c.self.view_is) (room_left slots c.args.self.now.values c.args.self.now.slots (ap (λ w. w.values) c.self.view_is) (ap (λ w. w.slots) c.self.view_is) c.self.invariant.within c.requires.room)
          (c.unwrap_or.ensures ∙ ap (λ (o : Option Value). unwrap_or o v.Nil) c.in-Ok.ensures.ok.old_is));
    }

pub give_up-requires : goal.give_up-requires
give_up-requires c =
    let es = c.self.inside.heap.things in
    let slots = c.self.inside.slots.items in
    let top = c.self.inside.top in
    let short : top < 2 ^ 64 = omega arith in
    let plain = ap value_handle c.plain_part_of-named.ensures ∙ plain_handle c.args.value in
    record { held = plain_held c.self.inside.heap c.self.inside.names slots top c.args.self.now c.self.view_is c.self.invariant short c.rising_law.ensures c.args.key c.args.value c.requires.held_key c.requires.held c.named_by-named_key.result c.plain_part_of-named.result c.named_by-named_key.ensures.handle plain c.keep.new.heap.things (ap (λ w. w.things) c.keep.ensures.counted) c.keep-2.new.heap.things (ap (λ w. w.things) c.keep-2.ensures.counted) c.in-Some.h c.thing_mut.result.now c.thing_mut.ensures.value c.put_pair.new.thing c.in-Err.ensures.err }

pub give_up-requires-in-Err : goal.give_up-requires-in-Err
give_up-requires-in-Err c =
    let es = c.self.inside.heap.things in
    let slots = c.self.inside.slots.items in
    let top = c.self.inside.top in
    let short : top < 2 ^ 64 = omega arith in
    let plain = ap value_handle c.plain_part_of-named.ensures ∙ plain_handle c.args.value in
    record { held = named_held c.self.inside.heap c.self.inside.names slots top c.args.self.now c.self.view_is c.self.invariant short c.rising_law.ensures c.args.key c.args.value c.requires.held_key c.requires.held c.named_by-named_key.result c.plain_part_of-named.result c.named_by-named_key.ensures.handle plain c.keep.new.heap.things (ap (λ w. w.things) c.keep.ensures.counted) c.keep-2.new.heap.things (ap (λ w. w.things) c.keep-2.ensures.counted) c.in-Some.h c.thing_mut.result.now c.thing_mut.ensures.value c.put_pair.new.thing c.in-Err.ensures.err c.give_up.new.heap.things (ap (λ w. w.things) c.give_up.ensures.counted) }

pub invariant_of-self-in-Err : goal.invariant_of-self-in-Err
invariant_of-self-in-Err c =
    let es = c.self.inside.heap.things in
    let slots = c.self.inside.slots.items in
    let top = c.self.inside.top in
    let short : top < 2 ^ 64 = omega arith in
    let plain = ap value_handle c.plain_part_of-named.ensures ∙ plain_handle c.args.value in
    sound_back c.self.inside.heap c.self.inside.names slots top c.args.self.now c.self.view_is c.self.invariant short c.rising_law.ensures c.args.key c.args.value c.requires.held_key c.requires.held c.named_by-named_key.result c.plain_part_of-named.result c.named_by-named_key.ensures.handle plain c.keep.new.heap.things (ap (λ w. w.things) c.keep.ensures.counted) c.keep-2.new.heap.things (ap (λ w. w.things) c.keep-2.ensures.counted) c.in-Some.h c.thing_mut.result.now c.thing_mut.ensures.value c.put_pair.new.thing c.in-Err.ensures.err c.give_up.new.heap.things (ap (λ w. w.things) c.give_up.ensures.counted) c.give_up-in-Err.new.heap.things (ap (λ w. w.things) c.give_up-in-Err.ensures.counted)

pub returns-clause-err : goal.returns-clause-err
returns-clause-err c =
    let es = c.self.inside.heap.things in
    let slots = c.self.inside.slots.items in
    let top = c.self.inside.top in
    let short : top < 2 ^ 64 = omega arith in
    let plain = ap value_handle c.plain_part_of-named.ensures ∙ plain_handle c.args.value in
    let old = c.args.self.now in
    same_view (view_of c.give_up-in-Err.new.heap c.self.inside.names slots top) old
    (things_back c.self.inside.heap c.self.inside.names slots top c.args.self.now c.self.view_is c.self.invariant short c.rising_law.ensures c.args.key c.args.value c.requires.held_key c.requires.held c.named_by-named_key.result c.plain_part_of-named.result c.named_by-named_key.ensures.handle plain c.keep.new.heap.things (ap (λ w. w.things) c.keep.ensures.counted) c.keep-2.new.heap.things (ap (λ w. w.things) c.keep-2.ensures.counted) c.in-Some.h c.thing_mut.result.now c.thing_mut.ensures.value c.put_pair.new.thing c.in-Err.ensures.err c.give_up.new.heap.things (ap (λ w. w.things) c.give_up.ensures.counted) c.give_up-in-Err.new.heap.things (ap (λ w. w.things) c.give_up-in-Err.ensures.counted) ∙ ap (λ w. w.things) c.self.view_is)
    (ap (λ h. h.round) c.give_up-in-Err.ensures.counted ∙ ap (λ h. h.round) c.give_up.ensures.counted ∙ ap (λ h. h.round) c.keep-2.ensures.counted ∙ ap (λ h. h.round) c.keep.ensures.counted ∙ ap (λ w. w.round) c.self.view_is)
    (ap (λ h. h.made) c.give_up-in-Err.ensures.counted ∙ ap (λ h. h.made) c.give_up.ensures.counted ∙ ap (λ h. h.made) c.keep-2.ensures.counted ∙ ap (λ h. h.made) c.keep.ensures.counted ∙ ap (λ w. w.made) c.self.view_is)
    (ap (λ w. w.names) c.self.view_is)
    (ap (λ w. w.slots) c.self.view_is)
    (ap (λ w. w.values) c.self.view_is)
