use Rattle.std.proofs.Common.{◌^◌, ◌<◌, List, map, ap, ◌∙◌, sym, subst, arith}
use Rattle.slot_arena.specs.Slots.{Entry, written_at}
use Rattle.counted_heap.specs.declared.thing.Thing.{Thing}
use Rattle.rooted_heap.specs.Rooted.{bare, IsThere, IsSound}
use Rattle.rooted_heap.specs.Pairs.{lying}
use Rattle.rooted_heap.proofs.Erased.{can_take, sound_taken_out, erased_turns, small_here}
use Rattle.rooted_heap.proofs.Read.{dict_named, alive_at}
use Rattle.rooted_heap.proofs.Swapped.{written_same}
use Rattle.rooted_heap.proofs.Values.{place_of}
use Rattle.rooted_heap.proofs.rooted.RootedHeap.take_pair.Goals as goal

pub thing_mut-requires : goal.thing_mut-requires
thing_mut-requires c =
    let slots = c.self.inside.slots.items in
    let lt = place_of slots c.args.self.now.values c.args.i (ap (λ w. w.values) c.self.view_is) c.self.invariant.within c.requires in
    alive_at c.self.invariant c.args.i lt c.index.result.now c.index.ensures c.in-Some.h (dict_named c.index.result.now c.in-Some.h (sym c.in-Some.ensures))

pub invariant_of-self : goal.invariant_of-self
invariant_of-self c =
    let es = c.self.inside.heap.things in
    let names = c.self.inside.names in
    let slots = c.self.inside.slots.items in
    let top = c.self.inside.top in
    let h = c.in-Some.h in
    let was = c.thing_mut.result.now in
    let new = c.erase_from.new.thing in
    let found = c.thing_mut.ensures.value in
    subst (λ (l : List (Entry Thing)). IsSound l names slots top) (sym (ap (written_at es h) c.in_err-pair.ensures.err ∙ written_same 0 es h was c.rising_law.ensures found)) c.self.invariant

pub give_up_pair-requires : goal.give_up_pair-requires
give_up_pair-requires c =
    let es = c.self.inside.heap.things in
    let names = c.self.inside.names in
    let slots = c.self.inside.slots.items in
    let top = c.self.inside.top in
    let h = c.in-Some.h in
    let was = c.thing_mut.result.now in
    let new = c.erase_from.new.thing in
    let found = c.thing_mut.ensures.value in
    let short : top < 2 ^ 64 = omega arith in
    can_take es names slots top c.self.invariant short c.rising_law.ensures h was new found (lying c.in_ok-pair.pair)
    (erased_turns (IsThere (map bare es) names) was new c.args.key.now c.in_ok-pair.pair c.in_ok-pair.ensures.ok c.in_ok-pair.ensures.pair c.in_ok-pair.ensures.few (small_here c.self.invariant h was found))

pub invariant_of-self-2 : goal.invariant_of-self-2
invariant_of-self-2 c =
    let es = c.self.inside.heap.things in
    let names = c.self.inside.names in
    let slots = c.self.inside.slots.items in
    let top = c.self.inside.top in
    let h = c.in-Some.h in
    let was = c.thing_mut.result.now in
    let new = c.erase_from.new.thing in
    let found = c.thing_mut.ensures.value in
    let short : top < 2 ^ 64 = omega arith in
    sound_taken_out es names slots top c.self.invariant short c.rising_law.ensures h was new found (lying c.in_ok-pair.pair)
    (erased_turns (IsThere (map bare es) names) was new c.args.key.now c.in_ok-pair.pair c.in_ok-pair.ensures.ok c.in_ok-pair.ensures.pair c.in_ok-pair.ensures.few (small_here c.self.invariant h was found))
    c.give_up_pair.new.heap.things (ap (λ w. w.things) c.give_up_pair.ensures)
