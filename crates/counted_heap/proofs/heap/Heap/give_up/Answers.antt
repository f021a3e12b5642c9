use Rattle.std.proofs.Common.{[], List, length, map, refl, sym, ap, ◌∙◌, subst, arith, length-append}
use Rattle.std.specs.Option.{option_copied, option_map_or}
use Rattle.slot_arena.specs.declared.handle.Handle.{Handle}
use Rattle.slot_arena.specs.Slots.{Entry}
use Rattle.gd_holding.specs.Handles.{value_handle, pair_places}
use Rattle.gd_holding.specs.Holding.{filled, CanGiveUp}
use Rattle.gd_holding.specs.Rounds.{given_up}
use Rattle.counted_heap.proofs.Parts.{in_parts, given_up-append, can_first, can_then}
use Rattle.counted_heap.proofs.heap.Heap.give_up.Goals as goal

pub give_up_values-requires : goal.give_up_values-requires
give_up_values-requires g c =
    let parts = in_parts _ _ c.items.result.now _ _ (g.met.T.Holds.placed c.args.thing.now) c.items.ensures refl in
    can_first _ _ _ (subst (CanGiveUp c.args.self.now.things) parts c.requires)

pub give_up_pairs-requires : goal.give_up_pairs-requires
give_up_pairs-requires g c =
    let dict = sym c.dict.ensures ∙ ap (λ o. option_map_or (λ d. d.pairs) (option_copied o) []) c.in-Some.is in
    let parts = in_parts _ _ c.items.result.now _ c.in-Some.dict.now.pairs (g.met.T.Holds.placed c.args.thing.now) c.items.ensures dict in
    rw c.give_up_values.ensures.given (can_then _ _ _ (subst (CanGiveUp c.args.self.now.things) parts c.requires))

pub returns-in-Some-clause-given : goal.returns-in-Some-clause-given
returns-in-Some-clause-given g c =
    let dict = sym c.dict.ensures ∙ ap (λ o. option_map_or (λ d. d.pairs) (option_copied o) []) c.in-Some.is in
    let parts = in_parts _ _ c.items.result.now _ c.in-Some.dict.now.pairs (g.met.T.Holds.placed c.args.thing.now) c.items.ensures dict in
    rw (c.give_up_pairs.ensures.given, c.give_up_values.ensures.given)
    (ap (λ (es : List (Entry g.row.T.Denot)). record c.args.self.now { things = es })
    (sym (ap (given_up c.args.self.now.things) parts ∙ given_up-append c.args.self.now.things (filled (map value_handle c.items.result.now)) (filled (pair_places c.in-Some.dict.now.pairs)))))

pub returns-in-Some-clause-calls : goal.returns-in-Some-clause-calls
returns-in-Some-clause-calls g c =
    let dict = sym c.dict.ensures ∙ ap (λ o. option_map_or (λ d. d.pairs) (option_copied o) []) c.in-Some.is in
    let parts = in_parts _ _ c.items.result.now _ c.in-Some.dict.now.pairs (g.met.T.Holds.placed c.args.thing.now) c.items.ensures dict in
    let long = ap (λ (hs : List Handle). length hs) parts ∙ length-append (filled (map value_handle c.items.result.now)) (filled (pair_places c.in-Some.dict.now.pairs)) in
    omega (arith, long, c.give_up_values.ensures.calls, c.give_up_pairs.ensures.calls)
