use Rattle.std.proofs.Common.{◌≡◌, List, map, length, ap, sym, subst, ◌∙◌, rules}
use Rattle.std.specs.Prelude.{reverse}
use Rattle.std.specs.List.Sorted.{IsPermutation}
use Rattle.slot_arena.specs.declared.handle.Handle.{Handle}
use Rattle.gd_holding.specs.Rounds.{round_after, current_round}
use Rattle.counted_heap.proofs.Turn.{nothing, sound_turned, turned_round, same_heap}
use Rattle.counted_heap.proofs.heap.Heap.begin_round.Goals as goal

pub invariant_of-self : goal.invariant_of-self
invariant_of-self g c =
    let none : length c.self.inside.round.items ≡ 0 = search rules in
    let moved = subst (λ (v : _). IsPermutation v.items c.sort_falling.new.handles.items) c.swap.ensures.x_after c.sort_falling.ensures.all in
    rw (c.swap.ensures.y_after, c.sort_falling.ensures.capacity, c.swap.ensures.x_after)
    (sound_turned c.self.invariant (nothing _ none) c.sort_falling.new.handles.items moved c.sort_falling.ensures.falling)

pub returns-then-is_empty-clause-round : goal.returns-then-is_empty-clause-round
returns-then-is_empty-clause-round g c =
    let none : length c.self.inside.round.items ≡ 0 = search rules in
    let moved = subst (λ (v : _). IsPermutation v.items c.sort_falling.new.handles.items) c.swap.ensures.x_after c.sort_falling.ensures.all in
    let turned = turned_round c.self.invariant (nothing _ none) c.sort_falling.new.handles.items moved c.sort_falling.ensures.falling in
    same_heap _ _
    (ap (λ v. v.things) c.self.view_is)
    (turned
    ∙ ap (λ (l : List Handle). round_after (g.S.Slots.things c.self.inside.slots) (map (λ (h : Handle). h.serial) (reverse l))) (sym (nothing _ none))
    ∙ ap current_round c.self.view_is)
    (ap (λ v. v.made) c.self.view_is)
