use Rattle.std.proofs.Common.{◌+◌, ◌-◌, ◌<◌, ap, ◌∙◌, sym, arith}
use Rattle.gd_model.specs.declared.value.Value.TheVariants as v
use Rattle.gd_holding.specs.Handles.{value_handle}
use Rattle.rooted_heap.proofs.Read.{object_named, alive_at}
use Rattle.rooted_heap.proofs.Swapped.{sound_swap, unswapped, swaps}
use Rattle.rooted_heap.proofs.Values.{place_of, value_is}
use Rattle.rooted_heap.proofs.rooted.RootedHeap.swap_variable.Goals as goal

pub thing_mut-requires : goal.thing_mut-requires
thing_mut-requires c =
    let slots = c.self.inside.slots.items in
    let some = place_of slots c.args.self.now.values (c.args.i + 1) (ap (λ w. w.values) c.self.view_is) c.self.invariant.within c.requires in
    let lt : c.args.i < c.self.inside.top = omega arith in
    let any : 0 < c.self.inside.top = omega arith in
    alive_at c.self.invariant c.args.i lt c.index.result.now c.index.ensures c.in-Some.h (object_named c.index.result.now c.in-Some.h (sym c.in-Some.ensures))

pub invariant_of-self : goal.invariant_of-self
invariant_of-self c =
    let slots = c.self.inside.slots.items in
    let some = place_of slots c.args.self.now.values (c.args.i + 1) (ap (λ w. w.values) c.self.view_is) c.self.invariant.within c.requires in
    let lt : c.args.i < c.self.inside.top = omega arith in
    let any : 0 < c.self.inside.top = omega arith in
    sound_swap c.self.invariant c.in-Some.h c.thing_mut.result.now c.exchange_variable-done.new.thing (c.self.inside.top - 1) (omega arith) c.index_mut-last.result.now c.exchange_variable-done.new.value c.index_mut-last.ensures.value
    c.rising_law.ensures c.rising_law-2.ensures c.thing_mut.ensures.value c.args.k c.exchange_variable-done.result
    c.exchange_variable-done.ensures.exchanged c.exchange_variable-done.ensures.few c.exchange_variable-done.ensures.same_thing c.exchange_variable-done.ensures.same_value

pub returns-clause-swapped : goal.returns-clause-swapped
returns-clause-swapped c =
    let slots = c.self.inside.slots.items in
    let some = place_of slots c.args.self.now.values (c.args.i + 1) (ap (λ w. w.values) c.self.view_is) c.self.invariant.within c.requires in
    let lt : c.args.i < c.self.inside.top = omega arith in
    let any : 0 < c.self.inside.top = omega arith in
    let at = value_is slots c.self.inside.top c.args.self.now.values c.args.i c.index.result.now v.Nil (ap (λ w. w.values) c.self.view_is) c.self.invariant.within lt c.index.ensures in
    λ yes. swaps c.self.inside.heap c.self.inside.names c.self.inside.slots.items c.self.inside.top c.args.self.now c.self.view_is c.self.invariant.within any c.in-Some.h c.thing_mut.result.now c.exchange_variable-done.new.thing c.rising_law.ensures c.thing_mut.ensures.value c.index_mut-last.result.now c.exchange_variable-done.new.value c.index_mut-last.ensures.value
    c.args.i c.args.k (ap value_handle (sym at) ∙ object_named c.index.result.now c.in-Some.h (sym c.in-Some.ensures)) (c.exchange_variable-done.ensures.exchanged yes)

pub returns-clause-same : goal.returns-clause-same
returns-clause-same c =
    let slots = c.self.inside.slots.items in
    let some = place_of slots c.args.self.now.values (c.args.i + 1) (ap (λ w. w.values) c.self.view_is) c.self.invariant.within c.requires in
    let lt : c.args.i < c.self.inside.top = omega arith in
    let any : 0 < c.self.inside.top = omega arith in
    λ no. unswapped c.self.inside.heap c.self.inside.names c.self.inside.slots.items c.self.inside.top c.args.self.now c.self.view_is c.self.invariant.within any c.in-Some.h c.thing_mut.result.now c.exchange_variable-done.new.thing c.rising_law.ensures c.thing_mut.ensures.value c.index_mut-last.result.now c.exchange_variable-done.new.value c.index_mut-last.ensures.value
    (c.exchange_variable-done.ensures.same_thing no) (c.exchange_variable-done.ensures.same_value no)
